use Rattle.std.proofs.Common.{◌≡◌, true, get_or, ap, ◌∙◌, arith}
use Rattle.std.proofs.lemmas.Result.{err_from_is_err_and}
use Rattle.frames.specs.Made.{names_for}
use Rattle.frames.specs.declared.types.Frame.TheVariants as Frame
use Rattle.frames.specs.Bounds.{after}
use Rattle.frames.specs.Reading.{counted, word_at}
use Rattle.frames.proofs.Accepted.{front_at, front_word, front_counted, front_names, ranged_means, ranged_rest, ack_fails, many_names, no_issuer, other_next, ack_names_fail, ack_goes}
use Rattle.frames.proofs.read.read_ack.Goals as goal
use Rattle.frames.proofs.read.read_ack.Goals.{then-count-gt4-via-then-count-gt4, then-count-gt4-via-else-count-gt4+then-issuer-size, then-count-gt4-via-else-count-gt4+else-issuer-size+then-next-after}

pub returns-then-count-gt4 : goal.returns-then-count-gt4
returns-then-count-gt4 c =
    let n = c.args.size.heads in
    let bs = c.args.bytes.now in
    let t = c.in-Some.ensures.cases in
    let k : counted 6 bs ≡ true = front_counted bs _ _ t 6 c.if-rest-count.false in
    let e = ack_fails n bs k (elim c.then-count-gt4.branch [
      | then-count-gt4-via-then-count-gt4 w ↦ many_names n bs (rw (front_at bs _ _ t 7 (omega arith)) at w.if-count-gt4.true)
      | then-count-gt4-via-else-count-gt4+then-issuer-size w ↦ no_issuer n bs (rw (front_at bs _ _ t 5 (omega arith)) at w.if-issuer-size.true)
      | then-count-gt4-via-else-count-gt4+else-issuer-size+then-next-after w ↦ other_next n bs (rw (w.after.ensures, front_at bs _ _ t 6 (omega arith), front_at bs _ _ t 5 (omega arith)) at w.if-next-after.true)
    ]) in
    record { answer = e; rest = tt }

pub returns-in_err-names : goal.returns-in_err-names
returns-in_err-names c =
    let p = err_from_is_err_and c.from_residual.result c.from_residual.ensures.1 in
    let n = c.args.size.heads in
    let bs = c.args.bytes.now in
    let t = c.in-Some.ensures.cases in
    let k : counted 6 bs ≡ true = front_counted bs _ _ t 6 c.if-rest-count.false in
    let m = front_names bs _ _ t _ c.if-rest-count.false c.as_chunks.ensures.front in
    rw (p.1, p.2) record { answer = ack_names_fail n bs _ k (c.in_err-names.ensures.answer ∙ ap (names_for n) m); rest = tt }

pub returns : goal.returns
returns c =
    let n = c.args.size.heads in
    let bs = c.args.bytes.now in
    let t = c.in-Some.ensures.cases in
    let k : counted 6 bs ≡ true = front_counted bs _ _ t 6 c.if-rest-count.false in
    let m = front_names bs _ _ t _ c.if-rest-count.false c.as_chunks.ensures.front in
    let i = front_at bs _ _ t 5 (omega arith) in
    let x : get_or bs 6 0 ≡ after n (get_or bs 5 0) = rw (c.after.ensures, front_at bs _ _ t 6 (omega arith), i) at c.if-next-after.false in
    let w : c.from_be_bytes-stamp.result ≡ word_at bs 1 = c.from_be_bytes-stamp.ensures ∙ front_word bs _ _ t in
    let f = Frame.Ack (record { stamp = c.from_be_bytes-stamp.result; issuer = get_or c.in-Some.front.now 5 0; names = c.in_ok-names.names }) in
    let g = rw i at (ranged_means n f _ c.ranged.ensures.answer) in
    record {
      answer = ack_goes n _ bs _ _ k x w (c.in_ok-names.ensures.answer ∙ ap (names_for n) m) g;
      rest = ranged_rest _ f _ c.ranged.ensures.answer c.in_ok-names.ensures.rest;
    }
