use Rattle.std.proofs.Common.{◌≡◌, true, ap, ◌∙◌, arith}
use Rattle.std.proofs.lemmas.Result.{err_from_is_err_and}
use Rattle.frames.specs.Made.{name_for, body_for}
use Rattle.frames.specs.Reading.{counted}
use Rattle.frames.proofs.Accepted.{front_name, front_counted, data_name_fails, data_goes}
use Rattle.frames.proofs.read.read_data.Goals as goal

pub returns-in_err-name-clause-answer : goal.returns-in_err-name-clause-answer
returns-in_err-name-clause-answer c =
    let p = err_from_is_err_and c.from_residual.result c.from_residual.ensures.1 in
    let bs = c.args.bytes.now in
    let t = c.in-Some.ensures.cases in
    let k : counted 1 bs ≡ true = front_counted bs _ _ t 1 (omega arith) in
    rw (p.1, p.2) (data_name_fails c.args.size.heads bs _ k (c.in_err-name.ensures ∙ ap (name_for c.args.size.heads) (front_name bs _ _ t)))

pub returns-in-Ok-clause-answer : goal.returns-in-Ok-clause-answer
returns-in-Ok-clause-answer c =
    let n = c.args.size.heads in
    let bs = c.args.bytes.now in
    let t = c.in-Some.ensures.cases in
    let k : counted 1 bs ≡ true = front_counted bs _ _ t 1 (omega arith) in
    data_goes n bs _ _ k (c.in_ok-name.ensures ∙ ap (name_for n) (front_name bs _ _ t)) (c.in-Ok.ensures.answer ∙ ap body_for t.1)
