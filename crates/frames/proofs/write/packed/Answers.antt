use Rattle.std.proofs.Common.{◌≡◌, length, take, drop, sym, refl, ap, ◌∙◌, arith}
use Rattle.std.proofs.lemmas.List.{take_at}
use Rattle.frames.specs.Types.{frame_of}
use Rattle.frames.specs.Written.{written}
use Rattle.frames.specs.Reading.{read}
use Rattle.frames.proofs.Tables.{filler_past}
use Rattle.frames.proofs.Laws.{reads_back}
use Rattle.frames.proofs.write.packed.Goals as goal

pub returns-clause-rest : goal.returns-clause-rest
returns-clause-rest c =
    let n = c.args.size.heads in
    let ws = written n (frame_of c.args.frame) in
    let l = c.len-count.ensures.value n in
    rw l (ap (drop (length ws)) c.write_front.ensures ∙ filler_past 0 32 (length ws) ws refl)

pub returns-clause-back : goal.returns-clause-back
returns-clause-back c =
    let n = c.args.size.heads in
    let f = frame_of c.args.frame in
    let m = c.args.size.most in
    let k = c.len-count.result in
    let w : take k c.write_front.new.out ≡ written n f = ap (take k) c.write_front.ensures ∙ take_at (written n f) _ k (sym (c.len-count.ensures.value n)) in
    ap (read n) w ∙ reads_back n f (omega arith) c.requires
