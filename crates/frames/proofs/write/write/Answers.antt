use Rattle.std.proofs.Common.{ℕ, List, length, take, sym, refl, ap, ◌∙◌, arith}
use Rattle.std.proofs.lemmas.List.{take_at}
use Rattle.frames.specs.Types.{frame_of}
use Rattle.frames.specs.Written.{written}
use Rattle.frames.specs.Reading.{read}
use Rattle.frames.proofs.Laws.{reads_back}
use Rattle.frames.proofs.write.write.Goals as goal

pub returns-clause-back : goal.returns-clause-back
returns-clause-back c =
    let n = c.args.size.heads in
    let f = frame_of c.args.frame in
    let m = c.args.size.most in
    λ _. ap (λ (o : List ℕ). read n (take (length (written n f)) o)) c.write_front.ensures
    ∙ (ap (read n) (take_at (written n f) _ (length (written n f)) refl) ∙ reads_back n f (omega arith) (sym c.if-not-suits.ensures))
