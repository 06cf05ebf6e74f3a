use Rattle.std.proofs.Common.{ℕ, List, subst}
use Rattle.frames.specs.declared.refusal.Refusal.TheVariants.{FieldOutOfRange}
use Rattle.frames.specs.Values.{frame_ok}
use Rattle.frames.specs.Types.{frame_of, packet_of}
use Rattle.frames.specs.Written.{written}
use Rattle.frames.proofs.Steps.{passed}
use Rattle.links.specs.Meaning.{AfterPut}
use Rattle.ring.proofs.put.put_one.Goals as goal

pub returns : goal.returns
returns g c =
    let n = c.args.size.heads in
    let f = frame_of c.args.frame in
    let p = passed (frame_ok n f) (written n f) (packet_of c.in-Ok.packet) FieldOutOfRange c.in-Ok.ensures.answer in
    subst (λ (b : List ℕ). AfterPut b (g.L.Link.waits c.args.link.now) (g.L.Link.waits c.put.new.self)) p.1 c.put.ensures.meaning
