use Rattle.frames.specs.Types.{names_of}
use Rattle.calls.specs.Members.{model_of}
use Rattle.calls.proofs.Ticking.{fire_ack_as}
use Rattle.calls.proofs.member.Member.fire_ack.Goals as goal

pub returns-clause-after : goal.returns-clause-after
returns-clause-after c =
    let x = c.args.self.now in
    let e = c.issue-ack.ensures in
    rw (c.fired.ensures.answer, c.fired.ensures.puts, c.fired.ensures.issued)
    (fire_ack_as x.head.size.heads (model_of x) c.frames_there-puts.result (names_of c.args.names) _ (model_of c.issue-ack.new.self) _ c.frames_there-puts.ensures e.ack e.after c.lowest_own.ensures)
