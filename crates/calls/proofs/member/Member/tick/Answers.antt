use Rattle.calls.proofs.Members.{after_settle}
use Rattle.calls.proofs.member.Member.tick.Goals as goal

pub invariant_of-self : goal.invariant_of-self
invariant_of-self c = after_settle c.count_tick-done.new.self c.settle.new.self c.settle.ensures.size c.settle.ensures.after
