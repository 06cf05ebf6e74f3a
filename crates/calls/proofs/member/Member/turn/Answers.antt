use Rattle.calls.proofs.Members.{after_settle}
use Rattle.calls.proofs.member.Member.turn.Goals as goal

pub invariant_of-self : goal.invariant_of-self
invariant_of-self c = after_settle c.order.new.self c.settle.new.self c.settle.ensures.size c.settle.ensures.after
