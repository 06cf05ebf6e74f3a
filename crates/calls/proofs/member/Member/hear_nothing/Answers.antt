use Rattle.std.proofs.Common.{None, Ok}
use Rattle.calls.specs.Answers.{hearing}
use Rattle.calls.proofs.Members.{after_hear}
use Rattle.calls.proofs.member.Member.hear_nothing.Goals as goal

pub invariant_of-self : goal.invariant_of-self
invariant_of-self c = after_hear c.args.self.now c.hear_nothing.new.self c.hear_nothing.ensures.size hearing (Ok c.hear_nothing.result) None c.hear_nothing.ensures.after
