use Rattle.std.proofs.Common.{Some}
use Rattle.calls.specs.Answers.{hearing}
use Rattle.calls.proofs.Members.{after_hear}
use Rattle.calls.proofs.member.Member.hear.Goals as goal

pub invariant_of-self : goal.invariant_of-self
invariant_of-self c = after_hear c.args.self.now c.hear.new.self c.hear.ensures.size hearing c.hear.result (Some c.args.bytes.now) c.hear.ensures.after
