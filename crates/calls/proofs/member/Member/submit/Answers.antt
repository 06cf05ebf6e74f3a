use Rattle.calls.specs.Answers.{submission}
use Rattle.calls.proofs.Members.{after_submit}
use Rattle.calls.proofs.member.Member.submit.Goals as goal

pub invariant_of-self : goal.invariant_of-self
invariant_of-self c = after_submit c.args.self.now c.submit.new.self c.submit.ensures.size submission c.submit.result c.args.level c.args.bytes.now c.submit.ensures.after
