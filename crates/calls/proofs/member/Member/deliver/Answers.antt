use Rattle.std.proofs.Common.{Ok}
use Rattle.calls.specs.Answers.{handed}
use Rattle.calls.proofs.Members.{after_deliver}
use Rattle.calls.proofs.member.Member.deliver.Goals as goal

pub invariant_of-self : goal.invariant_of-self
invariant_of-self c = after_deliver c.args.self.now c.deliver.new.self c.deliver.ensures.size handed (Ok c.deliver.result) c.deliver.ensures.after
