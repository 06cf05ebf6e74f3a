use Rattle.calls.proofs.Members.{new_member}
use Rattle.calls.proofs.member.Member.new.Goals as goal

pub invariant_of-result : goal.invariant_of-result
invariant_of-result c = new_member c.args.heads c.args.me c.in_ok-head.head c.in_ok-head.ensures
