use Rattle.std.proofs.Common.{sym, ◌∙◌}
use Rattle.store.proofs.Holding.{holders_none, holders_some}
use Rattle.store.proofs.types.Queue.holders.Goals as goal

pub returns-in-None-clause-value : goal.returns-in-None-clause-value
returns-in-None-clause-value c = λ h k. sym (holders_none c.args.ring.size.heads c.args.ring.me c.args.self.now c.args.stamp h k c.in-None.ensures.value)

pub returns-in-Some-clause-value : goal.returns-in-Some-clause-value
returns-in-Some-clause-value c = λ h k. c.others.ensures.value _ c.issuers_from.ensures ∙ sym (holders_some c.args.ring.size.heads c.args.ring.me c.args.self.now c.args.stamp h k c.in-Some.stamp c.in-Some.ensures.value)
