use Rattle.std.proofs.Common.{None, refl, rules}
use Rattle.calls.specs.Answers.{ticked}
use Rattle.ring.specs.Ring.{ticks, perform}
use Rattle.ring.proofs.types.Ring.tick.Goals as goal

pub act-requires-clause-meant : goal.act-requires-clause-meant
unfolding perform
act-requires-clause-meant g c = (record { call = ticks; taken = None; word = ticked }, λ x d y r. search rules)

pub returns : goal.returns
unfolding perform
returns g c = c.act.ensures (record { call = ticks; taken = None; word = ticked }) (λ x d y r. search rules) _ (refl, refl)
