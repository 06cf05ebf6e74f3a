use Rattle.std.proofs.Common.{None, refl, rules}
use Rattle.calls.specs.Answers.{handed}
use Rattle.ring.specs.Ring.{delivers, perform}
use Rattle.ring.proofs.types.Ring.deliver.Goals as goal

pub act-requires-clause-meant : goal.act-requires-clause-meant
unfolding perform
act-requires-clause-meant g c = (record { call = delivers; taken = None; word = handed }, λ x d y r. search rules)

pub returns : goal.returns
unfolding perform
returns g c = c.act.ensures (record { call = delivers; taken = None; word = handed }) (λ x d y r. search rules) _ (refl, refl)
