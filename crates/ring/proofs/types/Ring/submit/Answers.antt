use Rattle.std.proofs.Common.{None, refl, rules}
use Rattle.calls.specs.Answers.{submission}
use Rattle.ring.specs.Ring.{submits, perform}
use Rattle.ring.proofs.types.Ring.submit.Goals as goal

pub act-requires-clause-meant : goal.act-requires-clause-meant
unfolding perform
act-requires-clause-meant g c = (record { call = submits c.args.level c.args.body.now; taken = None; word = submission }, λ x d y r. search rules)

pub returns : goal.returns
unfolding perform
returns g c = c.act.ensures (record { call = submits c.args.level c.args.body.now; taken = None; word = submission }) (λ x d y r. search rules) _ (refl, refl)
