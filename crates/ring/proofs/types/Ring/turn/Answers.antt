use Rattle.std.proofs.Common.{None, refl, rules}
use Rattle.calls.specs.Answers.{turned}
use Rattle.ring.specs.Ring.{turns, perform}
use Rattle.ring.proofs.types.Ring.turn.Goals as goal

pub act-requires-clause-meant : goal.act-requires-clause-meant
unfolding perform
act-requires-clause-meant g c = (record { call = turns; taken = None; word = turned }, λ x d y r. search rules)

pub returns : goal.returns
unfolding perform
returns g c = c.act.ensures (record { call = turns; taken = None; word = turned }) (λ x d y r. search rules) _ (refl, refl)
