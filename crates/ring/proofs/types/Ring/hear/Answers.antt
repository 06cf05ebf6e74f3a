use Rattle.std.proofs.Common.{rules}
use Rattle.links.specs.Types.{taken_of}
use Rattle.calls.specs.Answers.{hearing}
use Rattle.ring.specs.Ring.{hears, perform}
use Rattle.ring.proofs.types.Ring.hear.Goals as goal

pub act-requires-clause-meant : goal.act-requires-clause-meant
unfolding perform
act-requires-clause-meant g c = (record { call = hears; taken = taken_of c.take-packet.result; word = hearing }, λ x d y r. search rules)

pub returns : goal.returns
unfolding perform
returns g c = c.act.ensures (record { call = hears; taken = taken_of c.take-packet.result; word = hearing }) (λ x d y r. search rules) _ c.take-packet.ensures.meaning
