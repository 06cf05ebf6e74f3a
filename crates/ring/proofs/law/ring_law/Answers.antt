-- ring_law
use Rattle.ring.proofs.law.ring_law.Goals as goal
use Rattle.ring.proofs.Trip.{law}
use Rattle.ring.proofs.Laws.{one_token, any_two, radio_silent}

pub returns : goal.returns
returns c = record { law = law; one_token = one_token; any_two = any_two; radio_silent = radio_silent }
