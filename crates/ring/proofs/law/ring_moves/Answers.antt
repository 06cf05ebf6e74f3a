-- ring_moves
use Rattle.ring.proofs.law.ring_moves.Goals as goal
use Rattle.ring.proofs.Able.{every_call, every_miss, long_trip}

pub returns : goal.returns
returns c = record { every_call = every_call; every_miss = every_miss; long_trip = long_trip }
