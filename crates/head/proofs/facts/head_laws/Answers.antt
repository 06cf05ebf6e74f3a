-- head_laws
use Rattle.head.proofs.facts.head_laws.Goals as goal
use Rattle.head.proofs.NeverFalls.{never_falls}
use Rattle.head.proofs.Ranges.{stays_in_range}
use Rattle.head.proofs.Leaves.{leaves}
use Rattle.head.proofs.InOrder.{stays_in_order}

pub returns : goal.returns
returns c = record { never_falls = never_falls; stays_in_range = stays_in_range; leaves = leaves; stays_in_order = stays_in_order }
