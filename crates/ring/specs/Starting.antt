-- A ring at its start.
use Rattle.std.specs.Prelude.{◌≡◌, ℕ, []}
use Rattle.links.specs.Meaning.{Waits, Cleared}
use Rattle.head.specs.Head.{fresh}
use Rattle.ring.specs.declared.types.Heads.{Heads}
use Rattle.ring.specs.Ring.{Trip}
use Rattle.ring.specs.Law.{Lawful}
use Rattle.ring.specs.Table.{head_at}
use Rattle.ring.specs.Moves.{ring_of}

-- it has as many heads as were fitted, each at the start, and nothing waits for any: the empty trip leads to it, and all three hold
pub record Started (n : ℕ) (hs : Heads) (w : Waits) : Type 0 where
  pub size : hs.size.heads ≡ n
  pub heads : head_at hs.all ≡ fresh
  pub waits : Cleared w
  pub leads : Trip n [] (ring_of hs w)
  pub law : Lawful n [] (ring_of hs w)
