-- A put and then a take, over any link.
use Rattle.std.specs.Prelude.{◌≡◌, ℕ, ◌⊎◌, List, Some, None, Option}
use mathlib.Core.List.{Memᴰ}
use Rattle.links.specs.Meaning.{Waits}

-- nothing comes, or a packet that was put or waited for the head before
abbrev pub Came : List ℕ → ℕ → Option (List ℕ) → Waits → Type 0
Came p h None w = Unit {0}
Came p h (Some q) w = Memᴰ q (w h) ⊎ (q ≡ p)
