-- What no call takes back, and what its counters stay below: for every head and every input.
use Rattle.std.specs.Prelude.{◌≡◌, ℕ, ◌<◌, ◌≤◌, List, Option}
use Rattle.head.specs.Head.{Head, mark, end, low}
use Rattle.head.specs.Submit.{submit}
use Rattle.head.specs.Hear.{hear}
use Rattle.head.specs.Turn.{turn}
use Rattle.head.specs.Tick.{tick}
use Rattle.head.specs.Deliver.{deliver}

-- the counters of a head in their bounds
pub record Bounded (h : Head) : Type 0 where
  pub made_most : h.made ≤ 500000
  pub ticks_most : h.ticks < 32
  pub tries_most : h.tries ≤ 15

-- the head y is what became of the head x: made, base, due, mark, end and every low are where they were or higher
pub record Later (x y : Head) : Type 0 where
  pub same_head : y.me ≡ x.me
  pub made_rises : x.made ≤ y.made
  pub base_rises : x.base ≤ y.base
  pub due_rises : x.due ≤ y.due
  pub mark_rises : mark x ≤ mark y
  pub end_rises : end x ≤ end y
  pub low_rises : (s : ℕ) → low x s ≤ low y s
  pub bounded : Bounded x → Bounded y

-- so it is after each of the five calls
pub record NothingFalls (n : ℕ) (h : Head) : Type 0 where
  pub submitting : (l : ℕ) (b : List ℕ) → Later h (submit n l b h).head
  pub hearing : (t : Option (List ℕ)) → Later h (hear n t h).head
  pub turning : Later h (turn n h).head
  pub ticking : Later h (tick n h).head
  pub delivering : Later h (deliver n h).head

-- of every head, in a ring of any size
abbrev pub NeverFalls : Type 0
NeverFalls = (n : ℕ) (h : Head) → NothingFalls n h
