-- What holds of a ring after every call of every trip.
use Rattle.std.specs.Prelude.{◌≡◌, ℕ, suc, ◌<◌, ◌≤◌, cond, ◌≢◌, List, [], ◌∷◌, ◌++◌, map, length, ◌==◌}
use mathlib.Core.List.{Memᴰ}
use Rattle.frames.specs.Bounds.{needs}
use Rattle.frames.specs.Values.{Message}
use Rattle.ring.specs.Ring.{Ring, Event, Trip}
use Rattle.ring.specs.Record.{Happened, Delivers, Submitted, issued, all_names, Ordered, Received, GivenUp, submissions, deliveries}

-- the first list is a beginning of the second
abbrev pub FrontOf : List Message → List Message → Type 0
FrontOf xs ys = (zs : List Message) × (ys ≡ xs ++ zs)

-- those of the messages that are from the source
abbrev pub of_source : ℕ → List Message → List Message
of_source s [] = []
of_source s (m ∷ ms) = cond (m.name.source == s) (m ∷ of_source s ms) (of_source s ms)

-- how many of the messages are from the source
abbrev pub from_source : ℕ → List Message → ℕ
from_source s [] = 0
from_source s (m ∷ ms) = cond (m.name.source == s) (suc (from_source s ms)) (from_source s ms)

-- from each source the numbers are 1, 2, 3 and on
abbrev pub InTurn : List Message → Type 0
InTurn ms = (before : List Message) (m : Message) (rest : List Message) → ms ≡ before ++ (m ∷ rest) → m.name.number ≡ suc (from_source m.name.source before)

-- no source and number stands twice
abbrev pub Once : List Message → Type 0
Once [] = Unit {0}
Once (m ∷ ms) = ((k : Message) → Memᴰ k ms → m.name.source ≡ k.name.source → m.name.number ≢ k.name.number) × Once ms

-- one common list: what was ordered, in the order of issue, each message submitted and none twice, from each source in turn and as that
-- head submitted them; and every head's deliveries are a beginning of it
pub record Agreed (n : ℕ) (es : List Event) : Type 0 where
  pub list : List Message
  pub order : map (λ (m : Message). m.name) list ≡ all_names (issued es)
  pub submitted : (m : Message) → Memᴰ m list → Submitted m es
  pub once : Once list
  pub in_turn : InTurn list
  pub own : (h : ℕ) → h < n → FrontOf (of_source h list) (submissions h es)
  pub fronts : (h : ℕ) → h < n → FrontOf (deliveries h es) list

-- different heads, other than h
abbrev pub Apart : ℕ → List ℕ → Type 0
Apart h [] = Unit {0}
Apart h (g ∷ gs) = (g ≢ h) × ((k : ℕ) → Memᴰ k gs → g ≢ k) × Apart h gs

-- a delivered message has the stamp that it was ordered at, and as many other heads as its level needs have received it
abbrev pub Resilient : ℕ → List Event → Ring → Type 0
Resilient n es r = (h : ℕ) (m : Message) (t : ℕ) → Happened (Delivers h m t) es → Ordered m t es × ((gs : List ℕ) × Apart h gs × (needs n m.name.level ≤ length gs) × ((g : ℕ) → Memᴰ g gs → (g < n) × Received n es r g m t))

-- what one head has given up, every head has received
abbrev pub Retained : ℕ → List Event → Ring → Type 0
Retained n es r = (h g : ℕ) (m : Message) (t : ℕ) → h < n → g < n → Submitted m es → Ordered m t es → GivenUp r h t → Received n es r g m t

-- all three
pub record Lawful (n : ℕ) (es : List Event) (r : Ring) : Type 0 where
  pub agreed : Agreed n es
  pub resilient : Resilient n es r
  pub retained : Retained n es r

-- for every ring of 2 to 8 heads, over every link, after every call of every trip
abbrev pub Law : Type 0
Law = (n : ℕ) → 2 ≤ n → n ≤ 8 → (es : List Event) (r : Ring) → Trip n es r → Lawful n es r
