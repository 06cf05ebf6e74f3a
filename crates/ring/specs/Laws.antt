-- More that holds of every ring: one token, no contradiction heard, deliveries that do not part.
use Rattle.std.specs.Prelude.{◌≡◌, ℕ, ◌<◌, ◌≤◌, true, ◌≢◌, ◌⊎◌, List, ◌∷◌}
use Rattle.frames.specs.declared.refusal.Refusal.TheVariants.{NotAFrame, FieldOutOfRange, Contradiction}
use Rattle.head.specs.Head.{holds}
use Rattle.head.specs.Answers.{refused}
use Rattle.ring.specs.Ring.{Ring, Event, hears, Trip}
use Rattle.ring.specs.Record.{deliveries}
use Rattle.ring.specs.Law.{FrontOf}

-- at most one head holds the token
abbrev pub OneToken : Type 0
OneToken = (n : ℕ) → 2 ≤ n → n ≤ 8 → (es : List Event) (r : Ring) → Trip n es r → (g h : ℕ) → g < n → h < n → holds n (r.heads g) ≡ true → holds n (r.heads h) ≡ true → g ≡ h

-- of any two heads' deliveries one is a beginning of the other
abbrev pub AnyTwo : Type 0
AnyTwo = (n : ℕ) → 2 ≤ n → n ≤ 8 → (es : List Event) (r : Ring) → Trip n es r → (g h : ℕ) → g < n → h < n → FrontOf (deliveries g es) (deliveries h es) ⊎ FrontOf (deliveries h es) (deliveries g es)

-- in a ring hear never refuses for what the radio brought: no frame, a field out of range, a contradiction
abbrev pub RadioSilent : Type 0
RadioSilent = (n : ℕ) → 2 ≤ n → n ≤ 8 → (e : Event) (es : List Event) (r : Ring) → Trip n (e ∷ es) r → e.call ≡ hears → (e.answer ≢ refused NotAFrame) × (e.answer ≢ refused FieldOutOfRange) × (e.answer ≢ refused Contradiction)
