-- The queue after a body was filled in, and after an ACK was placed.
use Rattle.std.proofs.Common.{◌≡◌, ℕ, suc, ◌+◌, ◌≤◌, Bool, true, false, not, ◌||◌, eqb, refl, ap, ◌∙◌, inl, inr, arith}
use Rattle.std.proofs.lemmas.Bool.{cases_Bool, cases_lt, both_ways, cond-true, cond-false, eq-eqb, ne_eqb, or_parts, not-false}
use Rattle.frames.specs.Values.{Ack, Message}
use Rattle.head.specs.Head.{Head, fill, fill_in, place, set_slots, sweep}
use Rattle.head.specs.Hear.{bad_names, contradicts}
use Rattle.head.specs.Leaves.{PlacedAt}
use Rattle.head.specs.Queue.{Queue, all_unknown}
use Rattle.head.specs.Slots.{cells, known, size, twice, whole}
use Rattle.head.proofs.Names.{all_unknown_at}
use Rattle.head.proofs.Slots.{cells_block, fill_in_known, over_known, over_unknown}

pub fill_at : (x : Head) (t : ℕ) (m : Message) (s : ℕ) → s ≡ t → (fill x t m).queue s ≡ whole m
unfolding fill
fill_at x t m s e = cond-true (eqb s t) (whole m) (x.queue s) (eq-eqb s t e)

pub fill_off : (x : Head) (t : ℕ) (m : Message) (s : ℕ) → (s ≡ t → ⊥) → (fill x t m).queue s ≡ x.queue s
unfolding fill
fill_off x t m s e = cond-false (eqb s t) (whole m) (x.queue s) (ne_eqb s t e)

pub place_same : (x : Head) (a : Ack) → ((place x a).base ≡ x.base) × ((place x a).due ≡ x.due) × ((place x a).made ≡ x.made)
unfolding place sweep set_slots
place_same x a = (refl, refl, refl)

pub place_in : (x : Head) (a : Ack) (s : ℕ) → known (cells a s) ≡ true → (place x a).queue s ≡ fill_in x.pending (cells a s)
unfolding place sweep set_slots
place_in x a s e = over_known (fill_in x.pending (cells a s)) (x.queue s) (fill_in_known x.pending a s ∙ e)

pub place_off : (x : Head) (a : Ack) (s : ℕ) → known (cells a s) ≡ false → (place x a).queue s ≡ x.queue s
unfolding place sweep set_slots
place_off x a s e = over_unknown (fill_in x.pending (cells a s)) (x.queue s) (fill_in_known x.pending a s ∙ e)

-- all stamps of the ACK's block are unknown
abbrev pub Free : Queue → Ack → Type 0
Free q a = (s : ℕ) → a.stamp ≤ s → s ≤ a.stamp + size a → known (q s) ≡ false

-- what was known was outside the block
pub outside : (q : Queue) (a : Ack) → Free q a → (s : ℕ) → known (q s) ≡ true → known (cells a s) ≡ false
outside q a free s e = elim (cases_Bool (known (cells a s))) [
  | inl o ↦ absurd (both_ways (known (q s)) (free s (cells_block a s o).0 (cells_block a s o).1) e)
  | inr o ↦ o
]

-- and stays as it was
pub place_stays : (x : Head) (a : Ack) → Free x.queue a → (s : ℕ) → known (x.queue s) ≡ true → (place x a).queue s ≡ x.queue s
place_stays x a free s e = place_off x a s (outside x.queue a free s e)

-- the block of an ACK that contradicts nothing is free
pub free_block : (x : Head) (a : Ack) → contradicts x a ≡ false → Free x.queue a
free_block x a z s from to =
    let A : Bool = eqb a.issuer x.me in
    let B : Bool = not (all_unknown x.queue (suc (size a)) a.stamp) in
    let p : (B || (twice a.names || bad_names x a.names)) ≡ false = (or_parts A (B || (twice a.names || bad_names x a.names)) z).1 in
    let q : B ≡ false = (or_parts B (twice a.names || bad_names x a.names) p).0 in
    all_unknown_at x.queue (suc (size a)) a.stamp s (not-false (all_unknown x.queue (suc (size a)) a.stamp) q) from (omega arith)

-- of a placed ACK: what was known stays as it was
pub known_stays : (x : Head) (a : Ack) (q : Queue) → PlacedAt x a q → (u : ℕ) → known (x.queue u) ≡ true → q u ≡ x.queue u
known_stays x a q p u e = elim (cases_lt u a.stamp) [
  | inl l ↦ p.others u (inl l)
  | inr l ↦ elim (cases_lt (a.stamp + size a) u) [
    | inl r ↦ p.others u (inr r)
    | inr r ↦ absurd (both_ways (known (x.queue u)) (ap known (p.were_unknown u l r)) e)
  ]
]
