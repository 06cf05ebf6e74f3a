-- What stands in a slot, the slots that an ACK sets, and the tests on names.
use Rattle.std.proofs.Common.{◌≡◌, ℕ, zero, suc, ◌+◌, ◌-◌, ◌<◌, ◌≤◌, true, false, cond, not, eqb, ltb, ◌⊎◌, List, [], ◌∷◌, length, Some, None, Option, sym, refl, ap, ◌∙◌, inl, inr, add-zero, add-suc, suc-add, arith}
use mathlib.Core.List.Memᴰ
use mathlib.Core.List.{Memᴰ}
use Rattle.std.proofs.lemmas.Bool.{cases_lt, cases_eq, both_ways, cond-true, cond-false, eq-eqb, ne_eqb, eqb-true, and_parts, lt-ltb, le-ltb, and_from}
use Rattle.frames.specs.Values.{Ack, Message, Name}
use Rattle.head.specs.Head.{Kept, Pending, fill_in, filled_by}
use Rattle.head.specs.Hear.{found, other_level}
use Rattle.head.specs.Queue.{Queue, all_unknown, names_it}
use Rattle.head.specs.Slots.{Slot, ack, bare, cells, full, is_ack, known, named, nth_slot, over, same_bytes, same_message, same_names, size, unknown, whole}
use Rattle.head.proofs.Names.{listing, listing_suc, listing_zero, name_on}

-- what a slot has besides its body

abbrev pub stripped : Slot → Slot
stripped unknown = unknown
stripped (ack i ns) = ack i ns
stripped (bare x) = bare x
stripped (whole m) = bare m.name

pub stripped_known : (s : Slot) → known (stripped s) ≡ known s
stripped_known unknown = refl
stripped_known (ack i ns) = refl
stripped_known (bare x) = refl
stripped_known (whole m) = refl

pub stripped_named : (s : Slot) → named (stripped s) ≡ named s
stripped_named unknown = refl
stripped_named (ack i ns) = refl
stripped_named (bare x) = refl
stripped_named (whole m) = refl

pub stripped_ack : (s : Slot) → is_ack (stripped s) ≡ is_ack s
stripped_ack unknown = refl
stripped_ack (ack i ns) = refl
stripped_ack (bare x) = refl
stripped_ack (whole m) = refl

pub full_known : (s : Slot) → full s ≡ true → known s ≡ true
full_known unknown h = h
full_known (ack i ns) h = h
full_known (bare x) h = refl
full_known (whole m) h = h

pub ack_known : (s : Slot) → is_ack s ≡ true → known s ≡ true
ack_known unknown h = h
ack_known (ack i ns) h = h
ack_known (bare x) h = refl
ack_known (whole m) h = refl

pub ack_full : (s : Slot) → is_ack s ≡ true → full s ≡ true
ack_full unknown h = h
ack_full (ack i ns) h = h
ack_full (bare x) h = h
ack_full (whole m) h = refl

pub unknown_is : (s : Slot) → known s ≡ false → s ≡ unknown
unknown_is unknown h = refl
unknown_is (ack i ns) h = let z : ◌≡◌ {A = ℕ} 0 1 = cc in absurd (omega arith)
unknown_is (bare x) h = let z : ◌≡◌ {A = ℕ} 0 1 = cc in absurd (omega arith)
unknown_is (whole m) h = let z : ◌≡◌ {A = ℕ} 0 1 = cc in absurd (omega arith)

pub named_known : (s : Slot) (x : Name) → named s ≡ Some x → known s ≡ true
named_known unknown x e = let z : ◌≡◌ {A = ℕ} 0 1 = cc in absurd (omega arith)
named_known (ack i ns) x e = refl
named_known (bare y) x e = refl
named_known (whole m) x e = refl

pub over_known : (x y : Slot) → known x ≡ true → over x y ≡ x
over_known unknown y h = let z : ◌≡◌ {A = ℕ} 0 1 = cc in absurd (omega arith)
over_known (ack i ns) y h = refl
over_known (bare x) y h = refl
over_known (whole m) y h = refl

pub over_unknown : (x y : Slot) → known x ≡ false → over x y ≡ y
over_unknown unknown y h = refl
over_unknown (ack i ns) y h = let z : ◌≡◌ {A = ℕ} 0 1 = cc in absurd (omega arith)
over_unknown (bare x) y h = let z : ◌≡◌ {A = ℕ} 0 1 = cc in absurd (omega arith)
over_unknown (whole m) y h = let z : ◌≡◌ {A = ℕ} 0 1 = cc in absurd (omega arith)

-- the slots of one ACK

pub nth_in : (xs : List Name) (i : ℕ) → i < length xs → (x : Name) × (nth_slot xs i ≡ bare x)
nth_in [] i h = absurd (omega arith)
nth_in (x ∷ xs) i h =
    elim (cases_eq i 0) [
      | inl e ↦ (x, cond-true (eqb i 0) (bare x) (nth_slot xs (i - 1)) (eq-eqb i 0 e))
      | inr e ↦ let r : (y : Name) × (nth_slot xs (i - 1) ≡ bare y) = nth_in xs (i - 1) (omega arith) in (r.0, cond-false (eqb i 0) (bare x) (nth_slot xs (i - 1)) (ne_eqb i 0 e) ∙ r.1)
    ]

pub nth_out : (xs : List Name) (i : ℕ) → length xs ≤ i → nth_slot xs i ≡ unknown
nth_out [] i h = refl
nth_out (x ∷ xs) i h = cond-false (eqb i 0) (bare x) (nth_slot xs (i - 1)) (ne_eqb i 0 (λ e. omega arith)) ∙ nth_out xs (i - 1) (omega arith)

pub cells_below : (a : Ack) (s : ℕ) → s < a.stamp → cells a s ≡ unknown
unfolding cells
cells_below a s h = cond-false (eqb s a.stamp) (ack a.issuer a.names) (cond (ltb a.stamp s) (nth_slot a.names (s - a.stamp - 1)) unknown) (ne_eqb s a.stamp (λ e. omega arith)) ∙ cond-false (ltb a.stamp s) (nth_slot a.names (s - a.stamp - 1)) unknown (le-ltb a.stamp s (omega arith))

pub cells_at : (a : Ack) (s : ℕ) → s ≡ a.stamp → cells a s ≡ ack a.issuer a.names
unfolding cells
cells_at a s e = cond-true (eqb s a.stamp) (ack a.issuer a.names) (cond (ltb a.stamp s) (nth_slot a.names (s - a.stamp - 1)) unknown) (eq-eqb s a.stamp e)

pub cells_after : (a : Ack) (s : ℕ) → a.stamp < s → cells a s ≡ nth_slot a.names (s - a.stamp - 1)
unfolding cells
cells_after a s h = cond-false (eqb s a.stamp) (ack a.issuer a.names) (cond (ltb a.stamp s) (nth_slot a.names (s - a.stamp - 1)) unknown) (ne_eqb s a.stamp (λ e. omega arith)) ∙ cond-true (ltb a.stamp s) (nth_slot a.names (s - a.stamp - 1)) unknown (lt-ltb a.stamp s h)

pub cells_in : (a : Ack) (s : ℕ) → a.stamp < s → s ≤ a.stamp + size a → (x : Name) × (cells a s ≡ bare x)
cells_in a s h g = let r : (x : Name) × (nth_slot a.names (s - a.stamp - 1) ≡ bare x) = nth_in a.names (s - a.stamp - 1) (omega arith) in (r.0, cells_after a s h ∙ r.1)

pub cells_above : (a : Ack) (s : ℕ) → a.stamp + size a < s → cells a s ≡ unknown
cells_above a s h = cells_after a s (omega arith) ∙ nth_out a.names (s - a.stamp - 1) (omega arith)

-- known just in its block
pub cells_known : (a : Ack) (s : ℕ) → a.stamp ≤ s → s ≤ a.stamp + size a → known (cells a s) ≡ true
cells_known a s h g =
    elim (cases_eq s a.stamp) [
      | inl e ↦ ap known (cells_at a s e)
      | inr e ↦ ap known (cells_in a s (omega arith) g).1
    ]

pub cells_block : (a : Ack) (s : ℕ) → known (cells a s) ≡ true → (a.stamp ≤ s) × (s ≤ a.stamp + size a)
cells_block a s h =
    elim (cases_lt s a.stamp) [
      | inl l ↦ absurd (both_ways (known (cells a s)) (ap known (cells_below a s l)) h)
      | inr l ↦ elim (cases_lt (a.stamp + size a) s) [
        | inl g ↦ absurd (both_ways (known (cells a s)) (ap known (cells_above a s g)) h)
        | inr g ↦ (l, g)
      ]
    ]

-- an ACK stands only at its stamp
pub cells_ack : (a : Ack) (s : ℕ) → is_ack (cells a s) ≡ true → s ≡ a.stamp
cells_ack a s h =
    elim (cases_lt s a.stamp) [
      | inl l ↦ absurd (both_ways (is_ack (cells a s)) (ap is_ack (cells_below a s l)) h)
      | inr l ↦ elim (cases_eq s a.stamp) [
        | inl e ↦ e
        | inr e ↦ elim (cases_lt (a.stamp + size a) s) [
          | inl g ↦ absurd (both_ways (is_ack (cells a s)) (ap is_ack (cells_above a s g)) h)
          | inr g ↦ absurd (both_ways (is_ack (cells a s)) (ap is_ack (cells_in a s (omega arith) g).1) h)
        ]
      ]
    ]

pub nth_suc : (x : Name) (xs : List Name) (i : ℕ) → nth_slot (x ∷ xs) (suc i) ≡ nth_slot xs i
nth_suc x xs i =
    let e : suc i - 1 ≡ i = omega arith in
    cond-false (eqb (suc i) 0) (bare x) (nth_slot xs (suc i - 1)) (ne_eqb (suc i) 0 (λ z. omega arith)) ∙ ap (nth_slot xs) e

pub nth_listing : (q : Queue) (xs : List Name) (t : ℕ) → ((i : ℕ) → i < length xs → q (t + i) ≡ nth_slot xs i) → listing q (length xs) t ≡ xs
nth_listing q [] t h = listing_zero q t
nth_listing q (x ∷ xs) t h =
    let e : q t ≡ bare x = ap q (sym (add-zero t)) ∙ h 0 (omega arith) in
    let i : listing q (length xs) (suc t) ≡ xs = nth_listing q xs (suc t) (λ i l. ap q (suc-add t i ∙ sym (add-suc t i)) ∙ h (suc i) (omega arith) ∙ nth_suc x xs i) in
    listing_suc q (length xs) t ∙ ap (λ (s : Slot). name_on (named s) (listing q (length xs) (suc t))) e ∙ ap (λ (ys : List Name). x ∷ ys) i

pub cells_listing : (a : Ack) → listing (cells a) (suc (size a)) a.stamp ≡ a.names
cells_listing a =
    listing_suc (cells a) (size a) a.stamp
    ∙ ap (λ (s : Slot). name_on (named s) (listing (cells a) (size a) (suc a.stamp))) (cells_at a a.stamp refl)
    ∙ nth_listing (cells a) a.names (suc a.stamp) (λ i l. let e : suc a.stamp + i - a.stamp - 1 ≡ i = omega arith in cells_after a (suc a.stamp + i) (omega arith) ∙ ap (nth_slot a.names) e)

-- pending bodies move in

pub some_same : {A : Type 0} {x y : A} → Some x ≡ Some y → x ≡ y
some_same {A} {x} {y} e = ap (or x) e
  where
    or : A → Option A → A
    or d None = d
    or d (Some a) = a

pub cells_plain : (a : Ack) (s : ℕ) → (cells a s ≡ unknown) ⊎ ((cells a s ≡ ack a.issuer a.names) ⊎ ((x : Name) × (cells a s ≡ bare x)))
cells_plain a s = elim (cases_lt s a.stamp) [
  | inl o ↦ inl (cells_below a s o)
  | inr o ↦ elim (cases_eq s a.stamp) [
    | inl e ↦ inr (inl (cells_at a s e))
    | inr e ↦ elim (cases_lt (a.stamp + size a) s) [
      | inl g ↦ inl (cells_above a s g)
      | inr g ↦ inr (inr (cells_in a s (omega arith) g))
    ]
  ]
]

pub filled_stripped : (x : Name) (k : Option Kept) → stripped (filled_by x k) ≡ bare x
filled_stripped x None = refl
filled_stripped x (Some k) = refl

pub fill_in_stripped : (p : Pending) (a : Ack) (s : ℕ) → stripped (fill_in p (cells a s)) ≡ cells a s
fill_in_stripped p a s = elim (cells_plain a s) [
  | inl e ↦ ap (λ (y : Slot). stripped (fill_in p y)) e ∙ sym e
  | inr o ↦ elim o [
    | inl e ↦ ap (λ (y : Slot). stripped (fill_in p y)) e ∙ sym e
    | inr e ↦ ap (λ (y : Slot). stripped (fill_in p y)) e.1 ∙ (filled_stripped e.0 (p e.0.source e.0.number) ∙ sym e.1)
  ]
]

pub fill_in_known : (p : Pending) (a : Ack) (s : ℕ) → known (fill_in p (cells a s)) ≡ known (cells a s)
fill_in_known p a s = sym (stripped_known (fill_in p (cells a s))) ∙ ap known (fill_in_stripped p a s)

-- a body that a name found
pub filled_whole : (x : Name) (k : Option Kept) (m : Message) → filled_by x k ≡ whole m → (p : Kept) × (k ≡ Some p) × (m ≡ record { name = x; body = p.body })
filled_whole x None m e = let z : ◌≡◌ {A = ℕ} 0 1 = cc in absurd (omega arith)
filled_whole x (Some p) m e = let r : record { name = x; body = p.body } ≡ m = cc in (p, refl, sym r)

-- tests of equal values

pub same_bytes_refl : (b : List ℕ) → same_bytes b b ≡ true
same_bytes_refl [] = refl
same_bytes_refl (x ∷ xs) = and_from _ _ (eq-eqb x x refl) (same_bytes_refl xs)

pub same_message_refl : (x : Name) → same_message x x ≡ true
same_message_refl x = and_from _ _ (eq-eqb x.source x.source refl) (eq-eqb x.number x.number refl)

pub same_names_refl : (xs : List Name) → same_names xs xs ≡ true
same_names_refl [] = refl
same_names_refl (x ∷ xs) = and_from _ _ (and_from _ _ (same_message_refl x) (eq-eqb x.level x.level refl)) (same_names_refl xs)

abbrev pub SameMessage : Name → Name → Type 0
SameMessage x y = (x.source ≡ y.source) × (x.number ≡ y.number)

pub same_message_parts : (x y : Name) → same_message x y ≡ true → SameMessage x y
same_message_parts x y h =
    let p : (eqb x.source y.source ≡ true) × (eqb x.number y.number ≡ true) = and_parts (eqb x.source y.source) (eqb x.number y.number) h in
    (eqb-true x.source y.source p.0, eqb-true x.number y.number p.1)

pub names_it_parts : (x : Name) (s : Slot) → names_it x (named s) ≡ true → (y : Name) × (named s ≡ Some y) × SameMessage x y
names_it_parts x unknown e = let z : ◌≡◌ {A = ℕ} 0 1 = cc in absurd (omega arith)
names_it_parts x (ack i ns) e = let z : ◌≡◌ {A = ℕ} 0 1 = cc in absurd (omega arith)
names_it_parts x (bare y) e = (y, refl, same_message_parts x y e)
names_it_parts x (whole m) e = (m.name, refl, same_message_parts x m.name e)

-- the slots of an ACK's names

pub nth_mem : (xs : List Name) (i : ℕ) (y : Name) → nth_slot xs i ≡ bare y → Memᴰ y xs
nth_mem [] i y e = let z : ◌≡◌ {A = ℕ} 0 1 = cc in absurd (omega arith)
nth_mem (x ∷ xs) i y e = elim (cases_eq i 0) [
  | inl o ↦ (let f : bare x ≡ bare y = sym (cond-true (eqb i 0) (bare x) (nth_slot xs (i - 1)) (eq-eqb i 0 o)) ∙ e in let g : y ≡ x = cc f in Memᴰ.head g)
  | inr o ↦ Memᴰ.tail (nth_mem xs (i - 1) y (sym (cond-false (eqb i 0) (bare x) (nth_slot xs (i - 1)) (ne_eqb i 0 o)) ∙ e))
]

pub mem_nth : (xs : List Name) (y : Name) → Memᴰ y xs → (i : ℕ) × (i < length xs) × (nth_slot xs i ≡ bare y)
mem_nth [] y m = absurd (Memᴰ.not-nil m)
mem_nth (x ∷ xs) y m = elim (Memᴰ.cases_cons m) [
  | inl e ↦ (0, omega arith, ap bare (sym e))
  | inr o ↦ (let r : (i : ℕ) × (i < length xs) × (nth_slot xs i ≡ bare y) = mem_nth xs y o in let d : suc r.0 - 1 ≡ r.0 = omega arith in (suc r.0, omega (arith, r.1), cond-false (eqb (suc r.0) 0) (bare x) (nth_slot xs (suc r.0 - 1)) (ne_eqb (suc r.0) 0 (λ z. omega arith)) ∙ (ap (nth_slot xs) d ∙ r.2)))
]

pub cells_mem : (a : Ack) (s : ℕ) (y : Name) → cells a s ≡ bare y → Memᴰ y a.names
cells_mem a s y e = elim (cases_lt s a.stamp) [
  | inl o ↦ (let f : cells a s ≡ unknown = cells_below a s o in let z : ◌≡◌ {A = ℕ} 0 1 = cc (e, f) in absurd (omega arith))
  | inr o ↦ elim (cases_eq s a.stamp) [
    | inl q ↦ (let f : cells a s ≡ ack a.issuer a.names = cells_at a s q in let z : ◌≡◌ {A = ℕ} 0 1 = cc (e, f) in absurd (omega arith))
    | inr q ↦ nth_mem a.names (s - a.stamp - 1) y (sym (cells_after a s (omega arith)) ∙ e)
  ]
]

-- a name of an ACK has a slot in its block
pub mem_cells : (a : Ack) (y : Name) → Memᴰ y a.names → (s : ℕ) × (a.stamp < s) × (s ≤ a.stamp + size a) × (cells a s ≡ bare y)
mem_cells a y m =
    let r : (i : ℕ) × (i < length a.names) × (nth_slot a.names i ≡ bare y) = mem_nth a.names y m in
    let d : a.stamp + suc r.0 - a.stamp - 1 ≡ r.0 = omega arith in
    (a.stamp + suc r.0, omega arith, omega (arith, r.1), cells_after a (a.stamp + suc r.0) (omega arith) ∙ (ap (nth_slot a.names) d ∙ r.2))

-- all of k stamps are unknown where each of them is
pub all_unknown_from : (q : Queue) (k t : ℕ) → ((u : ℕ) → t ≤ u → u < t + k → known (q u) ≡ false) → all_unknown q k t ≡ true
unfolding all_unknown
all_unknown_from q zero t h = refl
all_unknown_from q (suc k) t h = and_from _ _ (ap not (h t (omega arith) (omega arith))) (all_unknown_from q k (suc t) (λ u a b. h u (omega arith) (omega arith)))

pub found_is : (r : Option ℕ) → ((u : ℕ) → r ≡ Some u → ⊥) → found r ≡ false
found_is None h = refl
found_is (Some u) h = absurd (h u refl)

pub other_level_is : (k : ℕ) (r : Option Kept) → ((p : Kept) → r ≡ Some p → p.level ≡ k) → other_level k r ≡ false
other_level_is k None h = refl
other_level_is k (Some p) h = ap not (eq-eqb k p.level (sym (h p refl)))

-- a name is known by source, number and level
pub same_name_is : (x y : Name) → same_message x y ≡ true → eqb x.level y.level ≡ true → x ≡ y
same_name_is x y h g =
    let p : SameMessage x y = same_message_parts x y h in
    let a : x.source ≡ y.source = p.0 in
    let b : x.number ≡ y.number = p.1 in
    let c : x.level ≡ y.level = eqb-true x.level y.level g in
    λ j. record { source = a j; number = b j; level = c j }
