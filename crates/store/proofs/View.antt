-- The laws of the model of a head: reading, setting, shifting.
use Rattle.std.proofs.Common.{◌≡◌, ℕ, zero, suc, ◌+◌, ◌-◌, ◌<◌, ◌≤◌, max, Bool, true, false, cond, ◌&&◌, eqb, ltb, leb, List, ◌++◌, length, get_or, take, drop, set, replicate, Some, None, Option, sym, refl, ap, ◌∙◌, inl, inr, arith, get_or-set_other, get_or-set_same}
use mathlib.Core.Path.{fun_ext}
use Rattle.std.proofs.lemmas.List.{get_or_past, get_or-drop, get_or-take, get_or_default, length-drop, get_or_append_left, get_or-append_right, get_or-replicate, length-replicate}
use Rattle.std.proofs.lemmas.Bool.{cases_lt, cases_eq, eq-eqb, eqb-true, ne_eqb, le-leb, lt-leb, lt-ltb, le-ltb, cond-true, cond-false}
use Rattle.frames.specs.declared.types.Name.{Name as CName}
use Rattle.frames.specs.declared.table.Table.{Table}
use Rattle.frames.specs.declared.types.Body.{Body}
use Rattle.frames.specs.Types.{name_of}
use Rattle.head.specs.Slots.{unknown, known, is_ack, named}
use Rattle.head.specs.Head.{Kept}
use Rattle.store.specs.declared.types.Slot.{Slot as CSlot}
use Rattle.store.specs.declared.types.Slot.TheVariants.{Unknown, Ack as CAck, Data}
use Rattle.store.specs.declared.types.Kept.{Kept as CKept}
use Rattle.store.specs.declared.types.Source.{Source}
use Rattle.store.specs.Parts.{data_of, slot_of, kept_of, blank, queue_of, window_of, source_of, lows_in, pending_of}

-- cases over an equation of numbers
pub by_eq : {X : Type 0} (a b : ℕ) (x y z : X) → (a ≡ b → z ≡ x) → ((a ≡ b → ⊥) → z ≡ y) → z ≡ cond (eqb a b) x y
by_eq a b x y z h g = elim (cases_eq a b) [
  | inl e ↦ h e ∙ sym (cond-true (eqb a b) x y (eq-eqb a b e))
  | inr e ↦ g e ∙ sym (cond-false (eqb a b) x y (ne_eqb a b e))
]

-- reading
pub queue_in : (b : ℕ) (ss : List CSlot) (s i : ℕ) → s ≡ b + i → queue_of b ss s ≡ slot_of (get_or ss i Unknown)
unfolding queue_of
queue_in b ss s i e =
    let j : s - b ≡ i = omega arith in
    cond-true (leb b s) (slot_of (get_or ss (s - b) Unknown)) unknown (le-leb b s (omega arith)) ∙ ap (λ k. slot_of (get_or ss k Unknown)) j

pub queue_at : (b : ℕ) (ss : List CSlot) (i : ℕ) → queue_of b ss (b + i) ≡ slot_of (get_or ss i Unknown)
queue_at b ss i = queue_in b ss (b + i) i refl

pub queue_below : (b : ℕ) (ss : List CSlot) (s : ℕ) → s < b → queue_of b ss s ≡ unknown
unfolding queue_of
queue_below b ss s h = cond-false (leb b s) (slot_of (get_or ss (s - b) Unknown)) unknown (lt-leb b s h)

pub queue_past : (b : ℕ) (ss : List CSlot) (s : ℕ) → b + length ss ≤ s → queue_of b ss s ≡ unknown
queue_past b ss s h = queue_in b ss s (s - b) (omega arith) ∙ ap slot_of (get_or_past ss (s - b) Unknown (omega arith))

-- reading at a place of the list, at any default
pub queue_read : (b : ℕ) (ss : List CSlot) (i : ℕ) (z : CSlot) → i < length ss → queue_of b ss (b + i) ≡ slot_of (get_or ss i z)
queue_read b ss i z h = queue_at b ss i ∙ ap slot_of (get_or_default ss i Unknown z h)

-- reading among the first slots
pub queue_front : (b : ℕ) (ss : List CSlot) (n i : ℕ) (z : CSlot) → i < n → i < length ss → queue_of b ss (b + i) ≡ slot_of (get_or (take n ss) i z)
queue_front b ss n i z h l = queue_read b ss i z l ∙ ap slot_of (sym (get_or-take n ss i z h))

-- an element that a loop or an index has read
pub queue_item : (b : ℕ) (ss : List CSlot) (i : ℕ) (x : CSlot) → i < length ss → x ≡ get_or ss i x → queue_of b ss (b + i) ≡ slot_of x
queue_item b ss i x h e = queue_read b ss i x h ∙ ap slot_of (sym e)

-- an element that a loop over the slots from the stamp t on has read
pub queue_rest : (b : ℕ) (ss : List CSlot) (t n i : ℕ) (x : CSlot) → b ≤ t → i < n → t - b + i < length ss → x ≡ get_or (take n (drop (t - b) ss)) i x → queue_of b ss (t + i) ≡ slot_of x
queue_rest b ss t n i x h m l e =
    queue_in b ss (t + i) (t - b + i) (omega arith)
    ∙ ap slot_of (sym (e ∙ (get_or-take n (drop (t - b) ss) i x m ∙ (get_or-drop (t - b) ss i x ∙ get_or_default ss (t - b + i) x Unknown l))))

-- setting
pub queue_set : (b : ℕ) (ss : List CSlot) (i : ℕ) (x : CSlot) → i < length ss → queue_of b (set ss i x) ≡ (λ s. cond (eqb s (b + i)) (slot_of x) (queue_of b ss s))
queue_set b ss i x h = fun_ext (λ s. by_eq s (b + i) (slot_of x) (queue_of b ss s) (queue_of b (set ss i x) s)
    (λ e. queue_in b (set ss i x) s i e ∙ ap slot_of (get_or-set_same ss i x Unknown h))
    (λ ne. elim (cases_lt s b) [
      | inl l ↦ queue_below b (set ss i x) s l ∙ sym (queue_below b ss s l)
      | inr l ↦ queue_in b (set ss i x) s (s - b) (omega arith) ∙ (ap slot_of (get_or-set_other ss i (s - b) x Unknown (λ f. ne (omega arith))) ∙ sym (queue_in b ss s (s - b) (omega arith)))
    ]))

-- shifting
pub queue_shift : (b : ℕ) (ss : List CSlot) (m : ℕ) → m < length ss → queue_of (suc (b + m)) (drop (suc m) ss ++ replicate (suc m) Unknown) ≡ (λ s. cond (leb s (b + m)) unknown (queue_of b ss s))
queue_shift b ss m h = fun_ext (λ s. elim (cases_lt (b + m) s) [
  | inr l ↦ queue_below (suc (b + m)) _ s (omega arith) ∙ sym (cond-true (leb s (b + m)) unknown (queue_of b ss s) (le-leb s (b + m) l))
  | inl l ↦
      let i : ℕ = s - suc (b + m) in
      let d : length (drop (suc m) ss) ≡ length ss - suc m = length-drop (suc m) ss in
      queue_in (suc (b + m)) (drop (suc m) ss ++ replicate (suc m) Unknown) s i (omega arith)
      ∙ (elim (cases_lt i (length ss - suc m)) [
        | inl k ↦ ap slot_of (get_or_append_left (drop (suc m) ss) (replicate (suc m) Unknown) Unknown i (omega arith) ∙ get_or-drop (suc m) ss i Unknown)
        | inr k ↦ ap slot_of (get_or-append_right (drop (suc m) ss) (replicate (suc m) Unknown) (length ss - suc m) i Unknown d k ∙ (blank_getD (suc m) (i - (length ss - suc m)) ∙ sym (get_or_past ss (suc m + i) Unknown (omega arith))))
      ]
      ∙ (sym (queue_in b ss s (suc m + i) (omega arith)) ∙ sym (cond-false (leb s (b + m)) unknown (queue_of b ss s) (lt-leb s (b + m) l))))
])
  where
    blank_getD : (n i : ℕ) → get_or (replicate n Unknown) i Unknown ≡ Unknown
    blank_getD n i = elim (cases_lt i n) [ inl k ↦ get_or-replicate n i Unknown Unknown k | inr k ↦ get_or_past (replicate n Unknown) i Unknown (simp length-replicate k) ]

-- one window

module _ (low : ℕ) (w : List (Option CKept)) where
  pub window_in : (k j : ℕ) → k ≡ low + 1 + j → window_of low w k ≡ kept_of (get_or w j None)
  unfolding window_of
  window_in k j e =
      let i : k - low - 1 ≡ j = omega arith in
      cond-true (ltb low k) (kept_of (get_or w (k - low - 1) None)) None (lt-ltb low k (omega arith)) ∙ ap (λ n. kept_of (get_or w n None)) i

  pub window_low : (k : ℕ) → k ≤ low → window_of low w k ≡ None
  unfolding window_of
  window_low k h = cond-false (ltb low k) (kept_of (get_or w (k - low - 1) None)) None (le-ltb low k h)

  pub window_far : (k : ℕ) → low + length w < k → window_of low w k ≡ None
  window_far k h = window_in k (k - low - 1) (omega arith) ∙ ap kept_of (get_or_past w (k - low - 1) None (omega arith))

pub window_set : (low : ℕ) (w : List (Option CKept)) (k j : ℕ) (o : Option CKept) → j < length w → k ≡ low + 1 + j → (i : ℕ) → window_of low (set w j o) i ≡ cond (eqb i k) (kept_of o) (window_of low w i)
window_set low w k j o h e i = by_eq i k (kept_of o) (window_of low w i) (window_of low (set w j o) i)
    (λ f. window_in low (set w j o) i j (f ∙ e) ∙ ap kept_of (get_or-set_same w j o None h))
    (λ ne. elim (cases_lt low i) [
      | inr l ↦ window_low low (set w j o) i l ∙ sym (window_low low w i l)
      | inl l ↦ window_in low (set w j o) i (i - low - 1) (omega arith) ∙ (ap kept_of (get_or-set_other w j (i - low - 1) o None (λ f. ne (omega arith))) ∙ sym (window_in low w i (i - low - 1) (omega arith)))
    ])

-- low grows: what is not above it is gone
pub window_raise : (low by : ℕ) (w v : List (Option CKept)) → ((j : ℕ) → get_or v j None ≡ get_or w (by + j) None) → (i : ℕ) → window_of (low + by) v i ≡ cond (leb i (low + by)) None (window_of low w i)
window_raise low by w v h i = elim (cases_lt (low + by) i) [
  | inr l ↦ window_low (low + by) v i l ∙ sym (cond-true (leb i (low + by)) None (window_of low w i) (le-leb i (low + by) l))
  | inl l ↦
      let j : ℕ = i - (low + by) - 1 in
      window_in (low + by) v i j (omega arith) ∙ (ap kept_of (h j) ∙ (sym (window_in low w i (by + j) (omega arith)) ∙ sym (cond-false (leb i (low + by)) None (window_of low w i) (lt-leb i (low + by) l))))
]

-- all sources

pub pending_at : (xs : List Source) (s k : ℕ) → pending_of xs s k ≡ source_of (get_or xs s blank) k
unfolding pending_of
pending_at xs s k = refl

-- reading a source, at any default
pub low_read : (xs : List Source) (s : ℕ) (z : Source) → s < length xs → lows_in xs s ≡ (get_or xs s z).low
unfolding lows_in
low_read xs s z h = ap (λ (x : Source). x.low) (get_or_default xs s blank z h)

pub pending_read : (xs : List Source) (s k : ℕ) (z : Source) → s < length xs → pending_of xs s k ≡ source_of (get_or xs s z) k
pending_read xs s k z h = pending_at xs s k ∙ ap (λ x. source_of x k) (get_or_default xs s blank z h)

-- one source is put
pub pending_put : (xs : List Source) (s : ℕ) (x : Source) → s < length xs → (t i : ℕ) → pending_of (set xs s x) t i ≡ cond (eqb t s) (source_of x i) (pending_of xs t i)
unfolding pending_of
pending_put xs s x h t i = by_eq t s (source_of x i) (pending_of xs t i) (pending_of (set xs s x) t i)
    (λ e. ap (λ n. source_of (get_or (set xs s x) n blank) i) e ∙ ap (λ y. source_of y i) (get_or-set_same xs s x blank h))
    (λ ne. ap (λ y. source_of y i) (get_or-set_other xs s t x blank ne))

-- low of one source is raised
pub lows_raise : (xs : List Source) (s to : ℕ) (x : Source) → s < length xs → x.low ≡ max (lows_in xs s) to → (t : ℕ) → lows_in (set xs s x) t ≡ cond (eqb t s) (max (lows_in xs t) to) (lows_in xs t)
unfolding lows_in
lows_raise xs s to x h f t = by_eq t s (max (lows_in xs t) to) (lows_in xs t) (lows_in (set xs s x) t)
    (λ e. ap (lows_in (set xs s x)) e ∙ (ap (λ (y : Source). y.low) (get_or-set_same xs s x blank h) ∙ (f ∙ ap (λ n. max (lows_in xs n) to) (sym e))))
    (λ ne. ap (λ (y : Source). y.low) (get_or-set_other xs s t x blank ne))

pub lows_past : (xs : List Source) (s : ℕ) → length xs ≤ s → lows_in xs s ≡ 0
unfolding lows_in
lows_past xs s h = ap (λ (y : Source). y.low) (get_or_past xs s blank h)

-- a source with the same low is put
pub lows_same : (xs : List Source) (s : ℕ) (x : Source) → s < length xs → x.low ≡ lows_in xs s → lows_in (set xs s x) ≡ lows_in xs
unfolding lows_in
lows_same xs s x h f = fun_ext (λ t. elim (cases_eq t s) [
  | inl e ↦ ap (lows_in (set xs s x)) e ∙ (ap (λ (y : Source). y.low) (get_or-set_same xs s x blank h) ∙ (f ∙ ap (lows_in xs) (sym e)))
  | inr ne ↦ ap (λ (y : Source). y.low) (get_or-set_other xs s t x blank ne)
])

cond_and : {X : Type 0} (a b : Bool) (x y z : X) → (a ≡ true → y ≡ z) → cond a (cond b x y) z ≡ cond (a && b) x z
cond_and true true x y z h = refl
cond_and true false x y z h = h refl
cond_and false b x y z h = refl

-- of one source, what is pending under some numbers changes
pub pending_change : (xs : List Source) (s : ℕ) (x : Source) (test : ℕ → Bool) (o : Option Kept) → s < length xs → ((i : ℕ) → source_of x i ≡ cond (test i) o (pending_of xs s i)) → pending_of (set xs s x) ≡ (λ t i. cond (eqb t s && test i) o (pending_of xs t i))
pending_change xs s x test o h f = fun_ext (λ t. fun_ext (λ i. go t i))
  where
    go : (t i : ℕ) → pending_of (set xs s x) t i ≡ cond (eqb t s && test i) o (pending_of xs t i)
    go t i =
        pending_put xs s x h t i ∙ (ap (λ y. cond (eqb t s) y (pending_of xs t i)) (f i)
        ∙ cond_and (eqb t s) (test i) o (pending_of xs s i) (pending_of xs t i) (λ y. sym (ap (λ n. pending_of xs n i) (eqb-true t s y))))

pub pending_source : (xs : List Source) (s k : ℕ) → length xs ≤ s → pending_of xs s k ≡ None
pending_source xs s k h = pending_at xs s k ∙ (ap (λ x. source_of x k) (get_or_past xs s blank h) ∙ empty k)
  where
    blank_at : (j : ℕ) → kept_of (get_or blank.kept j None) ≡ None
    blank_at zero = refl
    blank_at (suc zero) = refl
    blank_at (suc (suc zero)) = refl
    blank_at (suc (suc (suc zero))) = refl
    blank_at (suc (suc (suc (suc j)))) = refl

    empty : (i : ℕ) → source_of blank i ≡ None
    empty i = elim (cases_lt 0 i) [
      | inr o ↦ window_low 0 blank.kept i o
      | inl o ↦ window_in 0 blank.kept i (i - 0 - 1) (omega arith) ∙ blank_at (i - 0 - 1)
    ]

-- slots by kind

pub not_ack : (s : CSlot) → ((i : ℕ) (ns : Table CName 4) → s ≡ CAck i ns → ⊥) → is_ack (slot_of s) ≡ false
not_ack Unknown e = refl
not_ack (CAck i ns) e = absurd (e i ns refl)
not_ack (Data x None) e = refl
not_ack (Data x (Some b)) e = refl

pub data_known : (x : CName) (o : Option Body) → known (data_of x o) ≡ true
data_known x None = refl
data_known x (Some b) = refl

pub data_named : (x : CName) (o : Option Body) → named (data_of x o) ≡ Some (name_of x)
data_named x None = refl
data_named x (Some b) = refl
