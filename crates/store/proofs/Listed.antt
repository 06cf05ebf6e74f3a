-- A queue as the list of its slots: what a walk over the queue finds is what the list's own words say.
use Rattle.std.proofs.Common.{◌≡◌, ℕ, zero, suc, ◌+◌, ◌-◌, ◌<◌, ◌≤◌, Bool, true, false, cond, not, ◌&&◌, ◌||◌, ltb, List, [], ◌∷◌, length, get_or, take, reverse, Some, None, Option, MatchOption, sym, refl, ap, subst, ◌∙◌, inl, inr, add-one, arith}
use Rattle.std.specs.List.{prefix_len, list_all, list_any, range_with_len, filter, filter_map}
use Rattle.std.proofs.lemmas.Bool.{cases_Bool, cases_lt, cond-true, cond-false, both_ways, lt-ltb, le-ltb}
use Rattle.std.proofs.lemmas.List.{get_or-reverse, length-reverse}
use Rattle.frames.specs.Values.{Ack, Name}
use Rattle.frames.specs.declared.table.Table.{Table}
use Rattle.frames.specs.declared.types.Name.{Name as CName}
use Rattle.head.specs.Slots.{Slot, unknown, ack, bare, whole, known, is_ack, named}
use Rattle.head.specs.Queue.{Queue, first_not, past_last, all_unknown, ack_at, acks, last_ack, one_if, or_else, names_it, place_of}
use Rattle.head.specs.Tick.{busy}
use Rattle.head.proofs.Walk.{acks_suc, acks_zero}
use Rattle.store.specs.declared.types.Slot.{Slot as CSlot}
use Rattle.store.specs.declared.types.Slot.TheVariants.{Unknown, Ack as CAck, Data}
use Rattle.store.specs.Parts.{slot_of, names_at, queue_of, stamp_at}
use Rattle.store.proofs.Looking.{busy_over, busy_nowhere, busy_here, busy_less, busy_before}
use Rattle.store.proofs.View.{queue_at}
use Rattle.store.proofs.Walks.{first_more, first_stop, first_end, past_hit, past_miss, past_none, place_hit, place_miss, place_none}

-- from the stamp t on stand the slots of the list
pub record Lists (q : Queue) (t : ℕ) (ss : List CSlot) : Type 0 where
  pub at : (k : ℕ) → k < length ss → q (t + k) ≡ slot_of (get_or ss k Unknown)

pub lists_all : (b : ℕ) (ss : List CSlot) → Lists (queue_of b ss) b ss
lists_all b ss = record { at = λ k h. queue_at b ss k }

lists_first : (q : Queue) (t : ℕ) (x : CSlot) (xs : List CSlot) → Lists q t (x ∷ xs) → q t ≡ slot_of x
lists_first q t x xs l = let e : t ≡ t + 0 = omega arith in ap q e ∙ l.at 0 (omega arith)

lists_rest : (q : Queue) (t : ℕ) (x : CSlot) (xs : List CSlot) → Lists q t (x ∷ xs) → Lists q (suc t) xs
lists_rest q t x xs l = record { at = λ k h. let e : suc t + k ≡ t + suc k = omega arith in ap q e ∙ l.at (suc k) (omega arith) }

pub first_not_list : (p : Slot → Bool) (q : Queue) (t : ℕ) (ss : List CSlot) → Lists q t ss → first_not p q (length ss) t ≡ t + prefix_len (λ s. p (slot_of s)) ss
first_not_list p q t [] l = first_end p q t ∙ omega arith
first_not_list p q t (x ∷ xs) l =
    let f : p (q t) ≡ p (slot_of x) = ap p (lists_first q t x xs l) in
    let n : ℕ = prefix_len (λ s. p (slot_of s)) xs in
    elim (cases_Bool (p (slot_of x))) [
      | inl e ↦
          first_more p q (length xs) t (f ∙ e) ∙ (first_not_list p q (suc t) xs (lists_rest q t x xs l)
          ∙ (let g : suc t + n ≡ t + (1 + n) = omega arith in g ∙ ap (λ m. t + m) (sym (cond-true (p (slot_of x)) (1 + n) 0 e))))
      | inr e ↦
          first_stop p q (length xs) t (f ∙ e) ∙ (let g : t ≡ t + 0 = omega arith in g ∙ ap (λ m. t + m) (sym (cond-false (p (slot_of x)) (1 + n) 0 e)))
    ]

module _ (p : Slot → Bool) (q : Queue) (t : ℕ) where
  -- the last of k stamps at which the test holds is at the place i
  pub past_last_at : (k i : ℕ) → i < k → p (q (t + i)) ≡ true → ((j : ℕ) → i < j → j < k → p (q (t + j)) ≡ false) → past_last p q k t ≡ suc (t + i)
  past_last_at zero i h e f = absurd (omega arith)
  past_last_at (suc k) i h e f = elim (cases_lt i k) [
    | inl l ↦ past_miss p q k t (f k l (omega arith)) ∙ past_last_at k i l e (λ j a b. f j a (omega arith))
    | inr l ↦ let s : i ≡ k = omega arith in past_hit p q k t (ap (λ n. p (q (t + n))) (sym s) ∙ e) ∙ ap (λ n. suc (t + n)) (sym s)
  ]

  -- the test holds at none
  pub past_last_none : (k : ℕ) → ((j : ℕ) → j < k → p (q (t + j)) ≡ false) → past_last p q k t ≡ t
  past_last_none zero f = past_none p q t
  past_last_none (suc k) f = past_miss p q k t (f k (omega arith)) ∙ past_last_none k (λ j b. f j (omega arith))

pub all_unknown_list : (q : Queue) (k t : ℕ) → list_all (λ s. not (known (q s))) (range_with_len t k) ≡ all_unknown q k t
unfolding all_unknown
all_unknown_list q zero t = refl
all_unknown_list q (suc k) t = rw add-one (ap (λ b. not (known (q t)) && b) (all_unknown_list q k (suc t)))

-- fewer stamps will do, where all after them are unknown
pub all_unknown_past : (q : Queue) (j k t : ℕ) → j ≤ k → (j < k → (u : ℕ) → t + j ≤ u → known (q u) ≡ false) → all_unknown q j t ≡ all_unknown q k t
unfolding all_unknown
all_unknown_past q zero zero t h f = refl
all_unknown_past q zero (suc k) t h f =
    all_unknown_past q zero k (suc t) (omega arith) (λ _ u a. f (omega arith) u (omega arith))
    ∙ ap (λ b. not b && all_unknown q k (suc t)) (sym (f (omega arith) t (omega arith)))
all_unknown_past q (suc j) zero t h f = absurd (omega arith)
all_unknown_past q (suc j) (suc k) t h f = ap (λ b. not (known (q t)) && b) (all_unknown_past q j k (suc t) (omega arith) (λ l u a. f (omega arith) u (omega arith)))

pub acks_list : (q : Queue) (t : ℕ) (ss : List CSlot) → Lists q t ss → acks q (length ss) t ≡ length (filter (λ s. is_ack (slot_of s)) ss)
acks_list q t [] l = acks_zero q t
acks_list q t (x ∷ xs) l =
    acks_suc q (length xs) t ∙ (ap (λ s. one_if (is_ack s) + acks q (length xs) (suc t)) (lists_first q t x xs l)
    ∙ (ap (λ m. one_if (is_ack (slot_of x)) + m) (acks_list q (suc t) xs (lists_rest q t x xs l)) ∙ go (is_ack (slot_of x)) (filter (λ s. is_ack (slot_of s)) xs)))
  where
    go : (b : Bool) (ys : List CSlot) → one_if b + length ys ≡ length (cond b (x ∷ ys) ys)
    go true ys = omega arith
    go false ys = omega arith

-- the place of a name, from what is at each place
module _ (q : Queue) (x : Name) where
  place_of_at : (k t i : ℕ) → i < k → names_it x (named (q (t + i))) ≡ true → ((j : ℕ) → j < i → names_it x (named (q (t + j))) ≡ false) → Some (t + i) ≡ place_of q x k t
  place_of_at zero t i h e f = absurd (omega arith)
  place_of_at (suc k) t zero h e f = let g : t + 0 ≡ t = omega arith in ap Some g ∙ sym (place_hit q x k t (ap (λ u. names_it x (named (q u))) (sym g) ∙ e))
  place_of_at (suc k) t (suc i) h e f =
      let g : t + suc i ≡ suc t + i = omega arith in
      let z : t ≡ t + 0 = omega arith in
      ap Some g ∙ (place_of_at k (suc t) i (omega arith) (ap (λ u. names_it x (named (q u))) (sym g) ∙ e) (λ j l. let m : suc t + j ≡ t + suc j = omega arith in ap (λ u. names_it x (named (q u))) m ∙ f (suc j) (omega arith))
      ∙ sym (place_miss q x k t (ap (λ u. names_it x (named (q u))) z ∙ f 0 (omega arith))))

  place_of_none : (k t : ℕ) → ((j : ℕ) → j < k → names_it x (named (q (t + j))) ≡ false) → None ≡ place_of q x k t
  place_of_none zero t f = sym (place_none q x t)
  place_of_none (suc k) t f =
      let z : t ≡ t + 0 = omega arith in
      place_of_none k (suc t) (λ j l. let m : suc t + j ≡ t + suc j = omega arith in ap (λ u. names_it x (named (q u))) m ∙ f (suc j) (omega arith)) ∙ sym (place_miss q x k t (ap (λ u. names_it x (named (q u))) z ∙ f 0 (omega arith)))

  pub place_of_is : (k t : ℕ) (r : Option ℕ) → MatchOption r ((j : ℕ) → j < k → names_it x (named (q (t + j))) ≡ false) (λ i. (i < k) × (names_it x (named (q (t + i))) ≡ true) × ((j : ℕ) → j < i → names_it x (named (q (t + j))) ≡ false)) → stamp_at t r ≡ place_of q x k t
  place_of_is k t None h = place_of_none k t h
  place_of_is k t (Some i) h = place_of_at k t i h.0 h.1 h.2

-- the last ACK, from what is at each place
module _ (q : Queue) (t : ℕ) where
  no_ack : (s : Slot) (u : ℕ) (o : Option Ack) → is_ack s ≡ false → or_else (ack_at s u) o ≡ o
  no_ack unknown u o e = refl
  no_ack (ack i ns) u o e = absurd (both_ways true e refl)
  no_ack (bare x) u o e = refl
  no_ack (whole m) u o e = refl

  an_ack : (s : Slot) (u : ℕ) (o : Option Ack) → is_ack s ≡ true → or_else (ack_at s u) o ≡ ack_at s u
  an_ack unknown u o e = absurd (both_ways true (sym e) refl)
  an_ack (ack i ns) u o e = refl
  an_ack (bare x) u o e = absurd (both_ways true (sym e) refl)
  an_ack (whole m) u o e = absurd (both_ways true (sym e) refl)

  pub last_ack_at : (k i : ℕ) → i < k → is_ack (q (t + i)) ≡ true → ((j : ℕ) → i < j → j < k → is_ack (q (t + j)) ≡ false) → last_ack q k t ≡ ack_at (q (t + i)) (t + i)
  unfolding last_ack
  last_ack_at zero i h e f = absurd (omega arith)
  last_ack_at (suc k) i h e f = elim (cases_lt i k) [
    | inl l ↦ no_ack (q (t + k)) (t + k) (last_ack q k t) (f k l (omega arith)) ∙ last_ack_at k i l e (λ j b c. f j b (omega arith))
    | inr l ↦ let s : i ≡ k = omega arith in subst (λ n. or_else (ack_at (q (t + n)) (t + n)) (last_ack q k t) ≡ ack_at (q (t + i)) (t + i)) s (an_ack (q (t + i)) (t + i) (last_ack q k t) e)
  ]

  pub last_ack_none : (k : ℕ) → ((j : ℕ) → j < k → is_ack (q (t + j)) ≡ false) → last_ack q k t ≡ None
  unfolding last_ack
  last_ack_none zero f = refl
  last_ack_none (suc k) f = no_ack (q (t + k)) (t + k) (last_ack q k t) (f k (omega arith)) ∙ last_ack_none k (λ j b. f j (omega arith))

-- from the stamp t on stand the slots of the list, the last one first
pub record ListsBack (q : Queue) (t : ℕ) (zs : List CSlot) : Type 0 where
  pub at : (k : ℕ) → k < length zs → q (t + (length zs - 1 - k)) ≡ slot_of (get_or zs k Unknown)

-- whether one of the last n ACKs has a name
pub busy_list : (q : Queue) (t : ℕ) (zs : List CSlot) (n : ℕ) → ListsBack q t zs → list_any (λ (ns : Table CName 4). ltb 0 ns.count) (take n (filter_map names_at zs)) ≡ busy q (length zs) t n
busy_list q t [] zero l = sym (busy_over q 0 t)
busy_list q t [] (suc n) l = sym (busy_nowhere q t (suc n))
busy_list q t (z ∷ zs) zero l = sym (busy_over q (length (z ∷ zs)) t)
busy_list q t (z ∷ zs) (suc n) l = go z last (λ m. busy_list q t zs m rest)
  where
    rest : ListsBack q t zs
    rest = record { at = λ k h. let e : t + (length zs - 1 - k) ≡ t + (length (z ∷ zs) - 1 - suc k) = omega arith in ap q e ∙ l.at (suc k) (omega arith) }

    last : q (t + length zs) ≡ slot_of z
    last = let e : t + length zs ≡ t + (length (z ∷ zs) - 1 - 0) = omega arith in ap q e ∙ l.at 0 (omega arith)

    go : (x : CSlot) → q (t + length zs) ≡ slot_of x → ((m : ℕ) → list_any (λ (ns : Table CName 4). ltb 0 ns.count) (take m (filter_map names_at zs)) ≡ busy q (length zs) t m) → list_any (λ (ns : Table CName 4). ltb 0 ns.count) (take (suc n) (filter_map names_at (x ∷ zs))) ≡ busy q (length (z ∷ zs)) t (suc n)
    go Unknown e r = r (suc n) ∙ busy_before q (length (z ∷ zs)) (length zs) t (suc n) n (omega arith) (omega arith) (ap is_ack e)
    go (CAck i ns) e r = elim (cases_lt 0 ns.count) [
      | inl h ↦ ap (λ b. b || list_any (λ (ms : Table CName 4). ltb 0 ms.count) (take n (filter_map names_at zs))) (lt-ltb 0 ns.count h) ∙ busy_here q (length (z ∷ zs)) (length zs) t (suc n) n (omega arith) (omega arith) i ns e h
      | inr h ↦
          ap (λ b. b || list_any (λ (ms : Table CName 4). ltb 0 ms.count) (take n (filter_map names_at zs))) (le-ltb 0 ns.count h)
          ∙ (r n ∙ busy_less q (length (z ∷ zs)) (length zs) t (suc n) n (omega arith) (omega arith) i ns e h)
    ]
    go (Data x None) e r = r (suc n) ∙ busy_before q (length (z ∷ zs)) (length zs) t (suc n) n (omega arith) (omega arith) (ap is_ack e)
    go (Data x (Some b)) e r = r (suc n) ∙ busy_before q (length (z ∷ zs)) (length zs) t (suc n) n (omega arith) (omega arith) (ap is_ack e)

pub lists_back : (b : ℕ) (ss : List CSlot) → ListsBack (queue_of b ss) b (reverse ss)
lists_back b ss = record {
  at = λ k h.
      let l : length (reverse ss) ≡ length ss = length-reverse ss in
      let e : b + (length (reverse ss) - 1 - k) ≡ b + (length ss - 1 - k) = omega arith in
      ap (queue_of b ss) e ∙ (queue_at b ss (length ss - 1 - k) ∙ ap slot_of (sym (get_or-reverse ss k Unknown (omega arith))));
}
