-- Placing an ACK.
use Rattle.std.proofs.Common.{◌≡◌, ℕ, zero, suc, ◌+◌, ◌-◌, ◌<◌, ◌≤◌, true, cond, ◌&&◌, eqb, ltb, leb, ◌⊎◌, List, [], ◌∷◌, length, map, get_or, Some, None, Option, sym, refl, ap, ◌∙◌, inl, inr, arith}
use mathlib.Core.Path.{fun_ext}
use Rattle.std.proofs.lemmas.Bool.{cases_lt, cases_eq, both_ways, eq-eqb, ne_eqb, lt-ltb, le-ltb, cond-true, cond-false}
use Rattle.frames.specs.declared.types.Name.{Name as CName}
use Rattle.frames.specs.Values.{Name, Ack}
use Rattle.frames.specs.Types.{name_of}
use Rattle.head.specs.Slots.{Slot, unknown, ack, bare, known, over, nth_slot, cells, size}
use Rattle.head.specs.Queue.{Queue, highest, all_unknown}
use Rattle.head.specs.Head.{Head, Kept, Pending, fill_in, filled_by, numbered_in, low, place, sweep, set_slots}
use Rattle.std.proofs.lemmas.List.{get_or-map, length-map}
use Rattle.head.proofs.Slots.{nth_out}
use Rattle.head.proofs.Names.{all_unknown_at}
use Rattle.store.proofs.View.{by_eq}
use Rattle.store.proofs.Walks.{highest_grows}

nth_bare : (xs : List Name) (i : ℕ) (z : Name) → i < length xs → nth_slot xs i ≡ bare (get_or xs i z)
nth_bare [] i z h = absurd (omega arith)
nth_bare (x ∷ xs) zero z h = refl
nth_bare (x ∷ xs) (suc i) z h =
    let e : suc i - 1 ≡ i = omega arith in
    cond-false (eqb (suc i) 0) (bare x) (nth_slot xs (suc i - 1)) (ne_eqb (suc i) 0 (λ f. omega arith)) ∙ (ap (nth_slot xs) e ∙ nth_bare xs i z (omega arith))

-- the slot of the name at a place
pub name_slot : (xs : List CName) (i : ℕ) (x : CName) → i < length xs → x ≡ get_or xs i x → nth_slot (map name_of xs) i ≡ bare (name_of x)
name_slot xs i x h e = nth_bare (map name_of xs) i (name_of x) (omega (arith, length-map xs name_of)) ∙ ap bare (get_or-map name_of xs i x (name_of x) h ∙ ap name_of (sym e))

filled_over : (x : Name) (o : Option Kept) (y : Slot) → over (filled_by x o) y ≡ filled_by x o
filled_over x None y = refl
filled_over x (Some k) y = refl

module _ (p : Pending) (a : Ack) where
  -- the slots of the first i names are set
  pub laid : Queue → ℕ → Queue
  laid q i s = cond (ltb a.stamp s && ltb (s - a.stamp - 1) i) (fill_in p (nth_slot a.names (s - a.stamp - 1))) (q s)

  laid_in : (q : Queue) (i s : ℕ) → a.stamp < s → s - a.stamp - 1 < i → laid q i s ≡ fill_in p (nth_slot a.names (s - a.stamp - 1))
  unfolding laid
  laid_in q i s h g = ap (λ b. cond (b && ltb (s - a.stamp - 1) i) (fill_in p (nth_slot a.names (s - a.stamp - 1))) (q s)) (lt-ltb a.stamp s h) ∙ ap (λ b. cond b (fill_in p (nth_slot a.names (s - a.stamp - 1))) (q s)) (lt-ltb (s - a.stamp - 1) i g)

  laid_out : (q : Queue) (i s : ℕ) → (s ≤ a.stamp) ⊎ (a.stamp + i < s) → laid q i s ≡ q s
  unfolding laid
  laid_out q i s (inl h) = ap (λ b. cond (b && ltb (s - a.stamp - 1) i) (fill_in p (nth_slot a.names (s - a.stamp - 1))) (q s)) (le-ltb a.stamp s h)
  laid_out q i s (inr h) = ap (λ b. cond (b && ltb (s - a.stamp - 1) i) (fill_in p (nth_slot a.names (s - a.stamp - 1))) (q s)) (lt-ltb a.stamp s (omega arith)) ∙ ap (λ b. cond b (fill_in p (nth_slot a.names (s - a.stamp - 1))) (q s)) (le-ltb (s - a.stamp - 1) i (omega arith))

  pub laid_none : (q : Queue) → q ≡ laid q 0
  laid_none q = fun_ext (λ s. sym (laid_out q 0 s (elim (cases_lt a.stamp s) [ inl h ↦ inr (omega arith) | inr h ↦ inl h ])))

  pub laid_more : (q r : Queue) (i u : ℕ) (x : Name) (y : Slot) → u ≡ a.stamp + 1 + i → nth_slot a.names i ≡ bare x → y ≡ filled_by x (p x.source x.number) → r ≡ laid q i → (λ s. cond (eqb s u) y (r s)) ≡ laid q (i + 1)
  laid_more q r i u x y eu e f g = fun_ext (λ s. sym (by_eq s u y (r s) (laid q (i + 1) s)
      (λ h. let j : s - a.stamp - 1 ≡ i = omega arith in laid_in q (i + 1) s (omega arith) (omega arith) ∙ (ap (λ n. fill_in p (nth_slot a.names n)) j ∙ (ap (fill_in p) e ∙ sym f)))
      (λ ne. elim (cases_lt s u) [
        | inl h ↦ elim (cases_lt a.stamp s) [
          | inl k ↦ laid_in q (i + 1) s k (omega arith) ∙ sym (ap (λ (v : Queue). v s) g ∙ laid_in q i s k (omega arith))
          | inr k ↦ laid_out q (i + 1) s (inl k) ∙ sym (ap (λ (v : Queue). v s) g ∙ laid_out q i s (inl k))
        ]
        | inr h ↦ laid_out q (i + 1) s (inr (diff s h ne)) ∙ sym (ap (λ (v : Queue). v s) g ∙ laid_out q i s (inr (omega arith)))
      ])))
    where
      diff : (s : ℕ) → u ≤ s → (s ≡ u → ⊥) → a.stamp + (i + 1) < s
      diff s h ne = elim (cases_lt u s) [ inl k ↦ omega arith | inr k ↦ absurd (ne (omega arith)) ]

  pub laid_all : (q r : Queue) (n : ℕ) → n ≡ length a.names → r ≡ (λ s. cond (eqb s a.stamp) (ack a.issuer a.names) (q s)) → laid r n ≡ (λ s. over (fill_in p (cells a s)) (q s))
  unfolding cells
  laid_all q r n ln g = fun_ext (λ s. go s)
    where
      at : (s : ℕ) → r s ≡ cond (eqb s a.stamp) (ack a.issuer a.names) (q s)
      at s = ap (λ (v : Queue). v s) g

      off : (s : ℕ) → (s ≡ a.stamp → ⊥) → r s ≡ q s
      off s ne = at s ∙ cond-false (eqb s a.stamp) (ack a.issuer a.names) (q s) (ne_eqb s a.stamp ne)

      put : (s : ℕ) (y : Slot) → cells a s ≡ y → over (fill_in p (cells a s)) (q s) ≡ over (fill_in p y) (q s)
      put s y e = ap (λ (v : Slot). over (fill_in p v) (q s)) e

      away : (s : ℕ) → (s ≡ a.stamp → ⊥) → cells a s ≡ cond (ltb a.stamp s) (nth_slot a.names (s - a.stamp - 1)) unknown
      away s ne = cond-false (eqb s a.stamp) (ack a.issuer a.names) (cond (ltb a.stamp s) (nth_slot a.names (s - a.stamp - 1)) unknown) (ne_eqb s a.stamp ne)

      behind : (s : ℕ) → a.stamp < s → cells a s ≡ nth_slot a.names (s - a.stamp - 1)
      behind s h = away s (λ e. omega arith) ∙ cond-true (ltb a.stamp s) (nth_slot a.names (s - a.stamp - 1)) unknown (lt-ltb a.stamp s h)

      go : (s : ℕ) → laid r n s ≡ over (fill_in p (cells a s)) (q s)
      go s = elim (cases_eq s a.stamp) [
        | inl e ↦ laid_out r n s (inl (omega arith)) ∙ (at s ∙ (cond-true (eqb s a.stamp) (ack a.issuer a.names) (q s) (eq-eqb s a.stamp e) ∙ sym (put s (ack a.issuer a.names) (cond-true (eqb s a.stamp) (ack a.issuer a.names) (cond (ltb a.stamp s) (nth_slot a.names (s - a.stamp - 1)) unknown) (eq-eqb s a.stamp e)))))
        | inr ne ↦ elim (cases_lt a.stamp s) [
          | inr h ↦ laid_out r n s (inl h) ∙ (off s ne ∙ sym (put s unknown (away s ne ∙ cond-false (ltb a.stamp s) (nth_slot a.names (s - a.stamp - 1)) unknown (le-ltb a.stamp s h))))
          | inl h ↦ elim (cases_lt (s - a.stamp - 1) n) [
            | inl k ↦
                let z : Name = record { source = 0; number = 0; level = 0 } in
                let x : Name = get_or a.names (s - a.stamp - 1) z in
                let b : nth_slot a.names (s - a.stamp - 1) ≡ bare x = nth_bare a.names (s - a.stamp - 1) z (omega arith) in
                laid_in r n s h k ∙ (ap (fill_in p) b ∙ sym (put s (bare x) (behind s h ∙ b) ∙ filled_over x (p x.source x.number) (q s)))
            | inr k ↦ laid_out r n s (inr (omega arith)) ∙ (off s ne ∙ sym (put s unknown (behind s h ∙ nth_out a.names (s - a.stamp - 1) (omega arith))))
          ]
        ]
      ]

-- what was known stays as it is, where the slots of the ACK are unknown
pub laid_keeps : (q : Queue) (p : Pending) (a : Ack) (u : ℕ) → all_unknown q (suc (size a)) a.stamp ≡ true → known (q u) ≡ true → over (fill_in p (cells a u)) (q u) ≡ q u
unfolding cells
laid_keeps q p a u h k = ap (λ (v : Slot). over (fill_in p v) (q u)) (none_there)
  where
    none_there : cells a u ≡ unknown
    none_there = elim (cases_lt u a.stamp) [
      | inl l ↦ cond-false (eqb u a.stamp) (ack a.issuer a.names) _ (ne_eqb u a.stamp (λ e. omega arith)) ∙ cond-false (ltb a.stamp u) (nth_slot a.names (u - a.stamp - 1)) unknown (le-ltb a.stamp u (omega arith))
      | inr l ↦ elim (cases_lt u (a.stamp + suc (size a))) [
        | inl m ↦ absurd (both_ways (known (q u)) (all_unknown_at q (suc (size a)) a.stamp u h l m) k)
        | inr m ↦ cond-false (eqb u a.stamp) (ack a.issuer a.names) _ (ne_eqb u a.stamp (λ e. omega arith)) ∙ (cond-true (ltb a.stamp u) (nth_slot a.names (u - a.stamp - 1)) unknown (lt-ltb a.stamp u (omega arith)) ∙ nth_out a.names (u - a.stamp - 1) (omega arith))
      ]
    ]

module _ (h : Head) (a : Ack) (b : ℕ) (q : Queue) (g : ℕ → ℕ) (l : ℕ → ℕ) (eb : b ≡ h.base) (eq : q ≡ (λ s. over (fill_in h.pending (cells a s)) (h.queue s))) (eg : g ≡ h.gone) (el : (s : ℕ) → l s ≡ highest q s 96 b (g s)) where
  pub placed_low : (s : ℕ) → l s ≡ low (set_slots h a) s
  unfolding low set_slots
  placed_low s = el s ∙ (λ j. highest (eq j) s 96 (eb j) (eg j s))

  -- low does not fall
  pub placed_grows : all_unknown h.queue (suc (size a)) a.stamp ≡ true → (s : ℕ) → low h s ≤ l s
  unfolding low
  placed_grows free s =
      let i : highest h.queue s 96 h.base (h.gone s) ≤ highest q s 96 h.base (h.gone s) =
      highest_grows h.queue q s 96 h.base (h.gone s) (h.gone s) (omega arith) (λ u x y k. ap (λ (v : Queue). v u) eq ∙ laid_keeps h.queue h.pending a u free k) in
      let e : l s ≡ highest q s 96 h.base (h.gone s) = el s ∙ (λ j. highest q s 96 (eb j) (eg j s)) in
      omega arith

  pub placed_is : (p : Pending) → p ≡ (λ s k. cond (leb k (l s)) None (cond (numbered_in s k a.names) None (h.pending s k))) → record { me = h.me; made = h.made; base = b; queue = q; gone = g; pending = p; due = h.due; ticks = 0; tries = 0 } ≡ place h a
  unfolding place sweep set_slots
  placed_is p ep =
      let f : p ≡ (λ s k. cond (leb k (low (set_slots h a) s)) None (cond (numbered_in s k a.names) None (h.pending s k))) = ep ∙ fun_ext (λ s. fun_ext (λ k. ap (λ n. cond (leb k n) None (cond (numbered_in s k a.names) None (h.pending s k))) (placed_low s))) in
      λ j. record { me = h.me; made = h.made; base = eb j; queue = eq j; gone = eg j; pending = f j; due = h.due; ticks = 0; tries = 0 }
