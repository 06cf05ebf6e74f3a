-- An empty queue and an empty inbox.
use Rattle.std.proofs.Common.{◌≡◌, ℕ, ◌-◌, get_or, replicate, None, ap, ◌∙◌, inl, inr, arith}
use mathlib.Core.Path.{fun_ext}
use Rattle.std.proofs.lemmas.List.{get_or-replicate, get_or_past, length-replicate}
use Rattle.std.proofs.lemmas.Bool.{cases_lt}
use Rattle.head.specs.Slots.{unknown}
use Rattle.store.specs.declared.types.Slot.TheVariants.{Unknown}
use Rattle.store.specs.declared.types.Source.{Source}
use Rattle.store.specs.Parts.{slot_of, queue_of, table_of, lows_in, pending_of, source_of, blank, kept_of}
use Rattle.store.proofs.View.{pending_at, pending_source, window_in, window_low, queue_in, queue_below}
use Rattle.store.proofs.Windows.{none_at}

same_at : {X : Type 0} (n i : ℕ) (x : X) → get_or (replicate n x) i x ≡ x
same_at n i x = elim (cases_lt i n) [ inl k ↦ get_or-replicate n i x x k | inr k ↦ get_or_past (replicate n x) i x (simp length-replicate k) ]

pub new_queue : (b : ℕ) → queue_of b (replicate 96 Unknown) ≡ (λ _. unknown)
new_queue b = fun_ext (λ s. elim (cases_lt s b) [ inl l ↦ queue_below b (replicate 96 Unknown) s l | inr l ↦ queue_in b (replicate 96 Unknown) s (s - b) (omega arith) ∙ ap slot_of (same_at 96 (s - b) Unknown) ])

pub new_table : table_of (replicate 8 0) ≡ (λ _. 0)
unfolding table_of
new_table = fun_ext (λ s. same_at 8 s 0)

pub new_lows : (x : Source) → x.low ≡ 0 → lows_in (replicate 8 x) ≡ (λ _. 0)
unfolding lows_in
new_lows x e = fun_ext (λ s. elim (cases_lt s 8) [
  | inr l ↦ ap (λ (y : Source). y.low) (get_or_past (replicate 8 x) s blank (simp length-replicate l))
  | inl l ↦ ap (λ (y : Source). y.low) (get_or-replicate 8 s x blank l) ∙ e
])

pub new_pending : (x : Source) → x.kept ≡ replicate 4 None → pending_of (replicate 8 x) ≡ (λ _ _. None)
new_pending x e = fun_ext (λ s. fun_ext (λ k. elim (cases_lt s 8) [
  | inr l ↦ pending_source (replicate 8 x) s k (simp length-replicate l)
  | inl l ↦ pending_at (replicate 8 x) s k ∙ (ap (λ y. source_of y k) (get_or-replicate 8 s x blank l) ∙ empty k)
]))
  where
    empty : (i : ℕ) → source_of x i ≡ None
    empty i = elim (cases_lt x.low i) [
      | inr o ↦ window_low x.low x.kept i o
      | inl o ↦ window_in x.low x.kept i (i - x.low - 1) (omega arith) ∙ (ap (λ v. kept_of (get_or v (i - x.low - 1) None)) e ∙ ap kept_of (none_at (i - x.low - 1)))
    ]
