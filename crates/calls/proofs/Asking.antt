-- The questions that fill lent memory.
use Rattle.std.proofs.Common.{◌≡◌, ℕ, ◌-◌, ◌≤◌, true, false, leb, List, length, get_or, Some, None, Ok, Err, Option, Result, sym, refl, ap, ◌∙◌, inl, inr}
use Rattle.std.proofs.lemmas.Bool.{cases_Bool, both_ways, cond-true, cond-false, le-leb}
use Rattle.frames.specs.declared.refusal.Refusal.{Refusal}
use Rattle.frames.specs.declared.refusal.Refusal.TheVariants.{MemoryTooShort, NoDataSlot}
use Rattle.frames.specs.declared.types.Body.{Body}
use Rattle.frames.specs.declared.types.Name.{Name as CName}
use Rattle.head.specs.Head.{Head}
use Rattle.head.specs.Deliver.{holders, orderer}
use Rattle.head.specs.Questions.{Holders, ask_holders, holders_at, marks_from}
use Rattle.head.specs.Slots.{unknown, known}
use Rattle.store.specs.declared.types.Slot.TheVariants.{Unknown, Data}
use Rattle.store.specs.Parts.{slot_of, data_of, queue_of}
use Rattle.calls.specs.declared.machine.Head.{Head as CHead}
use Rattle.calls.specs.Asking.{count_of, marked, holders_answer, holders_scratch}
use Rattle.calls.specs.Model.{model}

-- what stands at a stamp decides

module _ (n : ℕ) (x : CHead) (s : ℕ) where
  data_known : (y : CName) (o : Option Body) → known (data_of y o) ≡ true
  data_known y None = refl
  data_known y (Some b) = refl

  below_base : leb x.queue.base s ≡ false → known ((model x).queue s) ≡ false
  unfolding queue_of
  below_base f = ap known (cond-false (leb x.queue.base s) (slot_of (get_or x.queue.slots (s - x.queue.base) Unknown)) unknown f)

  pub asked_data : (y : CName) (o : Option Body) → slot_of (Data y o) ≡ (model x).queue s → ask_holders n (model x) s ≡ Ok (record { count = holders n (model x) s; marks = marks_from n (model x) (orderer (model x) s) })
  unfolding ask_holders
  asked_data y o e = elim (cases_Bool (leb x.queue.base s)) [
    | inl t ↦ cond-true (leb x.queue.base s) (holders_at n (model x) s ((model x).queue s)) (Err NoDataSlot) t ∙ (ap (holders_at n (model x) s) (sym e) ∙ at o)
    | inr f ↦ absurd (both_ways (known ((model x).queue s)) (below_base f) (ap known (sym e) ∙ data_known y o))
  ]
    where
      at : (p : Option Body) → holders_at n (model x) s (data_of y p) ≡ Ok (record { count = holders n (model x) s; marks = marks_from n (model x) (orderer (model x) s) })
      at None = refl
      at (Some b) = refl

-- what is answered, and what the memory then is

module _ (n : ℕ) (h : Head) (s : ℕ) (memory : List ℕ) where
  pub long_answer : (r : Result Holders Refusal) → 96 ≤ length memory → ask_holders n h s ≡ r → count_of r ≡ holders_answer n h s memory
  long_answer r l e = ap count_of (sym e) ∙ sym (cond-true (leb 96 (length memory)) (count_of (ask_holders n h s)) (Err MemoryTooShort) (le-leb 96 (length memory) l))

  pub long_scratch : (r : Result Holders Refusal) → 96 ≤ length memory → ask_holders n h s ≡ r → marked r memory ≡ holders_scratch n h s memory
  long_scratch r l e = ap (λ (v : Result Holders Refusal). marked v memory) (sym e) ∙ sym (cond-true (leb 96 (length memory)) (marked (ask_holders n h s) memory) memory (le-leb 96 (length memory) l))
