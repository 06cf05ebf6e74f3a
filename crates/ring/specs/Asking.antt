-- The questions to a ring that fill memory of the caller's.
use Rattle.std.specs.Prelude.{ℕ, cond, List, Result, nat_lt}
use Rattle.frames.specs.declared.refusal.Refusal.{Refusal}
use Rattle.head.specs.Head.{Head}
use Rattle.calls.specs.Asking.{missing_answer, missing_list, holders_answer, holders_scratch}
use Rattle.ring.specs.Ring.{Ring}
use Rattle.ring.specs.Questions.{ask}

-- what a head leaves in the memory; a head that the ring does not have leaves all
abbrev pub leave : ℕ → Ring → ℕ → (Head → List ℕ → List ℕ) → List ℕ → List ℕ
leave n r g q memory = cond (nat_lt g n) (q (r.heads g) memory) memory

abbrev pub missing_told : ℕ → Ring → ℕ → List ℕ → Result ℕ Refusal
missing_told n r g list = ask n r g (λ h. missing_answer h list)

abbrev pub missing_listed : ℕ → Ring → ℕ → List ℕ → List ℕ
missing_listed n r g list = leave n r g missing_list list

abbrev pub holders_told : ℕ → Ring → ℕ → ℕ → List ℕ → Result ℕ Refusal
holders_told n r g s scratch = ask n r g (λ h. holders_answer n h s scratch)

abbrev pub holders_marked : ℕ → Ring → ℕ → ℕ → List ℕ → List ℕ
holders_marked n r g s scratch = leave n r g (λ h. holders_scratch n h s) scratch
