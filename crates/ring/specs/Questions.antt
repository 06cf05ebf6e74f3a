-- What a ring of n heads can be asked.
use Rattle.std.specs.Prelude.{ℕ, cond, List, [], ◌∷◌, map, Ok, Err, Result, nat_lt}
use Rattle.frames.specs.declared.refusal.Refusal.{Refusal}
use Rattle.frames.specs.declared.refusal.Refusal.TheVariants.{NoSuchHead}
use Rattle.head.specs.Head.{Head, mark, end}
use Rattle.head.specs.Questions.{Holders, missing, ask_holders}
use Rattle.ring.specs.Ring.{Ring}

-- a question to one head; refused where the ring does not have it
abbrev pub ask : {A : Type 0} → ℕ → Ring → ℕ → (Head → Result A Refusal) → Result A Refusal
ask n r g q = cond (nat_lt g n) (q (r.heads g)) (Err NoSuchHead)

-- the first stamp of its queue
abbrev pub base_of : ℕ → Ring → ℕ → Result ℕ Refusal
base_of n r g = ask n r g (λ h. Ok h.base)

-- the next stamp that it will deliver
abbrev pub due_of : ℕ → Ring → ℕ → Result ℕ Refusal
due_of n r g = ask n r g (λ h. Ok h.due)

-- one past its highest known slot
abbrev pub end_of : ℕ → Ring → ℕ → Result ℕ Refusal
end_of n r g = ask n r g (λ h. Ok (end h))

-- what it lacks below its end
abbrev pub missing_of : ℕ → Ring → ℕ → Result (List ℕ) Refusal
missing_of n r g = ask n r g (λ h. Ok (missing h))

-- of the slot at the stamp s
abbrev pub holders_of : ℕ → Ring → ℕ → ℕ → Result Holders Refusal
holders_of n r g s = ask n r g (λ h. ask_holders n h s)

-- the mark of the head g, 0 where the ring does not have it
abbrev pub mark_of : ℕ → Ring → ℕ → ℕ
mark_of n r g = cond (nat_lt g n) (mark (r.heads g)) 0

-- the marks of all heads, as eight numbers
abbrev pub marks : ℕ → Ring → List ℕ
marks n r = map (mark_of n r) (0 ∷ 1 ∷ 2 ∷ 3 ∷ 4 ∷ 5 ∷ 6 ∷ 7 ∷ [])
