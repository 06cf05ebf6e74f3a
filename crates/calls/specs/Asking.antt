-- What the questions that fill lent memory answer and leave in it.
use Rattle.std.specs.Prelude.{ℕ, cond, List, ◌++◌, length, drop, Ok, Err, Result, nat_le}
use Rattle.frames.specs.declared.refusal.Refusal.{Refusal}
use Rattle.frames.specs.declared.refusal.Refusal.TheVariants.{MemoryTooShort}
use Rattle.head.specs.Head.{Head}
use Rattle.head.specs.Questions.{Holders, missing, ask_holders}

-- memory of fewer than 96 places is refused
abbrev pub with_room : {A : Type 0} → List ℕ → Result A Refusal → Result A Refusal
with_room memory r = cond (nat_le 96 (length memory)) r (Err MemoryTooShort)

-- how many stamps are missing
abbrev pub missing_answer : Head → List ℕ → Result ℕ Refusal
missing_answer h list = with_room list (Ok (length (missing h)))

-- the list after: the missing stamps at its front, and the rest as it was
abbrev pub missing_list : Head → List ℕ → List ℕ
missing_list h list = cond (nat_le 96 (length list)) (missing h ++ drop (length (missing h)) list) list

-- the count of the holders
abbrev pub count_of : Result Holders Refusal → Result ℕ Refusal
count_of (Ok hs) = Ok hs.count
count_of (Err e) = Err e

-- the marks of the holders at the front, and the rest as it was; a refusal leaves all
abbrev pub marked : Result Holders Refusal → List ℕ → List ℕ
marked (Ok hs) scratch = hs.marks ++ drop 96 scratch
marked (Err e) scratch = scratch

abbrev pub holders_answer : ℕ → Head → ℕ → List ℕ → Result ℕ Refusal
holders_answer n h s scratch = with_room scratch (count_of (ask_holders n h s))

abbrev pub holders_scratch : ℕ → Head → ℕ → List ℕ → List ℕ
holders_scratch n h s scratch = cond (nat_le 96 (length scratch)) (marked (ask_holders n h s) scratch) scratch
