-- Runs of several heads, each call with what it shows: the answer, where the head then is, and the packets put, all as numbers.
use Rattle.std.specs.Prelude.{ℕ, cond, List, [], ◌∷◌, ◌++◌, map, length, Ok, Err, Option, Result, ◌==◌}
use Rattle.std.specs.List.{flat_map}
use Rattle.frames.specs.declared.refusal.Refusal.{Refusal}
use Rattle.frames.specs.Refusals.{number_of}
use Rattle.frames.specs.Written.{written}
use Rattle.head.specs.Head.{Head, mark, end}
use Rattle.head.specs.Answers.{Answer, Done}
use Rattle.head.specs.Submit.{submit}
use Rattle.head.specs.Hear.{hear}
use Rattle.head.specs.Turn.{turn}
use Rattle.head.specs.Tick.{tick}
use Rattle.head.specs.Deliver.{deliver}
use Rattle.head.specs.Questions.{Holders, missing, ask_holders}

-- a call or a question, with its inputs
pub data Doing : Type 0 where
  submits : ℕ → List ℕ → Doing
  hears : Option (List ℕ) → Doing
  turns : Doing
  ticks : Doing
  delivers : Doing
  asks_missing : Doing
  asks_holders : ℕ → Doing

-- a call or question on one head
pub record Move : Type 0 where
  pub who : ℕ
  pub does : Doing

-- an answer as numbers: which one, and its values
abbrev pub answer_numbers : Answer → List ℕ
answer_numbers (Answer.refused e) = 0 ∷ number_of e ∷ []
answer_numbers (Answer.made_it k) = 1 ∷ k ∷ []
answer_numbers Answer.quiet = 2 ∷ []
answer_numbers Answer.repeat = 3 ∷ []
answer_numbers Answer.filled = 4 ∷ []
answer_numbers Answer.far = 5 ∷ []
answer_numbers Answer.kept = 6 ∷ []
answer_numbers Answer.crowded = 7 ∷ []
answer_numbers Answer.placed = 8 ∷ []
answer_numbers Answer.resent = 9 ∷ []
answer_numbers Answer.nothing = 10 ∷ []
answer_numbers Answer.not_yours = 11 ∷ []
answer_numbers (Answer.ordered t m) = 12 ∷ t ∷ m ∷ []
answer_numbers Answer.idle = 13 ∷ []
answer_numbers (Answer.fired k) = 14 ∷ k ∷ []
answer_numbers Answer.waiting = 15 ∷ []
answer_numbers (Answer.delivered m t) = 16 ∷ t ∷ m.name.source ∷ m.name.number ∷ m.name.level ∷ m.body

-- base, mark, end and due
abbrev pub where_numbers : Head → List ℕ
where_numbers h = h.base ∷ mark h ∷ end h ∷ h.due ∷ []

-- a packet after its length
abbrev pub counted_packet : List ℕ → List ℕ
counted_packet p = length p ∷ p

-- the answer, where the head is, and the packets
abbrev pub shown : ℕ → Done → List ℕ
shown n d = answer_numbers d.answer ++ (where_numbers d.head ++ flat_map counted_packet (map (written n) d.puts))

-- 1, the count and the marks; or 0 and the refusal
abbrev pub holders_numbers : Result Holders Refusal → List ℕ
holders_numbers (Ok a) = 1 ∷ a.count ∷ a.marks
holders_numbers (Err e) = 0 ∷ number_of e ∷ []

-- the head w is now x
abbrev pub now_at : (ℕ → Head) → ℕ → Head → ℕ → Head
now_at hs w x g = cond (g == w) x (hs g)

-- each move in turn, and the rest from the heads that it leaves
pub record Seen : Type 0 where
  pub shows : List ℕ
  pub heads : ℕ → Head

-- after a call
abbrev pub after_call : ℕ → (ℕ → Head) → ℕ → Done → Seen
after_call n hs w d = record { shows = shown n d; heads = now_at hs w d.head }

-- after a call, or a question, which changes nothing
abbrev pub seen : ℕ → (ℕ → Head) → ℕ → Doing → Seen
seen n hs w (submits l b) = after_call n hs w (submit n l b (hs w))
seen n hs w (hears t) = after_call n hs w (hear n t (hs w))
seen n hs w turns = after_call n hs w (turn n (hs w))
seen n hs w ticks = after_call n hs w (tick n (hs w))
seen n hs w delivers = after_call n hs w (deliver n (hs w))
seen n hs w asks_missing = record { shows = missing (hs w) ++ where_numbers (hs w); heads = hs }
seen n hs w (asks_holders t) = record { shows = holders_numbers (ask_holders n (hs w) t) ++ where_numbers (hs w); heads = hs }

abbrev pub run : ℕ → (ℕ → Head) → List Move → List (List ℕ)
run n hs [] = []
run n hs (m ∷ ms) = (seen n hs m.who m.does).shows ∷ run n (seen n hs m.who m.does).heads ms
