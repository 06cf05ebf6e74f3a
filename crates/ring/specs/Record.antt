-- What a trip tells: who submitted, received and delivered what, and in which order messages were named.
use Rattle.std.specs.Prelude.{◌≡◌, ℕ, suc, ◌+◌, ◌-◌, ◌<◌, cond, ◌⊎◌, List, [], ◌∷◌, ◌++◌, Some, None, Option, ◌==◌}
use mathlib.Core.List.{Memᴰ}
use Rattle.frames.specs.Values.{Name, Message, Ack, data_frame}
use Rattle.frames.specs.Written.{written}
use Rattle.head.specs.Head.{mark}
use Rattle.head.specs.Answers.{Answer, made_it, kept, filled, delivered}
use Rattle.ring.specs.Ring.{Ring, Event, Call, submits, hears, turns, ticks, delivers}

-- one of the events is such
abbrev pub Happened : (Event → Type 0) → List Event → Type 0
Happened P es = (e : Event) × Memᴰ e es × P e

-- the head h submitted the message, and was answered made
pub record Submits (h : ℕ) (m : Message) (e : Event) : Type 0 where
  pub who : e.who ≡ h
  pub call : e.call ≡ submits m.name.level m.body
  pub source : m.name.source ≡ h
  pub answer : e.answer ≡ made_it m.name.number

-- the head h answered kept or filled to the message's Data frame
pub record TakesIn (n h : ℕ) (m : Message) (e : Event) : Type 0 where
  pub who : e.who ≡ h
  pub call : e.call ≡ hears
  pub frame : e.taken ≡ Some (written n (data_frame m))
  pub answer : (e.answer ≡ kept) ⊎ (e.answer ≡ filled)

-- the head h delivered the message at the stamp t
pub record Delivers (h : ℕ) (m : Message) (t : ℕ) (e : Event) : Type 0 where
  pub who : e.who ≡ h
  pub answer : e.answer ≡ delivered m t

-- some head submitted it
abbrev pub Submitted : Message → List Event → Type 0
Submitted m es = Happened (Submits m.name.source m) es

-- the ACK, if one was issued, before the others
abbrev pub and_issued : Option Ack → List Ack → List Ack
and_issued None ls = ls
and_issued (Some a) ls = a ∷ ls

-- the ACKs that were issued, the last one first
abbrev pub issued : List Event → List Ack
issued [] = []
issued (e ∷ es) = and_issued e.issued (issued es)

-- their names, in the order of issue
abbrev pub all_names : List Ack → List Name
all_names [] = []
all_names (a ∷ ls) = all_names ls ++ a.names

-- the name i, from 0
abbrev pub nth_name : List Name → ℕ → Option Name
nth_name [] i = None
nth_name (x ∷ xs) i = cond (i == 0) (Some x) (nth_name xs (i - 1))

-- the ACK gives the name x the stamp t: it is name i, from 1, and t is the ACK's stamp plus i
pub record Stamped (x : Name) (t : ℕ) (a : Ack) : Type 0 where
  pub place : ℕ
  pub at : t ≡ a.stamp + suc place
  pub is : nth_name a.names place ≡ Some x

-- the message was named in an ACK that was issued, and has the stamp t
abbrev pub Ordered : Message → ℕ → List Event → Type 0
Ordered m t es = (a : Ack) × Memᴰ a (issued es) × Stamped m.name t a

-- a head has received a message if its stamp is below the head's mark and the head submitted it or answered kept or filled to its Data frame
pub record Received (n : ℕ) (es : List Event) (r : Ring) (g : ℕ) (m : Message) (t : ℕ) : Type 0 where
  pub below : t < mark (r.heads g)
  pub came : Happened (Submits g m) es ⊎ Happened (TakesIn n g m) es

-- a head has given up what has a stamp below its base
abbrev pub GivenUp : Ring → ℕ → ℕ → Type 0
GivenUp r h t = t < (r.heads h).base

-- the message of a call that was answered made
abbrev pub made_of : ℕ → ℕ → Call → List Message
made_of h k (submits l b) = record { name = record { source = h; number = k; level = l }; body = b } ∷ []
made_of h k hears = []
made_of h k turns = []
made_of h k ticks = []
made_of h k delivers = []

-- the message that an event submitted
abbrev pub submission_of : ℕ → Call → Answer → List Message
submission_of h c (Answer.refused k) = []
submission_of h c (Answer.made_it k) = made_of h k c
submission_of h c Answer.quiet = []
submission_of h c Answer.repeat = []
submission_of h c Answer.filled = []
submission_of h c Answer.far = []
submission_of h c Answer.kept = []
submission_of h c Answer.crowded = []
submission_of h c Answer.placed = []
submission_of h c Answer.resent = []
submission_of h c Answer.nothing = []
submission_of h c Answer.not_yours = []
submission_of h c (Answer.ordered t m) = []
submission_of h c Answer.idle = []
submission_of h c (Answer.fired k) = []
submission_of h c Answer.waiting = []
submission_of h c (Answer.delivered m t) = []

-- what the head h submitted, in order
abbrev pub submissions : ℕ → List Event → List Message
submissions h [] = []
submissions h (e ∷ es) = submissions h es ++ cond (e.who == h) (submission_of h e.call e.answer) []

-- the message that an answer delivers
abbrev pub message_of : Answer → List Message
message_of (Answer.refused k) = []
message_of (Answer.made_it k) = []
message_of Answer.quiet = []
message_of Answer.repeat = []
message_of Answer.filled = []
message_of Answer.far = []
message_of Answer.kept = []
message_of Answer.crowded = []
message_of Answer.placed = []
message_of Answer.resent = []
message_of Answer.nothing = []
message_of Answer.not_yours = []
message_of (Answer.ordered t m) = []
message_of Answer.idle = []
message_of (Answer.fired k) = []
message_of Answer.waiting = []
message_of (Answer.delivered m t) = m ∷ []

-- what the head h delivered, in order
abbrev pub deliveries : ℕ → List Event → List Message
deliveries h [] = []
deliveries h (e ∷ es) = deliveries h es ++ cond (e.who == h) (message_of e.answer) []
