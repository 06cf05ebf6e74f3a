-- What a head keeps, what is read off it, and how single parts of it change.
use Rattle.std.specs.Prelude.{ℕ, ◌+◌, Bool, false, cond, ◌&&◌, ◌||◌, List, [], ◌∷◌, Some, None, Option, ◌==◌, nat_le}
use Rattle.frames.specs.Bounds.{after, stamp_ok}
use Rattle.frames.specs.Values.{Name, Message, Ack}
use Rattle.head.specs.Slots.{Slot, unknown, ack, bare, whole, known, full, over, cells}
use Rattle.head.specs.Queue.{Queue, first_not, past_last, last_ack, highest}

-- a message that has no slot yet, by its level and body
pub record Kept : Type 0 where
  pub level : ℕ
  pub body : List ℕ

-- the messages without a slot, by source and number
abbrev pub Pending : Type 0
Pending = ℕ → ℕ → Option Kept

-- me: the head's number. made: how many messages it has submitted. base: the first stamp of its queue.
-- gone: for each source, the highest number named in a slot that was given up. due: the next stamp to deliver.
pub record Head : Type 0 where
  pub me : ℕ
  pub made : ℕ
  pub base : ℕ
  pub queue : Queue
  pub gone : ℕ → ℕ
  pub pending : Pending
  pub due : ℕ
  pub ticks : ℕ
  pub tries : ℕ

-- the head h at the start: nothing made, all slots unknown, nothing pending
unfoldable pub fresh : ℕ → Head
fresh h = record { me = h; made = 0; base = 1; queue = λ _. unknown; gone = λ _. 0; pending = λ _ _. None; due = 1; ticks = 0; tries = 0 }

-- what is read off a head

-- the lowest stamp from base on that is not full
unfoldable pub mark : Head → ℕ
mark h = first_not full h.queue 96 h.base

-- one past the highest slot that is known; base where none is
unfoldable pub end : Head → ℕ
end h = past_last known h.queue 96 h.base

-- the highest number of the source s named below the first unknown stamp, given-up slots counted
unfoldable pub low : Head → ℕ → ℕ
low h s = highest h.queue s 96 h.base (h.gone s)

-- the known ACK with the highest stamp
unfoldable pub top : Head → Option Ack
top h = last_ack h.queue 96 h.base

-- the head that the top ACK names as next; while no ACK is known, head 0
abbrev pub next_of : ℕ → Option Ack → ℕ
next_of n None = 0
next_of n (Some a) = after n a.issuer

-- a head holds the token when it is named as next and mark equals end
unfoldable pub holds : ℕ → Head → Bool
holds n h = next_of n (top h) == h.me && mark h == end h

-- an ACK of four names at end would stand in the queue
abbrev pub room : Head → Bool
room h = nat_le (end h + 4) (h.base + 95)

-- an ACK of four names at end would have a stamp for each
abbrev pub stamps_left : Head → Bool
stamps_left h = stamp_ok (end h + 4)

-- changes of one part

-- with another queue
abbrev pub with_queue : Head → Queue → Head
with_queue h q = record { me = h.me; made = h.made; base = h.base; queue = q; gone = h.gone; pending = h.pending; due = h.due; ticks = h.ticks; tries = h.tries }

-- with other pending messages
abbrev pub with_pending : Head → Pending → Head
with_pending h p = record { me = h.me; made = h.made; base = h.base; queue = h.queue; gone = h.gone; pending = p; due = h.due; ticks = h.ticks; tries = h.tries }

-- with other ticks and tries
abbrev pub with_clock : Head → ℕ → ℕ → Head
with_clock h t r = record { me = h.me; made = h.made; base = h.base; queue = h.queue; gone = h.gone; pending = h.pending; due = h.due; ticks = t; tries = r }

-- with another due
abbrev pub with_due : Head → ℕ → Head
with_due h d = record { me = h.me; made = h.made; base = h.base; queue = h.queue; gone = h.gone; pending = h.pending; due = d; ticks = h.ticks; tries = h.tries }

-- with another made
abbrev pub with_made : Head → ℕ → Head
with_made h k = record { me = h.me; made = k; base = h.base; queue = h.queue; gone = h.gone; pending = h.pending; due = h.due; ticks = h.ticks; tries = h.tries }

-- the message goes into pending
unfoldable pub keep : Head → Message → Head
keep h m = with_pending h (λ s k. cond (s == m.name.source && k == m.name.number) (Some (record { level = m.name.level; body = m.body })) (h.pending s k))

-- the slot of a name, with the body that is pending for it
abbrev pub filled_by : Name → Option Kept → Slot
filled_by x None = bare x
filled_by x (Some k) = whole (record { name = x; body = k.body })

-- a bare slot takes its pending body
abbrev pub fill_in : Pending → Slot → Slot
fill_in p unknown = unknown
fill_in p (ack i ns) = ack i ns
fill_in p (bare x) = filled_by x (p x.source x.number)
fill_in p (whole m) = whole m

-- the source and number stand among the names
abbrev pub numbered_in : ℕ → ℕ → List Name → Bool
numbered_in s k [] = false
numbered_in s k (x ∷ xs) = (s == x.source && k == x.number) || numbered_in s k xs

-- the slots of an ACK are set and pending bodies move in: what it names is pending no more
unfoldable pub set_slots : Head → Ack → Head
set_slots h a = with_queue (with_pending h (λ s k. cond (numbered_in s k a.names) None (h.pending s k))) (λ s. over (fill_in h.pending (cells a s)) (h.queue s))

-- numbers not above low leave pending
unfoldable pub sweep : Head → Head
sweep h = with_pending h (λ s k. cond (nat_le k (low h s)) None (h.pending s k))

-- an ACK is placed: its slots are set, pending is swept, ticks and tries are 0
unfoldable pub place : Head → Ack → Head
place h a = with_clock (sweep (set_slots h a)) 0 0

-- the body of a data slot goes in: ticks and tries are 0
unfoldable pub fill : Head → ℕ → Message → Head
fill h t m = with_clock (with_queue h (λ s. cond (s == t) (whole m) (h.queue s))) 0 0
