-- What a head gives up after each call that was not refused.
use Rattle.std.specs.Prelude.{ℕ, zero, suc, ◌+◌, cond, ◌&&◌, length, Some, None, Option, nat_le, nat_lt}
use Rattle.head.specs.Slots.{Slot, unknown, ack, bare, whole}
use Rattle.head.specs.Queue.{acks, highest}
use Rattle.head.specs.Head.{Head}

-- the ACK at base and its m data slots are given up
unfoldable pub give_up_one : Head → ℕ → Head
give_up_one h m = record { me = h.me; made = h.made; base = suc (h.base + m); queue = λ s. cond (nat_le s (h.base + m)) unknown (h.queue s); gone = λ s. highest h.queue s (suc m) h.base (h.gone s); pending = h.pending; due = h.due; ticks = h.ticks; tries = h.tries }

-- the queue has more than n ACKs, and due is past the ACK at base and all its data slots: how many these are
abbrev pub ready : ℕ → Head → Slot → Option ℕ
ready n h unknown = None
ready n h (ack i ns) = cond (nat_lt n (acks h.queue 96 h.base) && nat_lt (h.base + length ns) h.due) (Some (length ns)) None
ready n h (bare x) = None
ready n h (whole m) = None

-- at most k times
unfoldable pub give_up : ℕ → ℕ → Head → Head
give_up zero n h = h
give_up (suc k) n h = elim (ready n h (h.queue h.base)) [ None ↦ h | Some m ↦ give_up k n (give_up_one h m) ]

-- as long as it is ready: each time takes one slot or more of 96
abbrev pub settled : ℕ → Head → Head
settled n h = give_up 96 n h
