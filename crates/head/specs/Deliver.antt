-- deliver: the next message of the common list, once enough other heads are known to have it.
use Rattle.std.specs.Prelude.{ℕ, zero, suc, ◌+◌, ◌-◌, Bool, true, false, not, ◌&&◌, ◌||◌, List, [], ◌∷◌, Some, None, Option, ◌==◌, nat_le}
use Rattle.frames.specs.Bounds.{needs}
use Rattle.frames.specs.Values.{Ack}
use Rattle.head.specs.Slots.{Slot, unknown, ack, bare, whole, is_ack}
use Rattle.head.specs.Queue.{first_not, last_ack, issuers, one_if}
use Rattle.head.specs.Head.{Head, with_due}
use Rattle.head.specs.Answers.{Done, done, waiting, delivered}

-- the stamp of the ACK, if there is one
abbrev pub stamp_of : Option Ack → Option ℕ
stamp_of None = None
stamp_of (Some a) = Some a.stamp

-- the stamp of the ACK that ordered the slot at s: the last ACK at or before it
unfoldable pub orderer : Head → ℕ → Option ℕ
orderer h s = stamp_of (last_ack h.queue (suc s - h.base) h.base)

-- the head g is among them
abbrev pub among : ℕ → List ℕ → Bool
among g [] = false
among g (i ∷ is) = g == i || among g is

-- how many of the heads below n, other than me, are among the issuers
unfoldable pub others : ℕ → ℕ → List ℕ → ℕ
others zero me is = 0
others (suc n) me is = one_if (not (n == me) && among n is) + others n me is

-- the other issuers of known ACKs from the stamp t on
abbrev pub holders_from : ℕ → Head → Option ℕ → ℕ
holders_from n h None = 0
holders_from n h (Some t) = others n h.me (issuers h.queue (h.base + 96 - t) t)

-- how many other heads are known to have the slot at s: the distinct issuers of known ACKs from the one that ordered it up to the top
unfoldable pub holders : ℕ → Head → ℕ → ℕ
holders n h s = holders_from n h (orderer h s)

-- waiting where the slot is not full or too few others are known; otherwise the message and its stamp, and due grows by 1
abbrev pub hand_over : ℕ → Head → Slot → Done
hand_over n h unknown = done n waiting h []
hand_over n h (ack i ns) = done n waiting h []
hand_over n h (bare x) = done n waiting h []
hand_over n h (whole m) = elim (nat_le (needs n m.name.level) (holders n h h.due)) [ true ↦ done n (delivered m h.due) (with_due h (suc h.due)) [] | false ↦ done n waiting h [] ]

-- due moves past ACK slots
abbrev pub past_acks : Head → Head
past_acks h = with_due h (first_not is_ack h.queue (h.base + 96 - h.due) h.due)

-- due moves past ACK slots, and what stands there is handed over
unfoldable pub deliver : ℕ → Head → Done
deliver n h = hand_over n (past_acks h) ((past_acks h).queue (past_acks h).due)
