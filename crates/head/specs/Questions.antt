-- What a head can be asked beside base and due, mark and end.
use Rattle.std.specs.Prelude.{ℕ, zero, suc, ◌+◌, ◌-◌, Bool, cond, not, ◌&&◌, List, [], ◌∷◌, Some, None, Ok, Err, Option, Result, ◌==◌, nat_le, nat_lt}
use Rattle.frames.specs.declared.refusal.Refusal.{Refusal}
use Rattle.frames.specs.declared.refusal.Refusal.TheVariants.{NoDataSlot}
use Rattle.head.specs.Slots.{Slot, unknown, ack, bare, whole, full}
use Rattle.head.specs.Queue.{Queue, issuers}
use Rattle.head.specs.Head.{Head, end}
use Rattle.head.specs.Deliver.{among, orderer, holders}

-- those of the k stamps from t on that are below e and not full, ascending
unfoldable pub missing_from : Queue → ℕ → ℕ → ℕ → List ℕ
missing_from q e zero t = []
missing_from q e (suc k) t = cond (nat_lt t e && not (full (q t))) (t ∷ missing_from q e k (suc t)) (missing_from q e k (suc t))

-- the queue's stamps below end that are not full
abbrev pub missing : Head → List ℕ
missing h = missing_from h.queue (end h) 96 h.base

-- a head that deliver counts, where it is among the issuers: below n, and not this one
abbrev pub counts : ℕ → ℕ → ℕ → Bool
counts n me i = nat_lt i n && not (i == me)

-- 1 plus the issuer where the slot at t is the first ACK, from the stamp a on, of a counted issuer; otherwise 0
abbrev pub holder_mark : ℕ → Head → ℕ → ℕ → Slot → ℕ
holder_mark n h a t unknown = 0
holder_mark n h a t (ack i ns) = cond (nat_le a t && (counts n h.me i && not (among i (issuers h.queue (t - a) a)))) (suc i) 0
holder_mark n h a t (bare x) = 0
holder_mark n h a t (whole m) = 0

-- at the k stamps from t on
unfoldable pub holder_marks : ℕ → Head → ℕ → ℕ → ℕ → List ℕ
holder_marks n h a zero t = []
holder_marks n h a (suc k) t = holder_mark n h a t (h.queue t) ∷ holder_marks n h a k (suc t)

-- how many others are known to have a slot, and the marks of the 96 places of the queue
pub record Holders : Type 0 where
  pub count : ℕ
  pub marks : List ℕ

-- with no ACK before the slot, none is counted
abbrev pub marks_from : ℕ → Head → Option ℕ → List ℕ
marks_from n h None = holder_marks n h (h.base + 96) 96 h.base
marks_from n h (Some a) = holder_marks n h a 96 h.base

-- only a data slot has holders
abbrev pub holders_at : ℕ → Head → ℕ → Slot → Result Holders Refusal
holders_at n h s unknown = Err NoDataSlot
holders_at n h s (ack i ns) = Err NoDataSlot
holders_at n h s (bare x) = Ok (record { count = holders n h s; marks = marks_from n h (orderer h s) })
holders_at n h s (whole m) = Ok (record { count = holders n h s; marks = marks_from n h (orderer h s) })

-- refused where the stamp is no data slot of the queue
unfoldable pub ask_holders : ℕ → Head → ℕ → Result Holders Refusal
ask_holders n h s = cond (nat_le h.base s) (holders_at n h s (h.queue s)) (Err NoDataSlot)
