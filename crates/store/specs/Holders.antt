-- What is counted of the heads that have a slot.
use Rattle.std.specs.Prelude.{◌≡◌, ℕ, suc, ◌<◌, Bool, false, cond, not, ◌&&◌, List, [], slice_index_or}
use Rattle.head.specs.Deliver.{among}
use Rattle.head.specs.Head.{Head}
use Rattle.head.specs.Questions.{counts}
use Rattle.head.specs.Queue.{issuer_on}
use Rattle.head.specs.Slots.{Slot, unknown, ack, bare, whole}
use Rattle.store.specs.declared.types.Queue.{Queue as CQueue}
use Rattle.store.specs.Parts.{slots_of}

-- the head h of the model has this number and this queue
pub record Keeps (h : Head) (me : ℕ) (q : CQueue) : Type 0 where
  pub number : h.me ≡ me
  pub base : h.base ≡ q.base
  pub queue : h.queue ≡ slots_of q

-- the table says of each of eight heads whether it is among the issuers
abbrev pub Tells : List Bool → List ℕ → Type 0
Tells xs is = (g : ℕ) → g < 8 → slice_index_or xs g false ≡ among g is

-- the slot is an ACK of the head g
abbrev pub issued_by : ℕ → Slot → Bool
issued_by g s = among g (issuer_on s [])

-- 1 plus the issuer where the slot is an ACK of a counted issuer that the table does not have yet; otherwise 0
abbrev pub new_mark : ℕ → ℕ → List Bool → Slot → ℕ
new_mark n me xs unknown = 0
new_mark n me xs (ack i ns) = cond (counts n me i && not (slice_index_or xs i false)) (suc i) 0
new_mark n me xs (bare x) = 0
new_mark n me xs (whole m) = 0
