-- What the parts of a head mean in the model.
use Rattle.std.specs.Prelude.{◌≡◌, ℕ, ◌+◌, ◌-◌, ◌<◌, ◌≤◌, Bool, true, false, cond, ◌&&◌, List, [], ◌∷◌, get_or, Some, None, Option, ◌==◌, nat_le, nat_lt, slice_index, slice_index_or, refl}
use Rattle.frames.specs.declared.types.Body.{Body}
use Rattle.frames.specs.declared.types.Name.{Name as CName}
use Rattle.frames.specs.declared.table.Table.{Table}
use Rattle.frames.specs.Values.{Name, Ack}
use Rattle.frames.specs.Types.{level_number, name_of, names_of, body_of, message_of}
use Rattle.head.specs.Slots.{Slot, unknown, ack, bare, whole, known, named, cells}
use Rattle.head.specs.Queue.{Queue, highest, raise}
use Rattle.head.specs.Head.{Head, Kept, Pending}
use Rattle.head.specs.Hear.{found}
use Rattle.store.specs.declared.types.Slot.{Slot as CSlot}
use Rattle.store.specs.declared.types.Slot.TheVariants.{Unknown, Ack as CAck, Data}
use Rattle.store.specs.declared.types.Kept.{Kept as CKept}
use Rattle.store.specs.declared.types.Source.{Source}
use Rattle.store.specs.declared.types.Queue.{Queue as CQueue}
use Rattle.store.specs.declared.types.Inbox.{Inbox}

-- a data slot, with its body if it is there
abbrev pub data_of : CName → Option Body → Slot
data_of x None = bare (name_of x)
data_of x (Some b) = whole (message_of x b)

-- what stands at a place
abbrev pub slot_of : CSlot → Slot
slot_of Unknown = unknown
slot_of (CAck i ns) = ack i (names_of ns)
slot_of (Data x b) = data_of x b

-- the names of an ACK
abbrev pub names_at : CSlot → Option (Table CName 4)
names_at Unknown = None
names_at (CAck i ns) = Some ns
names_at (Data x b) = None

-- what is pending at a place of a window
abbrev pub kept_of : Option CKept → Option Kept
kept_of None = None
kept_of (Some k) = Some (record { level = level_number k.level; body = body_of k.body })

-- nothing is pending
abbrev pub blank : Source
blank = record { low = 0; kept = None ∷ None ∷ None ∷ None ∷ []; places = refl }

-- the slots from a base on: unknown outside
unfoldable pub queue_of : ℕ → List CSlot → Queue
queue_of b ss s = cond (nat_le b s) (slot_of (slice_index_or ss (s - b) Unknown)) unknown

-- what stands at each stamp of a queue
abbrev pub slots_of : CQueue → Queue
slots_of q = queue_of q.base q.slots

-- a number for each source: 0 outside
unfoldable pub table_of : List ℕ → ℕ → ℕ
table_of xs s = slice_index xs s

-- the numbers after low: nothing outside the window
unfoldable pub window_of : ℕ → List (Option CKept) → ℕ → Option Kept
window_of low w k = cond (nat_lt low k) (kept_of (slice_index_or w (k - low - 1) None)) None

-- one of the four numbers after low
abbrev pub in_window : ℕ → ℕ → Bool
in_window low k = nat_lt low k && nat_le k (low + 4)

-- what is pending of one source
abbrev pub source_of : Source → ℕ → Option Kept
source_of x = window_of x.low x.kept

-- low of each source: 0 outside
unfoldable pub lows_in : List Source → ℕ → ℕ
lows_in xs s = (get_or xs s blank).low

abbrev pub lows_of : Inbox → ℕ → ℕ
lows_of b = lows_in b.sources

-- the windows of all sources
unfoldable pub pending_of : List Source → Pending
pending_of xs s = source_of (get_or xs s blank)

abbrev pub inbox_of : Inbox → Pending
inbox_of b = pending_of b.sources

-- an ACK by its parts
abbrev pub ack_of : ℕ → ℕ → Table CName 4 → Ack
ack_of t i ns = record { stamp = t; issuer = i; names = names_of ns }

-- one message is pending no more
abbrev pub without : Name → Pending → Pending
without x p s k = cond (s == x.source && k == x.number) None (p s k)

-- the slot with this body, if it is a data slot
abbrev pub with_body : List ℕ → Slot → Slot
with_body b unknown = unknown
with_body b (ack i ns) = ack i ns
with_body b (bare x) = whole (record { name = x; body = b })
with_body b (whole m) = whole (record { name = m.name; body = b })

-- low, as the model has it
abbrev pub low_of : CQueue → ℕ → ℕ
low_of q s = highest (slots_of q) s 96 q.base (table_of q.gone s)

-- a stamp and the k after it stand in the queue
abbrev pub spans : CQueue → ℕ → ℕ → Bool
spans q t k = nat_le q.base t && nat_le (t + k) (q.base + 95)

-- a head whose queue and due are these
abbrev pub part : Head → ℕ → CQueue → Head
part h d q = record { me = h.me; made = h.made; base = q.base; queue = slots_of q; gone = table_of q.gone; pending = h.pending; due = d; ticks = h.ticks; tries = h.tries }

-- all before a stamp is known
abbrev pub Passed : CQueue → ℕ → Type 0
Passed q d = (u : ℕ) → q.base ≤ u → u < d → known (slots_of q u) ≡ true

-- no stamp past the last is known
abbrev pub Ends : CQueue → Type 0
Ends q = (u : ℕ) → 1000000 < u → known (slots_of q u) ≡ false

-- no number of the source g that the queue names, or gave up, is above k
abbrev pub Own : ℕ → ℕ → CQueue → Type 0
Own g k q = ((u : ℕ) → raise g (named (slots_of q u)) k ≡ k) × (table_of q.gone g ≤ k)

-- no number of the source g that an ACK names is above k
abbrev pub OwnAck : ℕ → ℕ → Ack → Type 0
OwnAck g k a = (u : ℕ) → raise g (named (cells a u)) k ≡ k

-- no number of the source g above b is pending
abbrev pub Most : ℕ → ℕ → Pending → Type 0
Most g b p = (k : ℕ) → b < k → found (p g k) ≡ false

-- the stamp of a place of the queue
abbrev pub stamp_at : ℕ → Option ℕ → Option ℕ
stamp_at b None = None
stamp_at b (Some i) = Some (b + i)
