-- What each call leaves of a head as it was: every part but those that the line of its answer names, up to the upkeep. For every head and every input.
use Rattle.std.specs.Prelude.{◌≡◌, ℕ, suc, ◌+◌, ◌<◌, ◌≤◌, min, true, false, ◌⊎◌, List, [], ◌∷◌, length, Some, None, Option, ◌≢◌}
use mathlib.Core.List.{Memᴰ}
use Rattle.frames.specs.declared.refusal.Refusal.{Refusal}
use Rattle.frames.specs.declared.refusal.Refusal.TheVariants.{StampsUsedUp}
use Rattle.frames.specs.Bounds.{number_ok}
use Rattle.frames.specs.Values.{Message, Ack, Frame, data_frame, ack_frame}
use Rattle.head.specs.Slots.{unknown, ack, bare, whole, full, is_ack, size}
use Rattle.head.specs.Queue.{Queue}
use Rattle.head.specs.Head.{Head, Pending, fresh, mark, end, low, numbered_in, with_queue, with_pending, with_clock, with_due, with_made}
use Rattle.head.specs.Upkeep.{settled}
use Rattle.head.specs.Answers.{Answer, Done, done, refuse, made_it, quiet, repeat, filled, far, kept, crowded, placed, resent, nothing, not_yours, ordered, idle, fired, waiting, delivered}
use Rattle.head.specs.Submit.{new_message, submit}
use Rattle.head.specs.Hear.{hear, own_above}
use Rattle.head.specs.Turn.{turn}
use Rattle.head.specs.Tick.{tick, wait}
use Rattle.head.specs.Deliver.{deliver}

-- what changes

-- p is pending, and then r: the message, and the others as they were
pub record WithOne (p : Pending) (m : Message) (r : Pending) : Type 0 where
  pub there : r m.name.source m.name.number ≡ Some (record { level = m.name.level; body = m.body })
  pub others : (s k : ℕ) → ((s ≡ m.name.source) × (k ≡ m.name.number) → ⊥) → r s k ≡ p s k

-- the queue is then q: the slot at t of the queue, which lacked its body, has it, and the others are as they were
pub record FilledAt (h : Head) (t : ℕ) (m : Message) (q : Queue) : Type 0 where
  pub from_base : h.base ≤ t
  pub in_queue : t < h.base + 96
  pub was_bare : h.queue t ≡ bare m.name
  pub is_whole : q t ≡ whole m
  pub others : (u : ℕ) → (u ≢ t) → q u ≡ h.queue u

-- the queue is then q: the ACK stands at its stamp; only the slots of it and its names are others, and these were unknown
pub record PlacedAt (h : Head) (a : Ack) (q : Queue) : Type 0 where
  pub from_base : h.base ≤ a.stamp
  pub in_queue : a.stamp + size a < h.base + 96
  pub were_unknown : (u : ℕ) → a.stamp ≤ u → u ≤ a.stamp + size a → h.queue u ≡ unknown
  pub the_ack : q a.stamp ≡ ack a.issuer a.names
  pub others : (u : ℕ) → (u < a.stamp) ⊎ (a.stamp + size a < u) → q u ≡ h.queue u

-- pending is then p: what the ACK names has left, and what is not above low in the queue q; the others are as they were
pub record LeftBy (h : Head) (a : Ack) (q : Queue) (p : Pending) : Type 0 where
  pub leave : (s k : ℕ) → (numbered_in s k a.names ≡ true) ⊎ (k ≤ low (with_queue h q) s) → p s k ≡ None
  pub others : (s k : ℕ) → numbered_in s k a.names ≡ false → low (with_queue h q) s < k → p s k ≡ h.pending s k

-- an ACK is placed, with the queue q and p pending after it
pub record Places (h : Head) (a : Ack) (q : Queue) (p : Pending) : Type 0 where
  pub placed_at : PlacedAt h a q
  pub left_by : LeftBy h a q p

-- it is a new one of this head, at end
pub record Issues (h : Head) (a : Ack) (q : Queue) (p : Pending) : Type 0 where
  pub own : a.issuer ≡ h.me
  pub at_end : a.stamp ≡ end h
  pub places : Places h a q p

-- due has come to t, past ACKs alone
pub record ComeTo (h : Head) (t : ℕ) : Type 0 where
  pub from_due : h.due ≤ t
  pub past_acks : (u : ℕ) → h.due ≤ u → u < t → is_ack (h.queue u) ≡ true

-- an ACK was placed: queue and pending are others, and the clock starts again
abbrev pub with_placed : Head → Queue → Pending → Head
with_placed h q p = with_clock (with_queue (with_pending h p) q) 0 0

-- an answer, with the upkeep, where an ACK was issued
abbrev pub done_issuing : ℕ → Answer → Head → Ack → List Frame → Done
done_issuing n w y a fs = record { answer = w; head = settled n y; puts = ack_frame a ∷ fs; issued = Some a }

-- what each call may do: one line for each answer, or for answers that change the same

-- submit, of a level and a body: made and pending change
pub data SubmitLeaves (n l : ℕ) (b : List ℕ) (h : Head) (d : Done) : Type 0 where
  refuses : (e : Refusal) → d ≡ refuse e h → SubmitLeaves n l b h d
  makes : (p : Pending) → number_ok (suc h.made) ≡ true → WithOne h.pending (new_message h l b) p → d ≡ done n (made_it (suc h.made)) (with_made (with_pending h p) (suc h.made)) (data_frame (new_message h l b) ∷ []) → SubmitLeaves n l b h d

-- hear: pending, the queue and the clock change, and each answer says which
pub data HearLeaves (n : ℕ) (h : Head) (d : Done) : Type 0 where
  refuses : (e : Refusal) → d ≡ refuse e h → HearLeaves n h d
  stays : (w : Answer) → Memᴰ w (quiet ∷ repeat ∷ far ∷ crowded ∷ nothing ∷ []) → d ≡ done n w h [] → HearLeaves n h d
  resends : (f : Frame) → d ≡ done n resent h (f ∷ []) → HearLeaves n h d
  keeps : (m : Message) (p : Pending) → own_above h m.name ≡ false → h.pending m.name.source m.name.number ≡ None → WithOne h.pending m p → d ≡ done n kept (with_pending h p) [] → HearLeaves n h d
  fills : (t : ℕ) (m : Message) (q : Queue) → FilledAt h t m q → d ≡ done n filled (with_clock (with_queue h q) 0 0) [] → HearLeaves n h d
  places : (a : Ack) (q : Queue) (p : Pending) → Places h a q p → d ≡ done n placed (with_placed h q p) [] → HearLeaves n h d

-- turn: only where it orders
pub data TurnLeaves (n : ℕ) (h : Head) (d : Done) : Type 0 where
  refuses : d ≡ refuse StampsUsedUp h → TurnLeaves n h d
  stays : (w : Answer) → Memᴰ w (not_yours ∷ nothing ∷ crowded ∷ []) → d ≡ done n w h [] → TurnLeaves n h d
  orders : (a : Ack) (q : Queue) (p : Pending) → Issues h a q p → d ≡ done_issuing n (ordered a.stamp (size a)) (with_placed h q p) a [] → TurnLeaves n h d

-- tick: the clock alone, unless it issues an ACK
pub data TickLeaves (n : ℕ) (h : Head) (d : Done) : Type 0 where
  idles : suc h.ticks < wait h.tries → d ≡ done n idle (with_clock h (suc h.ticks) h.tries) [] → TickLeaves n h d
  fires : (fs : List Frame) → d ≡ done n (fired (length fs)) (with_clock h 0 (min 15 (suc h.tries))) fs → TickLeaves n h d
  issues : (a : Ack) (q : Queue) (p : Pending) (fs : List Frame) → Issues h a q p → d ≡ done_issuing n (fired (suc (length fs))) (with_placed h q p) a fs → TickLeaves n h d

-- deliver: due alone
pub data DeliverLeaves (n : ℕ) (h : Head) (d : Done) : Type 0 where
  waits : (t : ℕ) → ComeTo h t → d ≡ done n waiting (with_due h t) [] → DeliverLeaves n h d
  delivers : (m : Message) (t : ℕ) → ComeTo h t → h.queue t ≡ whole m → d ≡ done n (delivered m t) (with_due h (suc t)) [] → DeliverLeaves n h d

-- what only submit and deliver change
pub record SameCounts (h y : Head) : Type 0 where
  pub me_same : y.me ≡ h.me
  pub made_same : y.made ≡ h.made
  pub due_same : y.due ≡ h.due

-- the upkeep

-- every slot from base to due is full, and nothing is known past the 96 places of the queue
pub record InOrder (h : Head) : Type 0 where
  pub full_to_due : (t : ℕ) → h.base ≤ t → t < h.due → full (h.queue t) ≡ true
  pub none_past : (t : ℕ) → h.base + 96 ≤ t → h.queue t ≡ unknown

-- what is read off the queue
pub record SameReading (h y : Head) : Type 0 where
  pub mark_same : mark y ≡ mark h
  pub end_same : end y ≡ end h
  pub low_same : (s : ℕ) → low y s ≡ low h s

-- it moves base and gone, and changes slots below the new base alone
pub record UpkeepLeaves (h y : Head) : Type 0 where
  pub counts_same : SameCounts h y
  pub pending_same : y.pending ≡ h.pending
  pub ticks_same : y.ticks ≡ h.ticks
  pub tries_same : y.tries ≡ h.tries
  pub base_rises : h.base ≤ y.base
  pub gone_rises : (s : ℕ) → h.gone s ≤ y.gone s
  pub slots_same : (t : ℕ) → y.base ≤ t → y.queue t ≡ h.queue t
  pub given_up : (t : ℕ) → h.base ≤ t → t < y.base → (t < h.due) × (y.queue t ≡ unknown)
  pub below_base : (t : ℕ) → t < h.base → (y.queue t ≡ h.queue t) ⊎ (y.queue t ≡ unknown)
  pub reading_same : InOrder h → SameReading h y

-- each call, and the upkeep
pub record EachLeaves (n : ℕ) (h : Head) : Type 0 where
  pub submitting : (l : ℕ) (b : List ℕ) → SubmitLeaves n l b h (submit n l b h)
  pub hearing : (t : Option (List ℕ)) → HearLeaves n h (hear n t h) × SameCounts h (hear n t h).head
  pub turning : TurnLeaves n h (turn n h) × SameCounts h (turn n h).head
  pub ticking : TickLeaves n h (tick n h) × SameCounts h (tick n h).head
  pub delivering : DeliverLeaves n h (deliver n h)
  pub keeping_up : UpkeepLeaves h (settled n h)

-- of every head, in a ring of any size
abbrev pub Leaves : Type 0
Leaves = (n : ℕ) (h : Head) → EachLeaves n h

-- each call leaves a head in order that was so
pub record AllInOrder (n : ℕ) (h : Head) : Type 0 where
  pub submitting : (l : ℕ) (b : List ℕ) → InOrder (submit n l b h).head
  pub hearing : (t : Option (List ℕ)) → InOrder (hear n t h).head
  pub turning : InOrder (turn n h).head
  pub ticking : InOrder (tick n h).head
  pub delivering : InOrder (deliver n h).head

-- at the start, and through every call
abbrev pub StaysInOrder : Type 0
StaysInOrder = ((h : ℕ) → InOrder (fresh h)) × ((n : ℕ) (h : Head) → InOrder h → AllInOrder n h)
