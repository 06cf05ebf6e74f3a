-- What a head keeps is in its ranges, and so every frame that it puts can be written.
use Rattle.std.specs.Prelude.{◌≡◌, ℕ, ◌<◌, ◌≤◌, Bool, true, ◌&&◌, List, Some, Option}
use mathlib.Core.List.{Memᴰ}
use Rattle.frames.specs.Bounds.{stamp_ok}
use Rattle.frames.specs.Values.{Message, Frame, data_frame, ack_frame, name_ok, frame_ok}
use Rattle.head.specs.Slots.{Slot, unknown, ack, bare, whole}
use Rattle.head.specs.Head.{Head, Kept, fresh}
use Rattle.head.specs.Answers.{Done}
use Rattle.head.specs.Submit.{submit}
use Rattle.head.specs.Hear.{hear}
use Rattle.head.specs.Turn.{turn}
use Rattle.head.specs.Tick.{tick}
use Rattle.head.specs.Deliver.{deliver}

-- the message that is pending under a source and number
abbrev pub kept_message : ℕ → ℕ → Kept → Message
kept_message s k p = record { name = record { source = s; number = k; level = p.level }; body = p.body }

-- what stands at the stamp t is in its ranges
abbrev pub slot_ok : ℕ → ℕ → Slot → Bool
slot_ok n t unknown = true
slot_ok n t (ack i ns) = frame_ok n (ack_frame (record { stamp = t; issuer = i; names = ns }))
slot_ok n t (bare x) = stamp_ok t && name_ok n x
slot_ok n t (whole m) = stamp_ok t && frame_ok n (data_frame m)

-- all that a head keeps is in its ranges
pub record InRange (n : ℕ) (h : Head) : Type 0 where
  pub one_of_n : h.me < n
  pub from_one : 1 ≤ h.base
  pub pending_ok : (s k : ℕ) (p : Kept) → h.pending s k ≡ Some p → frame_ok n (data_frame (kept_message s k p)) ≡ true
  pub slots_ok : (t : ℕ) → slot_ok n t (h.queue t) ≡ true

-- a call leaves a head in its ranges, and every frame that it puts can be written
pub record Writable (n : ℕ) (d : Done) : Type 0 where
  pub after : InRange n d.head
  pub frames_ok : (f : Frame) → Memᴰ f d.puts → frame_ok n f ≡ true

-- so is each of the five calls
pub record AllWritable (n : ℕ) (h : Head) : Type 0 where
  pub submitting : (l : ℕ) (b : List ℕ) → Writable n (submit n l b h)
  pub hearing : (t : Option (List ℕ)) → Writable n (hear n t h)
  pub turning : Writable n (turn n h)
  pub ticking : Writable n (tick n h)
  pub delivering : Writable n (deliver n h)

-- at the start, and through every call
abbrev pub StaysInRange : Type 0
StaysInRange = (n : ℕ) → ((h : ℕ) → h < n → InRange n (fresh h)) × ((h : Head) → InRange n h → AllWritable n h)
