-- hear: a frame for this head. The first rule that applies decides.
use Rattle.std.specs.Prelude.{ℕ, suc, ◌+◌, Bool, true, false, not, ◌&&◌, ◌||◌, List, [], ◌∷◌, Some, None, Ok, Err, Option, Result, ◌==◌, nat_le, nat_lt}
use Rattle.frames.specs.declared.refusal.Refusal.{Refusal}
use Rattle.frames.specs.declared.refusal.Refusal.TheVariants.{Contradiction}
use Rattle.frames.specs.Values.{Name, Message, Ack, Asked, one, everyone, Frame, data_frame, ack_frame, nack_frame}
use Rattle.frames.specs.Reading.{read}
use Rattle.head.specs.Slots.{Slot, unknown, ack, bare, whole, size, same_bytes, same_names, twice}
use Rattle.head.specs.Queue.{place_of, all_unknown}
use Rattle.head.specs.Head.{Head, Kept, low, keep, fill, place}
use Rattle.head.specs.Answers.{Done, done, refuse, repeat, filled, far, kept, crowded, placed, resent, nothing, quiet}

-- Data

-- equal to what is pending under its number
abbrev pub same_kept : Message → Kept → Bool
same_kept m k = m.name.level == k.level && same_bytes m.body k.body

-- a slot names it: contradiction where level or body differs, repeat where the body is there, otherwise the body goes in
abbrev pub hear_slot : ℕ → Head → Message → ℕ → Slot → Done
hear_slot n h m t unknown = refuse Contradiction h
hear_slot n h m t (ack i ns) = refuse Contradiction h
hear_slot n h m t (bare x) = elim (m.name.level == x.level) [ true ↦ done n filled (fill h t m) [] | false ↦ refuse Contradiction h ]
hear_slot n h m t (whole w) = elim (m.name.level == w.name.level && same_bytes m.body w.body) [ true ↦ done n repeat h [] | false ↦ refuse Contradiction h ]

-- already pending: repeat if equal, otherwise a contradiction; not yet: kept
abbrev pub hear_pending : ℕ → Head → Message → Option Kept → Done
hear_pending n h m None = done n kept (keep h m) []
hear_pending n h m (Some k) = elim (same_kept m k) [ true ↦ done n repeat h [] | false ↦ refuse Contradiction h ]

-- a number above low + 4 is too far ahead
abbrev pub hear_window : ℕ → Head → Message → Done
hear_window n h m = elim (nat_lt (low h m.name.source + 4) m.name.number) [ true ↦ done n far h [] | false ↦ hear_pending n h m (h.pending m.name.source m.name.number) ]

-- no slot names it: a number not above low was there before
abbrev pub hear_unslotted : ℕ → Head → Message → Done
hear_unslotted n h m = elim (nat_le m.name.number (low h m.name.source)) [ true ↦ done n repeat h [] | false ↦ hear_window n h m ]

-- by the slot that names it, if there is one
abbrev pub hear_known : ℕ → Head → Message → Option ℕ → Done
hear_known n h m None = hear_unslotted n h m
hear_known n h m (Some t) = hear_slot n h m t (h.queue t)

-- own, with a number that was never made
abbrev pub own_above : Head → Name → Bool
own_above h x = x.source == h.me && nat_lt h.made x.number

-- a Data frame: first, an own message that was never made is a contradiction
unfoldable pub hear_data : ℕ → Message → Head → Done
hear_data n m h = elim (own_above h m.name) [ true ↦ refuse Contradiction h | false ↦ hear_known n h m (place_of h.queue m.name 96 h.base) ]

-- ACK

-- there is one
abbrev pub found : {A : Type 0} → Option A → Bool
found None = false
found (Some x) = true

-- pending at another level
abbrev pub other_level : ℕ → Option Kept → Bool
other_level l None = false
other_level l (Some k) = not (l == k.level)

-- a name that stands in the queue, is not above low, is own and above made, or is pending at another level
abbrev pub bad_name : Head → Name → Bool
bad_name h x = found (place_of h.queue x 96 h.base) || (nat_le x.number (low h x.source) || (own_above h x || other_level x.level (h.pending x.source x.number)))

-- one of the names is bad
abbrev pub bad_names : Head → List Name → Bool
bad_names h [] = false
bad_names h (x ∷ xs) = bad_name h x || bad_names h xs

-- the issuer is this head, a slot of its block is not unknown, a name comes twice, or one of them is bad
abbrev pub contradicts : Head → Ack → Bool
contradicts h a = a.issuer == h.me || (not (all_unknown h.queue (suc (size a)) a.stamp) || (twice a.names || bad_names h a.names))

-- its stamp has no ACK: placed, unless it contradicts what is known
abbrev pub hear_new : ℕ → Head → Ack → Done
hear_new n h a = elim (contradicts h a) [ true ↦ refuse Contradiction h | false ↦ done n placed (place h a) [] ]

-- its slot is an ACK: repeat if all is equal, otherwise a contradiction
abbrev pub hear_at : ℕ → Head → Ack → Slot → Done
hear_at n h a unknown = hear_new n h a
hear_at n h a (ack i ns) = elim (i == a.issuer && same_names ns a.names) [ true ↦ done n repeat h [] | false ↦ refuse Contradiction h ]
hear_at n h a (bare x) = hear_new n h a
hear_at n h a (whole m) = hear_new n h a

-- its last slot would stand past the queue
abbrev pub hear_ahead : ℕ → Ack → Head → Done
hear_ahead n a h = elim (nat_lt (h.base + 95) (a.stamp + size a)) [ true ↦ done n crowded h [] | false ↦ hear_at n h a (h.queue a.stamp) ]

-- its stamp was given up
unfoldable pub hear_ack : ℕ → Ack → Head → Done
hear_ack n a h = elim (nat_lt a.stamp h.base) [ true ↦ done n repeat h [] | false ↦ hear_ahead n a h ]

-- NACK

-- the frame of a full slot
abbrev pub frames_of : Slot → ℕ → List Frame
frames_of unknown t = []
frames_of (ack i ns) t = ack_frame (record { stamp = t; issuer = i; names = ns }) ∷ []
frames_of (bare x) t = []
frames_of (whole m) t = data_frame m ∷ []

-- nothing, or the frame of the slot
abbrev pub resend : ℕ → Head → List Frame → Done
resend n h [] = done n nothing h []
resend n h (f ∷ fs) = done n resent h (f ∷ fs)

-- it asks this head, or everyone
abbrev pub asks : Asked → ℕ → Bool
asks (one g) me = g == me
asks everyone me = true

-- it asks this head, is from another, and its slot is in the queue and full: the slot's frame is put
unfoldable pub hear_nack : ℕ → ℕ → Asked → ℕ → Head → Done
hear_nack n from to t h = elim (asks to h.me && (not (from == h.me) && nat_le h.base t)) [ true ↦ resend n h (frames_of (h.queue t) t) | false ↦ done n nothing h [] ]

-- a packet

-- by the kind of the frame
abbrev pub hear_frame : ℕ → Frame → Head → Done
hear_frame n (data_frame m) h = hear_data n m h
hear_frame n (ack_frame a) h = hear_ack n a h
hear_frame n (nack_frame f o t) h = hear_nack n f o t h

-- bytes that are no frame, or whose fields are out of range, are refused as reading says
abbrev pub hear_read : ℕ → Head → Result Frame Refusal → Done
hear_read n h (Ok f) = hear_frame n f h
hear_read n h (Err e) = refuse e h

-- the bytes of a packet, or none: quiet
unfoldable pub hear : ℕ → Option (List ℕ) → Head → Done
hear n None h = done n quiet h []
hear n (Some bs) h = hear_read n h (read n bs)
