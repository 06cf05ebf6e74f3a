-- The bytes of a frame.
use Rattle.std.specs.Prelude.{ℕ, ◌/◌, ◌%◌, cond, List, [], ◌∷◌, ◌++◌, length, drop, Ok, Err, Result, nat_le}
use Rattle.std.specs.List.{flat_map}
use Rattle.frames.specs.declared.refusal.Refusal.{Refusal}
use Rattle.frames.specs.declared.refusal.Refusal.TheVariants.{MemoryTooShort, FieldOutOfRange}
use Rattle.frames.specs.Bounds.{after}
use Rattle.frames.specs.Values.{Name, Frame, Asked, one, everyone, data_frame, ack_frame, nack_frame, frame_ok}

-- a number in four bytes, the highest first, and the bytes after it
abbrev pub word_then : ℕ → List ℕ → List ℕ
word_then x rest = (x / 16777216 % 256) ∷ (x / 65536 % 256) ∷ (x / 256 % 256) ∷ (x % 256) ∷ rest

-- source (1), number (4), level (1)
abbrev pub name_then : Name → List ℕ → List ℕ
name_then x rest = x.source ∷ word_then x.number (x.level ∷ rest)

abbrev pub name_bytes : Name → List ℕ
name_bytes x = name_then x []

abbrev pub asked_byte : Asked → ℕ
asked_byte (one h) = h
asked_byte everyone = 255

-- the frame's bytes in a ring of n heads
-- Data: 1, source, number (4), level, length of the body, the body
-- ACK: 2, stamp (4), issuer, next, count of the names, the names
-- NACK: 3, from, to, stamp (4)
abbrev pub written : ℕ → Frame → List ℕ
written n (data_frame m) = 1 ∷ name_then m.name (length m.body ∷ m.body)
written n (ack_frame a) = 2 ∷ word_then a.stamp (a.issuer ∷ after n a.issuer ∷ length a.names ∷ flat_map name_bytes a.names)
written n (nack_frame f o t) = 3 ∷ f ∷ asked_byte o ∷ word_then t []

-- Memory is tested before the fields.
abbrev pub write_answer : ℕ → Frame → ℕ → Result ℕ Refusal
write_answer n f room = cond (nat_le (length (written n f)) room) (cond (frame_ok n f) (Ok (length (written n f))) (Err FieldOutOfRange)) (Err MemoryTooShort)

abbrev pub pack_answer : ℕ → Frame → Result (List ℕ) Refusal
pack_answer n f = cond (frame_ok n f) (Ok (written n f)) (Err FieldOutOfRange)

-- the frame at the front of the memory, the rest as it was
abbrev pub front_written : ℕ → Frame → List ℕ → List ℕ
front_written n f out = written n f ++ drop (length (written n f)) out
