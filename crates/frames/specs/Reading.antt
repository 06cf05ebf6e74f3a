-- What bytes read as, in a ring of n heads.
use Rattle.std.specs.Prelude.{ℕ, zero, suc, ◌+◌, ◌*◌, Bool, true, cond, ◌&&◌, List, [], ◌∷◌, length, drop, Ok, Err, Result, ◌==◌, nat_le, slice_index}
use Rattle.frames.specs.declared.refusal.Refusal.{Refusal}
use Rattle.frames.specs.declared.refusal.Refusal.TheVariants.{NotAFrame, FieldOutOfRange}
use Rattle.frames.specs.Bounds.{after}
use Rattle.frames.specs.Values.{Name, Frame, Asked, one, everyone, data_frame, ack_frame, nack_frame, frame_ok}

-- the number in the four bytes from place i on, the highest first
abbrev pub word_at : List ℕ → ℕ → ℕ
word_at bs i = slice_index bs i * 16777216 + slice_index bs (i + 1) * 65536 + slice_index bs (i + 2) * 256 + slice_index bs (i + 3)

-- the name in the first six bytes
abbrev pub name_in : List ℕ → Name
name_in bs = record { source = slice_index bs 0; number = word_at bs 1; level = slice_index bs 5 }

-- the first k names
abbrev pub names_in : ℕ → List ℕ → List Name
names_in zero bs = []
names_in (suc k) bs = name_in bs ∷ names_in k (drop 6 bs)

abbrev pub asked_in : ℕ → Asked
asked_in b = cond (b == 255) everyone (one b)

-- the frame if the test holds and its fields are in range
abbrev pub ranged : ℕ → Bool → Frame → Result Frame Refusal
ranged n ok f = cond (ok && frame_ok n f) (Ok f) (Err FieldOutOfRange)

abbrev pub data_in : List ℕ → Frame
data_in bs = data_frame (record { name = name_in (drop 1 bs); body = drop 8 bs })

abbrev pub ack_in : List ℕ → Frame
ack_in bs = ack_frame (record { stamp = word_at bs 1; issuer = slice_index bs 5; names = names_in (slice_index bs 7) (drop 8 bs) })

abbrev pub nack_in : List ℕ → Frame
nack_in bs = nack_frame (slice_index bs 1) (asked_in (slice_index bs 2)) (word_at bs 3)

-- eight bytes at the front, the last of which counts the items of k bytes each that follow
abbrev pub counted : ℕ → List ℕ → Bool
counted k bs = nat_le 8 (length bs) && length bs == 8 + k * slice_index bs 7

abbrev pub read_data : ℕ → List ℕ → Result Frame Refusal
read_data n bs = cond (counted 1 bs) (ranged n true (data_in bs)) (Err NotAFrame)

-- next is the head after the issuer
abbrev pub read_ack : ℕ → List ℕ → Result Frame Refusal
read_ack n bs = cond (counted 6 bs) (ranged n (slice_index bs 6 == after n (slice_index bs 5)) (ack_in bs)) (Err NotAFrame)

abbrev pub read_nack : ℕ → List ℕ → Result Frame Refusal
read_nack n bs = cond (length bs == 7) (ranged n true (nack_in bs)) (Err NotAFrame)

-- by kind, the first byte; no frame has the kind 0, which stands here for the first byte of no bytes
abbrev pub read : ℕ → List ℕ → Result Frame Refusal
read n bs =
    cond (slice_index bs 0 == 1) (read_data n bs)
    (cond (slice_index bs 0 == 2) (read_ack n bs)
    (cond (slice_index bs 0 == 3) (read_nack n bs) (Err NotAFrame)))
