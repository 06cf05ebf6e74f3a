-- What is meant by a name, a message, an ACK and a frame, apart from how they are stored or sent.
use Rattle.std.specs.Prelude.{ℕ, ◌+◌, Bool, true, ◌&&◌, List, length, nat_le, nat_lt}
use Rattle.std.specs.List.{list_all}
use Rattle.frames.specs.Bounds.{level_ok, number_ok, stamp_ok, body_length_ok, count_ok}

-- a message by its source, its number there and its level
pub record Name : Type 0 where
  pub source : ℕ
  pub number : ℕ
  pub level : ℕ

pub record Message : Type 0 where
  pub name : Name
  pub body : List ℕ

-- The head after the issuer is next; it follows from the ring's size, so an ACK does not hold it.
pub record Ack : Type 0 where
  pub stamp : ℕ
  pub issuer : ℕ
  pub names : List Name

-- whom a NACK asks
pub data Asked : Type 0 where
  one : ℕ → Asked
  everyone : Asked

-- a NACK says who asks, who is asked, and for which stamp
pub data Frame : Type 0 where
  data_frame : Message → Frame
  ack_frame : Ack → Frame
  nack_frame : ℕ → Asked → ℕ → Frame

abbrev pub name_ok : ℕ → Name → Bool
name_ok n x = nat_lt x.source n && (number_ok x.number && level_ok n x.level)

abbrev pub names_ok : ℕ → List Name → Bool
names_ok n xs = list_all (name_ok n) xs

abbrev pub asked_ok : ℕ → Asked → Bool
asked_ok n (one h) = nat_lt h n
asked_ok n everyone = true

-- every field of a frame is in its range, in a ring of n heads
abbrev pub frame_ok : ℕ → Frame → Bool
frame_ok n (data_frame m) = name_ok n m.name && body_length_ok (length m.body)
frame_ok n (ack_frame a) =
    nat_le 1 a.stamp
    && (nat_le (a.stamp + length a.names) 1000000
    && (nat_lt a.issuer n && (count_ok (length a.names) && names_ok n a.names)))
frame_ok n (nack_frame f o t) = nat_lt f n && (asked_ok n o && stamp_ok t)
