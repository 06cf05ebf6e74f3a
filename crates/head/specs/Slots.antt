-- What may stand at a stamp, the slots that an ACK sets, and the tests on names and bodies.
use Rattle.std.specs.Prelude.{ℕ, ◌-◌, Bool, true, false, cond, ◌&&◌, ◌||◌, List, [], ◌∷◌, length, Some, None, Option, ◌==◌, nat_lt}
use Rattle.frames.specs.Values.{Name, Message, Ack}

-- A slot is unknown, an ACK (its issuer and names), or a data slot: bare while it lacks its body, whole once it has it.
pub data Slot : Type 0 where
  unknown : Slot
  ack : ℕ → List Name → Slot
  bare : Name → Slot
  whole : Message → Slot

-- something stands there
abbrev pub known : Slot → Bool
known unknown = false
known (ack i ns) = true
known (bare x) = true
known (whole m) = true

-- a slot is full when it is an ACK or has its body
abbrev pub full : Slot → Bool
full unknown = false
full (ack i ns) = true
full (bare x) = false
full (whole m) = true

-- an ACK stands there
abbrev pub is_ack : Slot → Bool
is_ack unknown = false
is_ack (ack i ns) = true
is_ack (bare x) = false
is_ack (whole m) = false

-- the name of a data slot
abbrev pub named : Slot → Option Name
named unknown = None
named (ack i ns) = None
named (bare x) = Some x
named (whole m) = Some m.name

-- what is there, otherwise what was
abbrev pub over : Slot → Slot → Slot
over unknown y = y
over (ack i ns) y = ack i ns
over (bare x) y = bare x
over (whole m) y = whole m

-- the data slot of the name i, from 0, of a list of names
abbrev pub nth_slot : List Name → ℕ → Slot
nth_slot [] i = unknown
nth_slot (x ∷ xs) i = cond (i == 0) (bare x) (nth_slot xs (i - 1))

-- the slots that an ACK sets: itself at its stamp t, its name i, from 1, at t + i
unfoldable pub cells : Ack → ℕ → Slot
cells a s = cond (s == a.stamp) (ack a.issuer a.names) (cond (nat_lt a.stamp s) (nth_slot a.names (s - a.stamp - 1)) unknown)

-- how many names an ACK has
abbrev pub size : Ack → ℕ
size a = length a.names

-- the same body
abbrev pub same_bytes : List ℕ → List ℕ → Bool
same_bytes [] [] = true
same_bytes [] (y ∷ ys) = false
same_bytes (x ∷ xs) [] = false
same_bytes (x ∷ xs) (y ∷ ys) = x == y && same_bytes xs ys

-- the same source and number
abbrev pub same_message : Name → Name → Bool
same_message x y = x.source == y.source && x.number == y.number

-- the same source, number and level
abbrev pub same_name : Name → Name → Bool
same_name x y = same_message x y && x.level == y.level

-- the same names in the same order
abbrev pub same_names : List Name → List Name → Bool
same_names [] [] = true
same_names [] (y ∷ ys) = false
same_names (x ∷ xs) [] = false
same_names (x ∷ xs) (y ∷ ys) = same_name x y && same_names xs ys

-- the source and number of x stand among the names
abbrev pub listed : Name → List Name → Bool
listed x [] = false
listed x (y ∷ ys) = same_message x y || listed x ys

-- a source and number come twice
abbrev pub twice : List Name → Bool
twice [] = false
twice (x ∷ xs) = listed x xs || twice xs
