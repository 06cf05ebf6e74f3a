-- The rules of air.
use Rattle.std.specs.Prelude.{ℕ, suc, ◌+◌, ◌%◌, Bool, true, false, cond, not, ◌||◌, List, [], ◌∷◌, ◌++◌, map, length, get_or, take, drop, Some, None, filter, Option, ◌==◌, nat_lt, slice_index, slice_index_or}
use Rattle.std.specs.List.{range_with_len}
use Rattle.links.specs.declared.types.Choice.{Choice}
use Rattle.links.specs.declared.types.Choice.TheVariants.{Plain, Lost, Repeated, Newest}
use Rattle.links.specs.Meaning.{Waits}

-- a packet, and the heads that it waits for
pub record Waiting : Type 0 where
  pub packet : List ℕ
  pub heads : List ℕ

-- air: how many heads it knows, the places in use, the oldest first, the choices, and which of them is next
pub record AirState : Type 0 where
  pub size : ℕ
  pub places : List Waiting
  pub choices : List ℕ
  pub turn : ℕ

-- before the first clear there are no heads, and the first choice is next
abbrev pub new_air : List ℕ → AirState
new_air cs = record { size = 0; places = []; choices = cs; turn = 0 }

-- a head is among these
abbrev pub has : ℕ → List ℕ → Bool
has h [] = false
has h (k ∷ ks) = h == k || has h ks

-- all of them but one
abbrev pub without : ℕ → List ℕ → List ℕ
without h ks = filter (λ k. not (h == k)) ks

-- there is none
abbrev pub is_empty : List ℕ → Bool
is_empty [] = true
is_empty (k ∷ ks) = false

-- a place is free once it waits for none
abbrev pub held : Waiting → List Waiting
held x = cond (is_empty x.heads) [] (x ∷ [])

-- of 16 places one is free, or the oldest is dropped for every head
abbrev pub room : List Waiting → List Waiting
room xs = cond (nat_lt (length xs) 16) xs (drop 1 xs)

-- a packet that waits for each of n heads
abbrev pub for_all : ℕ → List ℕ → Waiting
for_all n p = record { packet = p; heads = range_with_len 0 n }

-- the places after a put that is not lost
abbrev pub added : ℕ → List ℕ → List Waiting → List Waiting
added n p xs = room xs ++ held (for_all n p)

-- what a choice byte asks for: 1, 2 and 3 have a meaning, and every other none
abbrev pub choice_of : ℕ → Choice
choice_of b = cond (b == 1) Lost (cond (b == 2) Repeated (cond (b == 3) Newest Plain))

-- the choice for this put or take
abbrev pub choice : AirState → Choice
choice a = choice_of (slice_index a.choices a.turn)

-- after it the next of the 16 choices comes, and after the last the first
abbrev pub moved_on : AirState → List Waiting → AirState
moved_on a xs = record { size = a.size; places = xs; choices = a.choices; turn = (a.turn + 1) % 16 }

-- the places after a put: one that is lost drops nothing
abbrev pub put_by : Choice → ℕ → List ℕ → List Waiting → List Waiting
put_by Lost n p xs = xs
put_by _ n p xs = added n p xs

abbrev pub put_air : List ℕ → AirState → AirState
put_air p a = moved_on a (put_by (choice a) a.size p a.places)

-- a packet waits for a head
abbrev pub waits_for : ℕ → Waiting → Bool
waits_for h x = has h x.heads

-- one place further
abbrev pub further : Option ℕ → Option ℕ
further None = None
further (Some i) = Some (suc i)

-- the place of the oldest packet that waits for a head
abbrev pub oldest_for : ℕ → List Waiting → Option ℕ
oldest_for h [] = None
oldest_for h (x ∷ xs) = cond (waits_for h x) (Some 0) (further (oldest_for h xs))

-- the first answer, or else the second
abbrev pub or_else : Option ℕ → Option ℕ → Option ℕ
or_else None o = o
or_else (Some i) o = Some i

-- the place of the newest one
abbrev pub newest_for : ℕ → List Waiting → Option ℕ
newest_for h [] = None
newest_for h (x ∷ xs) = or_else (further (newest_for h xs)) (cond (waits_for h x) (Some 0) None)

-- one choice picks the newest, every other the oldest
abbrev pub picked : Choice → ℕ → List Waiting → Option ℕ
picked Newest h xs = newest_for h xs
picked _ h xs = oldest_for h xs

-- no packet, for no head
abbrev pub blank : Waiting
blank = record { packet = []; heads = [] }

-- the packet at a place
abbrev pub packet_at : List Waiting → Option ℕ → Option (List ℕ)
packet_at xs None = None
packet_at xs (Some i) = Some (get_or xs i blank).packet

-- a packet that waits for a head no longer
abbrev pub no_longer_for : ℕ → Waiting → Waiting
no_longer_for h x = record { packet = x.packet; heads = without h x.heads }

-- the packet at a place waits for the head no longer
abbrev pub stopped : ℕ → List Waiting → Option ℕ → List Waiting
stopped h xs None = xs
stopped h xs (Some i) = take i xs ++ (held (no_longer_for h (slice_index_or xs i blank)) ++ drop (suc i) xs)

-- the places after the packet at one of them is taken: one choice lets it go on waiting
abbrev pub taken_by : Choice → ℕ → List Waiting → Option ℕ → List Waiting
taken_by Repeated h xs o = xs
taken_by _ h xs o = stopped h xs o

-- a head that air does not know gets nothing
abbrev pub chosen : ℕ → AirState → Option ℕ
chosen h a = cond (nat_lt h a.size) (picked (choice a) h a.places) None

-- a take answers the packet chosen
abbrev pub taken_air : ℕ → AirState → Option (List ℕ)
taken_air h a = packet_at a.places (chosen h a)

-- it waits for the head no longer, unless it is to be repeated
abbrev pub take_air : ℕ → AirState → AirState
take_air h a = moved_on a (taken_by (choice a) h a.places (chosen h a))

-- the places are empty, and the next choice stays the next
abbrev pub clear_air : ℕ → AirState → AirState
clear_air n a = record { size = n; places = []; choices = a.choices; turn = a.turn }

-- the packets that wait for a head
abbrev pub waiting_air : AirState → Waits
waiting_air a h = map (λ x. x.packet) (filter (waits_for h) a.places)
