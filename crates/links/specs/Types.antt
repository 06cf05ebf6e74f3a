-- What the types of the code mean.
use Rattle.std.specs.Prelude.{ℕ, ◌+◌, Bool, cond, List, [], ◌∷◌, map, Some, None, Option}
use Rattle.frames.specs.declared.table.Table.{Table}
use Rattle.frames.specs.Tables.{items}
use Rattle.frames.specs.Types.{packet_of}
use Rattle.links.specs.declared.types.Wire.{Wire}
use Rattle.links.specs.declared.types.HeadSet.{HeadSet}
use Rattle.links.specs.declared.types.Place.{Place}
use Rattle.links.specs.declared.types.Places.{Places}
use Rattle.links.specs.declared.types.Air.{Air}
use Rattle.links.specs.Meaning.{Waits}
use Rattle.links.specs.Wire.{Queues, waiting_wire}
use Rattle.links.specs.Air.{Waiting, AirState, waiting_air}

-- the packet that a take answers, if any
abbrev pub taken_of : Option (Table ℕ 32) → Option (List ℕ)
taken_of None = None
taken_of (Some p) = Some (packet_of p)

-- the packets of a queue, the oldest first
abbrev pub queue_of : Table (Table ℕ 32) 32 → List (List ℕ)
queue_of q = map packet_of (items q)

-- the queues of a wire, one for each head
abbrev pub wire_of : Wire → Queues
wire_of w = map queue_of (items w.queues)

-- the packets that wait for each head of a wire
abbrev pub wire_waits : Wire → Waits
wire_waits w = waiting_wire (wire_of w)

-- the heads from k on whose flags are set
abbrev pub flagged : ℕ → List Bool → List ℕ
flagged k [] = []
flagged k (b ∷ bs) = cond b (k ∷ flagged (k + 1) bs) (flagged (k + 1) bs)

-- the heads of a set, ascending
abbrev pub heads_of : HeadSet → List ℕ
heads_of s = flagged 0 s.flags

-- a place in use
abbrev pub place_of : Place → Waiting
place_of x = record { packet = packet_of x.packet; heads = heads_of x.heads }

-- the places in use, the oldest first
abbrev pub places_of : Places → List Waiting
places_of s = map place_of (items s.table)

-- the places in use, the choices and the number of heads
abbrev pub air_of : Air → AirState
air_of a = record { size = a.heads; places = places_of a.places; choices = a.choices.bytes; turn = a.choices.turn }

-- the packets that wait for each head of air
abbrev pub air_waits : Air → Waits
air_waits a = waiting_air (air_of a)
