-- What the types of the code mean, and what stands in the places that they do not use.
use Rattle.std.specs.Prelude.{◌≡◌, ℕ, ◌-◌, List, map, take, drop, replicate, Ok, Err, Result}
use Rattle.frames.specs.declared.refusal.Refusal.{Refusal}
use Rattle.frames.specs.declared.types.Name.{Name as CName}
use Rattle.frames.specs.declared.types.Level.{Level}
use Rattle.frames.specs.declared.types.Level.TheVariants.{Total, One, Two, Three, Four, Five, Six, Seven, Majority, Safe}
use Rattle.frames.specs.declared.table.Table.{Table}
use Rattle.frames.specs.declared.types.Body.{Body}
use Rattle.frames.specs.declared.types.Message.{Message as CMessage}
use Rattle.frames.specs.declared.types.Ack.{Ack as CAck}
use Rattle.frames.specs.declared.types.To.{To}
use Rattle.frames.specs.declared.types.To.TheVariants.{Head, Everyone}
use Rattle.frames.specs.declared.types.Frame.{Frame as CFrame}
use Rattle.frames.specs.declared.types.Frame.TheVariants as FrameCase
use Rattle.frames.specs.Tables.{items, Filled}
use Rattle.frames.specs.Values.{Name, Message, Ack, Frame, Asked, one, everyone, data_frame, ack_frame, nack_frame}

-- the number of a level, as it is sent
abbrev pub level_number : Level → ℕ
level_number Total = 0
level_number One = 1
level_number Two = 2
level_number Three = 3
level_number Four = 4
level_number Five = 5
level_number Six = 6
level_number Seven = 7
level_number Majority = 8
level_number Safe = 9

abbrev pub name_of : CName → Name
name_of x = record { source = x.source; number = x.number; level = level_number x.level }

abbrev pub names_of : Table CName 4 → List Name
names_of ns = map name_of (items ns)

abbrev pub body_of : Body → List ℕ
body_of b = take b.len b.bytes

abbrev pub packet_of : Table ℕ 32 → List ℕ
packet_of p = items p

abbrev pub message_of : CName → Body → Message
message_of x b = record { name = name_of x; body = body_of b }

abbrev pub message_meant : CMessage → Message
message_meant m = message_of m.name m.body

abbrev pub ack_meant : CAck → Ack
ack_meant a = record { stamp = a.stamp; issuer = a.issuer; names = names_of a.names }

abbrev pub asked_of : To → Asked
asked_of (Head h) = one h
asked_of Everyone = everyone

abbrev pub frame_of : CFrame → Frame
frame_of (FrameCase.Data m) = data_frame (message_meant m)
frame_of (FrameCase.Ack a) = ack_frame (ack_meant a)
frame_of (FrameCase.Nack k) = nack_frame k.from (asked_of k.to) k.stamp

-- an answer, by what its value means
abbrev pub meant : {A B : Type 0} → (A → B) → Result A Refusal → Result B Refusal
meant f (Ok x) = Ok (f x)
meant f (Err e) = Err e

-- what a place for a name holds while it is not used
abbrev pub spare : Name
spare = record { source = 0; number = 1; level = 0 }

-- the places past those that are used hold 0, and those for names the spare name
abbrev pub NamesRest : Table CName 4 → Type 0
NamesRest ns = map name_of (drop ns.count ns.places) ≡ replicate (4 - ns.count) spare

abbrev pub BodyRest : Body → Type 0
BodyRest b = drop b.len b.bytes ≡ replicate (8 - b.len) 0

abbrev pub PacketRest : Table ℕ 32 → Type 0
PacketRest p = Filled 0 p

abbrev pub FrameRest : CFrame → Type 0
FrameRest (FrameCase.Data m) = BodyRest m.body
FrameRest (FrameCase.Ack a) = NamesRest a.names
FrameRest (FrameCase.Nack k) = Unit {0}
