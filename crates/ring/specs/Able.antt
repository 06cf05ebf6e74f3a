-- The law is about something: every call can be made in every ring, and a trip leads to deliveries.
use Rattle.std.specs.Prelude.{◌≡◌, ℕ, ◌<◌, ◌≤◌, List, [], ◌∷◌, length, None, Option}
use Rattle.frames.specs.Values.{Message}
use Rattle.links.specs.Meaning.{Waits, TakenFrom}
use Rattle.ring.specs.Ring.{Ring, Event, Call, submits, hears, turns, ticks, delivers, Step, Missed, Trip}
use Rattle.ring.specs.Record.{deliveries}

-- only hear takes a packet, nothing or one that waits
abbrev pub MayTake : Call → ℕ → Option (List ℕ) → Waits → Type 0
MayTake (submits l b) w t v = t ≡ None
MayTake hears w t v = TakenFrom w t v
MayTake turns w t v = t ≡ None
MayTake ticks w t v = t ≡ None
MayTake delivers w t v = t ≡ None

-- in every ring every call can be made on every head, with any packet that waits for it
abbrev pub EveryCall : Type 0
EveryCall = (n : ℕ) (r : Ring) (w : ℕ) → w < n → (c : Call) (t : Option (List ℕ)) → MayTake c w t r.waits → (e : Event) × (s : Ring) × Step n r e s × (e.who ≡ w) × (e.call ≡ c) × (e.taken ≡ t)

-- and on a head that the ring does not have
abbrev pub EveryMiss : Type 0
EveryMiss = (n : ℕ) (r : Ring) (w : ℕ) → n ≤ w → (c : Call) → (e : Event) × (s : Ring) × Missed n r e s × (e.who ≡ w) × (e.call ≡ c)

-- a message of head 0 that both others must have
abbrev pub safe_message : Message
safe_message = record { name = record { source = 0; number = 1; level = 9 }; body = 1 ∷ [] }

-- a trip of three heads in which two deliver it, and one then gives it up
pub record LongTrip : Type 0 where
  pub events : List Event
  pub ring : Ring
  pub leads : Trip 3 events ring
  pub long : 10 ≤ length events
  pub head_0_delivers : deliveries 0 events ≡ safe_message ∷ []
  pub head_1_delivers : deliveries 1 events ≡ safe_message ∷ []
  pub head_2_does_not_yet : deliveries 2 events ≡ []
  pub head_0_gave_it_up : (ring.heads 0).base ≡ 3
