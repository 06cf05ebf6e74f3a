-- What a call on a ring in code does, in the words of the model.
use Rattle.std.specs.Prelude.{◌≡◌, ℕ, ◌⊎◌, List, [], ◌∷◌, Ok, Err, Option, Result}
use Rattle.frames.specs.declared.refusal.Refusal.{Refusal}
use Rattle.frames.specs.Values.{Frame}
use Rattle.links.specs.Meaning.{Waits}
use Rattle.head.specs.Answers.{Answer, refused}
use Rattle.store.specs.Puts.{puts_of}
use Rattle.calls.specs.declared.answers.Done.{Done as CDone}
use Rattle.calls.specs.declared.member.Member.{Member}
use Rattle.calls.specs.Members.{model_of}
use Rattle.calls.specs.Answers.{does}
use Rattle.ring.specs.declared.types.Heads.{Heads}
use Rattle.ring.specs.declared.types.Ring.{Ring as CRing}
use Rattle.ring.specs.Ring.{Ring, Event, Call, Step, Missed, Trip, perform}
use Rattle.ring.specs.Law.{Lawful}
use Rattle.ring.specs.Table.{head_at}

-- what a call answers of what it did
abbrev pub answer_in : {A : Type 0} → Result (CDone A) Refusal → Result A Refusal
answer_in (Ok d) = Ok d.answer
answer_in (Err e) = Err e

-- and what it puts: nothing, if it was refused
abbrev pub puts_in : {A : Type 0} → Result (CDone A) Refusal → List Frame
puts_in (Ok d) = puts_of d.puts
puts_in (Err e) = []

-- what a call on one head means: the call of the model, the packet that it hears, and the word of its answer
pub record Meaning (A : Type 0) : Type 0 where
  pub call : Call
  pub taken : Option (List ℕ)
  pub word : A → Answer

-- a head's call did what the model says: it was the head x, and is y
pub record Performs {A : Type 0} (m : Meaning A) (x : Member) (d : Result (CDone A) Refusal) (y : Member) : Type 0 where
  pub size : y.head.size ≡ x.head.size
  pub done : does m.word d (model_of y) ≡ perform x.head.size.heads m.call m.taken (model_of x)

-- whatever a call may do to one head, it does as is meant
abbrev pub Means : {A : Type 0} → (Member → Result (CDone A) Refusal → Member → Type 0) → Meaning A → Type 0
Means {A} does_to m = (x : Member) (d : Result (CDone A) Refusal) (y : Member) → does_to x d y → Performs m x d y

-- the heads of a ring, and what waits on its link
abbrev pub ring_of : Heads → Waits → Ring
ring_of hs w = record { heads = head_at hs.all; waits = w }

-- the ring that a running ring is, by what waits on its link
abbrev pub ring_over : {L : Type 0} → (L → Waits) → CRing L → Ring
ring_over waits r = ring_of r.heads (waits r.link)

-- the heads alone: nothing waits
abbrev pub at_rest : Heads → Ring
at_rest hs = ring_of hs (λ _. [])

-- an answer or a refusal, by the word of the answer
abbrev pub answered : {A : Type 0} → (A → Answer) → Result A Refusal → Answer
answered word (Ok a) = word a
answered word (Err e) = refused e

-- a call on the head g, answered so, led from these heads and what waited to those: whatever trip led to the ring before, with this event
-- it leads to the ring after, and then deliveries agree, are resilient, and what is given up is retained
pub record Moved (hs : Heads) (w : Waits) (g : ℕ) (c : Call) (a : Answer) (ks : Heads) (v : Waits) : Type 0 where
  pub size : ks.size ≡ hs.size
  pub event : Event
  pub who : event.who ≡ g
  pub call : event.call ≡ c
  pub answer : event.answer ≡ a
  pub step : Step hs.size.heads (ring_of hs w) event (ring_of ks v) ⊎ Missed hs.size.heads (ring_of hs w) event (ring_of ks v)
  pub leads : (es : List Event) → Trip hs.size.heads es (ring_of hs w) → Trip hs.size.heads (event ∷ es) (ring_of ks v)
  pub law : (es : List Event) → Trip hs.size.heads es (ring_of hs w) → Lawful hs.size.heads (event ∷ es) (ring_of ks v)

-- the same, from a running ring to the one that the call leaves
abbrev pub Moves : {L : Type 0} → (L → Waits) → CRing L → ℕ → Call → Answer → CRing L → Type 0
Moves waits r g c a s = Moved r.heads (waits r.link) g c a s.heads (waits s.link)
