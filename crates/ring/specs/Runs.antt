-- A list of calls on a ring, made one after another.
use Rattle.std.specs.Prelude.{◌≡◌, List, [], ◌∷◌}
use Rattle.links.specs.Meaning.{Waits}
use Rattle.head.specs.Answers.{Answer}
use Rattle.calls.specs.Answers.{submission as submitted, hearing as heard, turned, ticked, handed}
use Rattle.ring.specs.declared.request.Call.{Call as CCall}
use Rattle.ring.specs.declared.request.Call.TheVariants.{Submit, Hear, Turn, Tick, Deliver}
use Rattle.ring.specs.declared.request.Request.{Request}
use Rattle.ring.specs.declared.request.Answer.{Answer as CAnswer}
use Rattle.ring.specs.declared.request.Answer.TheVariants.{Submitted, Heard, Turned, Ticked, Delivered}
use Rattle.ring.specs.declared.request.Outcome.{Outcome}
use Rattle.ring.specs.declared.types.Ring.{Ring as CRing}
use Rattle.ring.specs.Ring.{Event, Call, submits, hears, turns, ticks, delivers, Trip}
use Rattle.ring.specs.Law.{Lawful}
use Rattle.ring.specs.Moves.{Moves, answered, ring_over}

-- the call that is meant
abbrev pub call_of : CCall → Call
call_of (Submit l b) = submits l b.now
call_of Hear = hears
call_of Turn = turns
call_of Tick = ticks
call_of Deliver = delivers

-- the answer's word, with its values
abbrev pub word_of : CAnswer → Answer
word_of (Submitted a) = submitted a
word_of (Heard a) = heard a
word_of (Turned a) = turned a
word_of (Ticked a) = ticked a
word_of (Delivered a) = handed a

-- the calls were made one after another, with these outcomes: each moved the ring as its own contract says, and after each of them the trip
-- with its event leads to the ring, and all three hold
abbrev pub LawfulRun : {L : Type 0} → (L → Waits) → List Request → List Outcome → List Event → CRing L → CRing L → Type 0
LawfulRun waits [] [] es r s = r ≡ s
LawfulRun waits [] (x ∷ xs) es r s = ⊥
LawfulRun waits (q ∷ qs) [] es r s = ⊥
LawfulRun {L} waits (q ∷ qs) (x ∷ xs) es r s =
    (t : CRing L) × (m : Moves waits r q.head (call_of q.call) (answered word_of x.result) t) × (x.head ≡ q.head)
    × Trip r.heads.size.heads (m.event ∷ es) (ring_over waits t) × Lawful r.heads.size.heads (m.event ∷ es) (ring_over waits t) × LawfulRun waits qs xs (m.event ∷ es) t s
