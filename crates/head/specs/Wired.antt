-- Heads that share a wire: what one puts waits for every head, and hear takes the oldest packet that waits.
use Rattle.std.specs.Prelude.{ℕ, List, [], ◌∷◌}
use Rattle.links.specs.Wire.{Queues, put_wire, taken_wire, take_wire, clear_wire}
use Rattle.head.specs.Head.{Head, fresh}
use Rattle.head.specs.Answers.{Done}
use Rattle.head.specs.Submit.{submit}
use Rattle.head.specs.Hear.{hear}
use Rattle.head.specs.Turn.{turn}
use Rattle.head.specs.Tick.{tick}
use Rattle.head.specs.Deliver.{deliver}
use Rattle.head.specs.Cases.{packets}
use Rattle.head.specs.Runs.{now_at}

-- the heads by their numbers, and what the wire holds
pub record Wired : Type 0 where
  pub heads : ℕ → Head
  pub wire : Queues

-- n fresh heads, with nothing on the wire
abbrev pub wired : ℕ → Wired
wired n = record { heads = fresh; wire = clear_wire n }

-- a call on a head; submit with its level and body
pub data WireMove : Type 0 where
  submits : ℕ → ℕ → List ℕ → WireMove
  hears : ℕ → WireMove
  turns : ℕ → WireMove
  ticks : ℕ → WireMove
  delivers : ℕ → WireMove

-- each packet is put, the first of them first
abbrev pub all_put : List (List ℕ) → Queues → Queues
all_put [] w = w
all_put (p ∷ ps) w = all_put ps (put_wire p w)

-- the head g is what the call left, and what the call put is on the wire
abbrev pub after_wire_call : ℕ → ℕ → Done → Wired → Wired
after_wire_call n g d r = record { heads = now_at r.heads g d.head; wire = all_put (packets n d) r.wire }

-- the oldest packet of the head's queue is taken: where it is not heard, it is missed
abbrev pub missed : ℕ → Wired → Wired
missed g r = record { heads = r.heads; wire = take_wire g r.wire }

-- a packet that no head put is on the wire
abbrev pub sent : List ℕ → Wired → Wired
sent p r = record { heads = r.heads; wire = put_wire p r.wire }

-- what a call does
abbrev pub did : ℕ → WireMove → Wired → Done
did n (submits g l b) r = submit n l b (r.heads g)
did n (hears g) r = hear n (taken_wire g r.wire) (r.heads g)
did n (turns g) r = turn n (r.heads g)
did n (ticks g) r = tick n (r.heads g)
did n (delivers g) r = deliver n (r.heads g)

-- the heads and the wire after it
abbrev pub next : ℕ → WireMove → Wired → Wired
next n (submits g l b) r = after_wire_call n g (did n (submits g l b) r) r
next n (hears g) r = after_wire_call n g (did n (hears g) r) (missed g r)
next n (turns g) r = after_wire_call n g (did n (turns g) r) r
next n (ticks g) r = after_wire_call n g (did n (ticks g) r) r
next n (delivers g) r = after_wire_call n g (did n (delivers g) r) r

-- after several calls
abbrev pub after : ℕ → List WireMove → Wired → Wired
after n [] r = r
after n (m ∷ ms) r = after n ms (next n m r)
