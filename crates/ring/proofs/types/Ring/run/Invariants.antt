use Rattle.std.proofs.Common.{◌≡◌, List, length, take, vec_capacity, vec_len}
use Rattle.ring.specs.Ring.{Event, Trip}
use Rattle.ring.specs.Moves.{ring_over}
use Rattle.ring.specs.Runs.{LawfulRun}
use Rattle.ring.proofs.types.Ring.run.Given as goal

-- the calls so far were made, and there is room for the other outcomes
abbrev pub invariant-loop-request : goal.invariant-loop-request
invariant-loop-request g l = record {
  room : vec_capacity l.outcomes ≡ length l.requests;
  count : vec_len l.outcomes ≡ l.request-index;
  made : (es : List Event) → Trip l.initial.self.heads.size.heads es (ring_over g.L.Link.waits l.initial.self)
      → LawfulRun g.L.Link.waits (take l.request-index l.requests) l.outcomes.items es l.initial.self l.self;
}
