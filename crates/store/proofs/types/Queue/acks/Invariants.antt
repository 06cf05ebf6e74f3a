use Rattle.std.proofs.Common.{◌≡◌, ◌+◌, ◌-◌, ◌≤◌}
use Rattle.head.specs.Queue.{acks}
use Rattle.store.specs.Parts.{queue_of}
use Rattle.store.proofs.types.Queue.acks.Given as goal

abbrev pub invariant-loop-s : goal.invariant-loop-s
invariant-loop-s l = (l.n + acks (queue_of l.self.base l.self.slots) (96 - l.s-index) (l.self.base + l.s-index) ≡ acks (queue_of l.self.base l.self.slots) 96 l.self.base) × (l.n ≤ l.s-index)
