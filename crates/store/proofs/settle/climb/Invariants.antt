use Rattle.std.proofs.Common.{◌≡◌, ℕ, ◌+◌, ◌-◌, length}
use Rattle.head.specs.Queue.{highest}
use Rattle.store.specs.Parts.{queue_of, table_of}
use Rattle.store.proofs.settle.climb.Given as goal

abbrev pub invariant-loop-slot : goal.invariant-loop-slot
invariant-loop-slot l = (b s : ℕ) → highest (queue_of b l.slots) s (length l.slots - l.slot-index) (b + l.slot-index) (table_of l.low s) ≡ highest (queue_of b l.slots) s (length l.slots) b (table_of l.initial.low s)
