use Rattle.std.proofs.Common.{◌≡◌}
use Rattle.frames.specs.Types.{ack_meant}
use Rattle.store.specs.Parts.{queue_of, inbox_of}
use Rattle.store.proofs.Placing.{laid}
use Rattle.store.proofs.types.Queue.set_from.Given as goal

-- the slots of the names so far are set
abbrev pub invariant-loop-i : goal.invariant-loop-i
invariant-loop-i l = record {
  base : l.self.base ≡ l.initial.self.base;
  gone : l.self.gone ≡ l.initial.self.gone;
  slots : queue_of l.initial.self.base l.self.slots ≡ laid (inbox_of l.inbox) (ack_meant l.fn.ack) (queue_of l.initial.self.base l.initial.self.slots) l.i;
}
