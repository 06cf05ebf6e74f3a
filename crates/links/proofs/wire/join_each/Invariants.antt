use Rattle.frames.specs.Types.{packet_of}
use Rattle.links.specs.Wire.{joined}
use Rattle.links.specs.Types.{queue_of}
use Rattle.links.proofs.Fronts.{Changed}
use Rattle.links.proofs.wire.join_each.Given as goal

abbrev pub invariant-loop-queue : goal.invariant-loop-queue
invariant-loop-queue l = Changed queue_of (joined (packet_of l.packet)) l.queue-index l.initial.used l.used
