use Rattle.std.proofs.Common.{length-set, arith}
use Rattle.links.specs.Types.{queue_of}
use Rattle.links.specs.Wire.{take_wire}
use Rattle.links.proofs.Fronts.{given_back}
use Rattle.links.proofs.Queues.{leaves_known}
use Rattle.links.proofs.wire.leave_at.Goals as goal

pub returns-then-head-known-clause-after : goal.returns-then-head-known-clause-after
returns-then-head-known-clause-after c =
    let t = c.args.queues.now in
    let l = t.filled in
    let w = t.within in
    let e = leaves_known queue_of _ c.args.head c.index-known-head.result c.leave.new.queue c.if-head-known.true c.leave.ensures.after in
    given_back queue_of t.count t.places (take_wire c.args.head) _ _ (omega arith) (length-set _ c.args.head c.leave.new.queue) e
