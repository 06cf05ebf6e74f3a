use Rattle.std.proofs.Common.{get_or, arith}
use Rattle.frames.specs.Types.{packet_of}
use Rattle.links.specs.Wire.{joined}
use Rattle.links.specs.Types.{queue_of}
use Rattle.links.proofs.Fronts.{changed_more, changed_all, each_given_back}
use Rattle.links.proofs.Queues.{joins}
use Rattle.links.proofs.wire.join_each.Goals as goal

pub loop-queue-preserved : goal.loop-queue-preserved
loop-queue-preserved c =
    let q = get_or c.loop-queue.used c.loop-queue.queue-index c.queue-item.result in
    let e = joins packet_of q c.push.new.self c.args.packet c.push.result c.push.ensures.answer c.push.ensures.after in
    changed_more queue_of (joined (packet_of c.args.packet)) _ c.loop-queue.used c.loop-queue.queue-index c.queue-item.result c.push.new.self c.loop-queue-test.true c.loop-queue.auto.used c.loop-queue.invariant e

pub returns : goal.returns
returns c =
    let t = c.args.queues.now in
    let l = t.filled in
    let w = t.within in
    let e = changed_all queue_of (joined (packet_of c.args.packet)) _ c.loop-queue.used c.loop-queue.queue-index c.loop-queue-test.false c.loop-queue.invariant in
    each_given_back queue_of (joined (packet_of c.args.packet)) t.count _ t.places c.loop-queue.used _ (omega arith) (omega arith) c.loop-queue.auto.used e
