use Rattle.std.proofs.Common.{arith}
use Rattle.head.specs.Slots.{known}
use Rattle.head.proofs.Walk.{past_last_ends}
use Rattle.store.specs.Parts.{queue_of}
use Rattle.store.proofs.types.Queue.places_known.Goals as goal

pub overflow_sub-result : goal.overflow_sub-result
overflow_sub-result c =
    let x = c.args.self.now in
    let e = c.end.ensures in
    omega (arith, (past_last_ends known (queue_of x.base x.slots) 96 x.base).from)

pub returns : goal.returns
returns c =
    let x = c.args.self.now in
    let e = c.end.ensures in
    let p = past_last_ends known (queue_of x.base x.slots) 96 x.base in
    record { value = omega (arith, p.from); bound = omega (arith, p.to) }
