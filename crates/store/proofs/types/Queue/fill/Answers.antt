use Rattle.std.proofs.Common.{◌+◌, Some, sym, refl, ap, ◌∙◌, arith}
use Rattle.frames.specs.Types.{body_of}
use Rattle.head.specs.Queue.{Queue}
use Rattle.store.specs.declared.types.Slot.TheVariants.{Data}
use Rattle.store.specs.Parts.{queue_of, slot_of, with_body}
use Rattle.store.proofs.View.{queue_read, queue_past, queue_set}
use Rattle.store.proofs.Filling.{body_nowhere, body_set, body_data, body_rest}
use Rattle.store.proofs.types.Queue.fill.Goals as goal

pub returns-then-i-gt95-clause-slots : goal.returns-then-i-gt95-clause-slots
returns-then-i-gt95-clause-slots c =
    let x = c.args.self.now in
    let l = x.places in
    let b = body_of c.args.body in
    let t = x.base + c.args.i in
    let e = queue_past x.base x.slots t (omega arith) in
    body_nowhere b (queue_of x.base x.slots) t (ap (with_body b) e ∙ sym e)

pub returns-in-Data-clause-slots : goal.returns-in-Data-clause-slots
returns-in-Data-clause-slots c =
    let x = c.args.self.now in
    let l = x.places in
    let b = body_of c.args.body in
    let q : Queue = queue_of x.base x.slots in
    let t = x.base + c.args.i in
    let e = queue_read x.base x.slots c.args.i c.index-self-i.result (omega arith) ∙ ap slot_of c.in-Data.is in
    let y = Data c.in-Data.name (Some c.args.body) in
    body_set b q t (slot_of y) _ (body_data c.args.body c.in-Data.name _ ∙ ap (with_body b) (sym e)) (queue_set x.base x.slots c.args.i y (omega arith))

pub returns-in_default : goal.returns-in_default
returns-in_default c =
    let x = c.args.self.now in
    let l = x.places in
    let b = body_of c.args.body in
    let t = x.base + c.args.i in
    let e = queue_read x.base x.slots c.args.i c.index-self-i.result (omega arith) in
    record { base = refl; gone = refl; slots = body_nowhere b (queue_of x.base x.slots) t (ap (with_body b) e ∙ (body_rest b _ c.in_default.not-Data ∙ sym e)) }
