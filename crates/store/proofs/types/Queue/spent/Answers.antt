use Rattle.std.proofs.Common.{◌≡◌, ◌+◌, sym, ap, ◌∙◌, arith}
use Rattle.head.specs.Upkeep.{ready}
use Rattle.store.specs.Parts.{slot_of, slots_of, part}
use Rattle.store.proofs.View.{queue_read}
use Rattle.store.proofs.Settling.{ready_ack, ready_few, ready_rest}
use Rattle.store.proofs.types.Queue.spent.Goals as goal

pub returns-then-acks-n : goal.returns-then-acks-n
returns-then-acks-n c =
    let e = c.acks.ensures in
    record { value = λ h. sym (ready_few c.args.n c.args.due c.args.self.now h _ (omega arith)); bound = λ y. y }

pub returns-in_default : goal.returns-in_default
returns-in_default c =
    let x = c.args.self.now in
    let a = x.places in
    let b : x.base ≡ x.base + 0 = omega arith in
    let r = ap (slots_of x) b ∙ queue_read x.base x.slots 0 c.index-self-0.result (omega arith) in
    record { value = λ h. sym (ap (ready c.args.n (part h c.args.due x)) r ∙ ready_rest c.args.n c.args.due x h _ c.in_default.not-Ack); bound = λ y. y }

pub returns-clause-value : goal.returns-clause-value
returns-clause-value c = λ h.
    let x = c.args.self.now in
    let a = x.places in
    let e = c.acks.ensures in
    let b : x.base ≡ x.base + 0 = omega arith in
    let r = ap (slots_of x) b ∙ (queue_read x.base x.slots 0 c.index-self-0.result (omega arith) ∙ ap slot_of c.in-Ack.is) in
    c.then_some.ensures ∙ sym (ap (ready c.args.n (part h c.args.due x)) r ∙ ready_ack c.args.n c.args.due x h c.in-Ack.issuer c.in-Ack.names (omega arith))
