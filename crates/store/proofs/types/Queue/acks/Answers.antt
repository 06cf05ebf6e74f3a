use Rattle.std.proofs.Common.{◌≡◌, ◌+◌, ◌-◌, true, false, sym, ap, ◌∙◌, arith}
use Rattle.head.specs.Slots.{is_ack}
use Rattle.head.specs.Queue.{Queue, acks}
use Rattle.store.specs.Parts.{queue_of}
use Rattle.head.proofs.Walk.{acks_zero}
use Rattle.store.proofs.View.{queue_read}
use Rattle.store.proofs.Walks.{acks_step}
use Rattle.store.proofs.types.Queue.acks.Goals.{then-is_ack, else-is_ack}
use Rattle.store.proofs.types.Queue.acks.Goals as goal

pub loop-s-preserved : goal.loop-s-preserved
loop-s-preserved c =
    let s = c.args.self.now in
    let q : Queue = queue_of s.base s.slots in
    let i = c.loop-s.s-index in
    let r = ap is_ack (queue_read s.base s.slots i _ (omega arith)) ∙ sym c.is_ack.ensures in
    elim c.if-is_ack.branch [
      | then-is_ack w ↦ let e = acks_step q 96 s.base i true (omega arith) (r ∙ w.if-is_ack.true) in let n = w.n-is in let v = c.loop-s.invariant in (omega arith, omega arith)
      | else-is_ack w ↦ let e = acks_step q 96 s.base i false (omega arith) (r ∙ w.if-is_ack.false) in let n = w.n-is in let v = c.loop-s.invariant in (omega arith, omega arith)
    ]

pub returns : goal.returns
returns c =
    let s = c.args.self.now in
    let q : Queue = queue_of s.base s.slots in
    let i = c.loop-s.s-index in
    let f : 96 - i ≡ 0 = omega arith in
    let e : acks q (96 - i) (s.base + i) ≡ 0 = ap (λ k. acks q k (s.base + i)) f ∙ acks_zero q (s.base + i) in
    let v = c.loop-s.invariant.0 in
    omega arith
