use Rattle.std.proofs.Common.{◌≡◌, ℕ, ◌+◌, ◌-◌, Bool, true, false, ◌||◌, List, length, get_or, drop, sym, ap, ◌∙◌, arith, length-set}
use Rattle.std.proofs.lemmas.List.{length-drop}
use Rattle.frames.specs.Types.{names_of}
use Rattle.head.specs.Deliver.{among}
use Rattle.head.specs.Slots.{is_ack}
use Rattle.head.specs.Queue.{Queue, issuers}
use Rattle.store.specs.Parts.{queue_of, slot_of}
use Rattle.store.proofs.View.{queue_rest, not_ack}
use Rattle.store.proofs.Holding.{issuers_ack, issuers_other, issuers_end, or_none, told_more, told_far}
use Rattle.store.proofs.types.Queue.issuers_from.Goals as goal
use Rattle.store.proofs.types.Queue.issuers_from.Goals.{in-Ack+then-issuer-lt8, in-Ack+else-issuer-lt8, in_default}

pub loop-slot-preserved : goal.loop-slot-preserved
loop-slot-preserved c =
    let s = c.args.self.now in
    let q : Queue = queue_of s.base s.slots in
    let e = s.base + 96 in
    let i = c.loop-slot.slot-index in
    let u = c.args.stamp + i in
    let n = c.args.stamp + (i + 1) in
    let xs = c.loop-slot.issued in
    let v = c.loop-slot.invariant in
    let on : List ℕ = issuers q (e - n) n in
    let l : length (drop (c.args.stamp - s.base) s.slots) ≡ 96 - (c.args.stamp - s.base) = omega (arith, length-drop (c.args.stamp - s.base) s.slots) in
    let here : q u ≡ slot_of c.slot-item.result = queue_rest s.base s.slots c.args.stamp _ i c.slot-item.result (omega arith) (omega arith) (omega arith) c.slot-item.is in
    elim c.match-slot.branch [
      | in-Ack+then-issuer-lt8 w ↦
          let j = w.in-Ack.issuer in
          let f = issuers_ack q e u n (omega arith) (omega arith) j (names_of w.in-Ack.names) (here ∙ ap slot_of w.in-Ack.is) in
          (ap length w.issued-is ∙ (length-set xs j true ∙ v.0), λ g h. ap (λ (ys : List Bool). get_or ys g false || among g on) w.issued-is ∙ (told_more xs j g on (omega arith) ∙ (ap (λ (is : List ℕ). get_or xs g false || among g is) (sym f) ∙ v.1 g h)))
      | in-Ack+else-issuer-lt8 w ↦
          let j = w.in-Ack.issuer in
          let f = issuers_ack q e u n (omega arith) (omega arith) j (names_of w.in-Ack.names) (here ∙ ap slot_of w.in-Ack.is) in
          let far = w.if-issuer-lt8.false in
          (ap length w.issued-is ∙ v.0, λ g h. ap (λ (ys : List Bool). get_or ys g false || among g on) w.issued-is ∙ (told_far xs j g on (omega arith) ∙ (ap (λ (is : List ℕ). get_or xs g false || among g is) (sym f) ∙ v.1 g h)))
      | in_default w ↦
          let f = issuers_other q e u n (omega arith) (omega arith) (ap is_ack here ∙ not_ack c.slot-item.result w.in_default.not-Ack) in
          (ap length w.issued-is ∙ v.0, λ g h. ap (λ (ys : List Bool). get_or ys g false || among g on) w.issued-is ∙ (ap (λ (is : List ℕ). get_or xs g false || among g is) (sym f) ∙ v.1 g h))
    ]

pub returns : goal.returns
returns c = λ g h.
    let s = c.args.self.now in
    let q : Queue = queue_of s.base s.slots in
    let u = c.args.stamp + c.loop-slot.slot-index in
    let l = length-drop (c.args.stamp - s.base) s.slots in
    or_none _ ∙ (ap (λ (is : List ℕ). get_or c.loop-slot.issued g false || among g is) (sym (issuers_end q (s.base + 96) u (omega arith))) ∙ c.loop-slot.invariant.1 g h)
