use Rattle.std.proofs.Common.{◌≡◌, ℕ, ◌+◌, List, ◌++◌, drop, ap, ◌∙◌, arith}
use Rattle.head.specs.Deliver.{orderer}
use Rattle.head.specs.Questions.{holder_marks, marks_from}
use Rattle.store.proofs.Marking.{marks_nowhere, marks_since}
use Rattle.store.proofs.types.Queue.mark_holders.Goals as goal
use Rattle.store.proofs.types.Queue.mark_holders.Goals.{in-None, in-Some}

pub returns-clause-after : goal.returns-clause-after
returns-clause-after c = λ h k.
    let x = c.args.self.now in
    let n = c.args.ring.size.heads in
    let f = c.match-orderer.from in
    let e : holder_marks n h (x.base + f) 96 x.base ≡ marks_from n h (orderer h c.args.stamp) = elim c.match-orderer.branch [
      | in-None w ↦ marks_nowhere n c.args.ring.me x f h k c.args.stamp w.from-is w.in-None.ensures.value
      | in-Some w ↦ let b = w.in-Some.ensures.bound in let d = w.from-is in marks_since n c.args.ring.me x f h k c.args.stamp w.in-Some.t (omega arith) w.in-Some.ensures.value
    ] in
    c.mark_from.ensures h k ∙ ap (λ (ys : List ℕ). ys ++ drop 96 c.args.scratch.now) e
