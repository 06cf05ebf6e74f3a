use Rattle.std.proofs.Common.{sym, ap, ◌∙◌, arith}
use Rattle.head.specs.Slots.{is_ack}
use Rattle.head.specs.Upkeep.{give_up}
use Rattle.head.proofs.Upkeep.{give_up_none}
use Rattle.store.specs.Parts.{part}
use Rattle.store.proofs.View.{queue_past}
use Rattle.store.proofs.Ending.{give_up_first, not_some}
use Rattle.store.proofs.Settling.{Forward, forward_is, forward_passed, forward_ends, forward_own, forward_low}
use Rattle.store.proofs.types.Queue.give_up.Goals as goal

pub loop-m-preserved : goal.loop-m-preserved
loop-m-preserved c =
    let v = c.loop-m.invariant in
    let b = c.in-Some.ensures.bound in
    let e = c.forward.ensures in
    let x = c.loop-m.self in
    let y = c.forward.new.self in
    let m = c.in-Some.m in
    let f : Forward x y m = record { base = e.base; slots = e.slots; gone = e.gone } in
    record {
      after = λ h. ap (give_up 96 c.args.n) (forward_is x y m f h c.args.due)
          ∙ (give_up_first c.args.n m (part h c.args.due x) (λ u a. let l = x.places in ap is_ack (queue_past x.base x.slots u (omega arith))) (sym (c.in-Some.ensures.value h)) ∙ v.after h);
      from = λ _. omega arith;
      passed = λ p. forward_passed x y m f c.args.due (v.passed p);
      low = λ p s. forward_low x y m f (omega arith) (λ u a d. v.passed p u a (omega arith)) s ∙ v.low p s;
      own = λ g k o. forward_own x y m f g k (v.own g k o);
      ends = λ en. forward_ends x y m f (v.ends en);
    }

pub returns-clause-after : goal.returns-clause-after
returns-clause-after c = λ h. sym (give_up_none 95 c.args.n (part h c.args.due c.loop-m.self) (sym (c.spent.ensures.value h) ∙ not_some c.spent.result c.in_default.not-Some)) ∙ c.loop-m.invariant.after h
