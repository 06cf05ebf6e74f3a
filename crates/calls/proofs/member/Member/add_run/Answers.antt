use Rattle.std.proofs.Common.{◌≡◌, rules, ◌+◌, ◌-◌, ltb, length, Some, None, Option, sym, ap, refl, ◌∙◌, arith, inl, inr}
use Rattle.frames.specs.Types.{message_meant, names_of}
use Rattle.frames.specs.Values.{Message}
use Rattle.frames.proofs.Naming.{length-names_of}
use Rattle.store.specs.Parts.{inbox_of, lows_of}
use Rattle.calls.specs.Choice.{kept_at}
use Rattle.calls.proofs.Gathering.{kept_past, pushed, run_none, run_stops, run_over, run_cut, run_goes_on, turn_some, turn_none}
use Rattle.calls.proofs.member.Member.add_run.Goals as goal

pub returns-then-not-push : goal.returns-then-not-push
returns-then-not-push c =
    let l = ap (λ k. ltb k 4) (sym (length-names_of c.loop-message.names)) in
    run_cut (inbox_of c.args.self.now.head.inbox) c.args.source (names_of c.loop-message.names) _ _ _ _ c.if-not-push.true (c.push.ensures.answer ∙ l) (pushed _ _ _ _ c.push.ensures.after) ∙ c.loop-message.invariant.names

pub loop-message-preserved : goal.loop-message-preserved
loop-message-preserved c =
    let b = c.args.self.now.head.inbox in
    let s = c.args.source in
    let m = c.in-Some.message in
    let i = c.loop-message.message-iterator.iter.start in
    let same = c.loop-message.invariant.same in
    let t = turn_some _ _ _ _ _ _ _ c.in-Some.ensures.steps.1.1 c.in-Some.ensures.steps.2 m refl in
    let called = t.2 in
    let l = ap (λ k. ltb k 4) (sym (length-names_of c.loop-message.names)) in
    let k : kept_at (inbox_of b) s (lows_of b s + (i + 1)) ≡ Some (message_meant m) = search rules in
    record {
      near = (omega arith, omega arith);
      same = search rules;
      names = run_goes_on (inbox_of b) s (names_of c.loop-message.names) _ _ _ _ _ k (omega arith) c.if-not-push.false (c.push.ensures.answer ∙ l) (pushed _ _ _ _ c.push.ensures.after) ∙ c.loop-message.invariant.names;
    }

pub returns : goal.returns
returns c =
    let b = c.args.self.now.head.inbox in
    let s = c.args.source in
    let i = c.loop-message.message-iterator.iter.start in
    let k = lows_of b s + (i + 1) in
    let xs = names_of c.loop-message.names in
    let same = c.loop-message.invariant.same in
    elim (turn_none _ _ _ _ _ _ _ c.in-None.ensures.steps.1.1 c.in-None.ensures.steps.2) [
      | inl past ↦ run_over (inbox_of b) s xs k (run_none (inbox_of b) s (4 - length xs) k (kept_past b s k (omega arith))) ∙ c.loop-message.invariant.names
      | inr called ↦ (let e : ◌≡◌ {A = Option Message} (kept_at (inbox_of b) s k) None = search rules in run_over (inbox_of b) s xs k (run_stops (inbox_of b) s (4 - length xs) k e) ∙ c.loop-message.invariant.names)
    ]
