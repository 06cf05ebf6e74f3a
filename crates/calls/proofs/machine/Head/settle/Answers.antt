use Rattle.std.proofs.Common.{sym, refl, ◌∙◌}
use Rattle.std.proofs.lemmas.Bool.{cond-true, le-leb}
use Rattle.calls.specs.Model.{model}
use Rattle.calls.proofs.machine.Head.settle.Goals as goal

pub returns : goal.returns
returns c =
    let x = c.args.self.now in
    let e = c.give_up.ensures in
    record { size = refl; after = e.after (model x) ∙ cond-true c.give_up.result _ _ (e.answer ∙ le-leb x.due 1000001 x.range.1) }

pub invariant_of-self : goal.invariant_of-self
invariant_of-self c =
    let x = c.args.self.now in
    let e = c.give_up.ensures in record {
      member = x.member;
      range = (e.from x.range.0, x.range.1);
      passed = e.passed x.passed;
      ends = e.ends x.ends;
      own = e.own x.me x.made x.own;
      lows = (λ s. x.lows s ∙ sym (e.low x.passed s));
    }
