use Rattle.std.proofs.Common.{◌+◌, ◌∙◌, sym, arith}
use Rattle.frames.specs.Types.{body_of}
use Rattle.store.proofs.Filling.{filled_low, filled_own, filled_ends, filled_passed}
use Rattle.calls.proofs.machine.Head.take_slotted.Goals as goal

pub invariant_of-self : goal.invariant_of-self
invariant_of-self c =
    let x = c.args.self.now in
    let q = x.queue in
    let p = c.fill.new.self in
    let e = c.fill.ensures in
    let b = body_of c.args.message.body in
    let t = q.base + c.args.i in record {
      member = x.member;
      range = (omega (arith, e.base, x.range.0), x.range.1);
      passed = filled_passed q p b t e.base e.gone e.slots x.due x.passed;
      ends = filled_ends q p b t e.base e.gone e.slots x.ends;
      own = filled_own q p b t e.base e.gone e.slots x.me x.made x.own;
      lows = (λ s. x.lows s ∙ sym (filled_low q p b t e.base e.gone e.slots s));
    }
