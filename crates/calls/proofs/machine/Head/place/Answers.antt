use Rattle.std.proofs.Common.{ℕ, max, cond, leb, None, refl, ap, ◌∙◌, arith}
use Rattle.std.proofs.lemmas.Bool.{cond-true}
use Rattle.head.specs.Head.{Pending}
use Rattle.store.specs.Parts.{table_of, inbox_of}
use Rattle.calls.proofs.Placing.{code_placed, code_ends, code_own, code_passed, code_low}
use Rattle.calls.proofs.machine.Head.place.Goals as goal

pub invariant_of-self : goal.invariant_of-self
invariant_of-self c =
    let x = c.args.self.now in
    let q = c.lay.new.self in
    let l = c.lows-low.result in
    let e = c.lay.ensures in
    let t = c.args.ack.stamp in
    let i = c.args.ack.issuer in
    let ns = c.args.ack.names in
    let es = e.slots ∙ cond-true c.lay.result _ _ (e.answer ∙ c.requires.room) in
    let el = c.lows-low.ensures in record {
      member = x.member;
      range = (omega (arith, e.base, x.range.0), x.range.1);
      passed = code_passed x q l t i ns e.base e.gone es el c.requires.free x.due x.passed;
      ends = code_ends x q l t i ns e.base e.gone es el c.requires.stamps x.ends;
      own = code_own x q l t i ns e.base e.gone es el x.me x.made c.requires.own x.own;
      lows = (λ s. c.raise_all.ensures.low s ∙ (ap (λ (f : ℕ → ℕ). max (f s) (table_of l s)) c.clear_all.ensures.low ∙ code_low x q l t i ns e.base e.gone es el c.requires.free s));
    }

pub returns : goal.returns
returns c =
    let x = c.args.self.now in
    let q = c.lay.new.self in
    let l = c.lows-low.result in
    let e = c.lay.ensures in
    let es = e.slots ∙ cond-true c.lay.result _ _ (e.answer ∙ c.requires.room) in
    record {
      size = refl;
      after = code_placed x q l c.args.ack.stamp c.args.ack.issuer c.args.ack.names e.base e.gone es c.lows-low.ensures (inbox_of c.raise_all.new.self) (c.raise_all.ensures.pending ∙ ap {B = Pending} (λ (p : Pending) s k. cond (leb k (table_of l s)) None (p s k)) c.clear_all.ensures.pending);
    }
