use Rattle.std.proofs.Common.{◌≡◌, ℕ, cond, drop, ◌++◌, Ok, Result, sym, refl, ap, ◌∙◌}
use Rattle.std.proofs.lemmas.Bool.{cond-true, le-leb}
use Rattle.frames.specs.declared.refusal.Refusal.{Refusal}
use Rattle.frames.specs.declared.types.RingSize.{RingSize}
use Rattle.head.specs.Deliver.{holders, orderer}
use Rattle.head.specs.Questions.{marks_from}
use Rattle.store.specs.Holders.{Keeps}
use Rattle.store.specs.Parts.{slot_of}
use Rattle.calls.specs.declared.machine.Head.{Head}
use Rattle.calls.specs.Model.{model}
use Rattle.calls.proofs.Asking.{asked_data, long_answer, long_scratch}
use Rattle.calls.proofs.machine.Head.holders.Goals as goal

keeps : (x : Head) (me : ℕ) → me ≡ x.me → Keeps (model x) me x.queue
keeps x me e = record { number = sym e; base = refl; queue = refl }

pub returns : goal.returns
returns c =
    let x = c.args.self.now in
    let n = x.size.heads in
    let s = c.args.stamp in
    let e = asked_data n x s c.in-Data.name c.in-Data.body (ap slot_of (sym c.in-Data.is) ∙ c.at-slot.ensures) in
    let m = c.mark_holders.ensures in
    let long = c.if-scratch-lt96.false in
    record {
      answer = ap {B = Result _ Refusal} Ok (c.holders.ensures.value (model x) (keeps x _ c.ring-2.ensures.me) ∙ ap (λ (v : RingSize). holders v.heads (model x) s) c.ring-2.ensures.size) ∙ long_answer n (model x) s c.args.scratch.now _ long e;
      after = m.after (model x) (keeps x _ c.ring.ensures.me) ∙ (ap (λ (v : RingSize). cond c.mark_holders.result (marks_from v.heads (model x) (orderer (model x) s) ++ drop 96 c.args.scratch.now) c.args.scratch.now) c.ring.ensures.size ∙ cond-true c.mark_holders.result _ _ (m.answer ∙ le-leb 96 _ long) ∙ long_scratch n (model x) s c.args.scratch.now _ long e);
    }
