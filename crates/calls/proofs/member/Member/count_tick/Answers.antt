use Rattle.std.proofs.Common.{[], ◌∷◌, sym, refl, ap, ◌∙◌, arith}
use Rattle.frames.specs.Values.{nack_frame}
use Rattle.head.specs.Head.{top}
use Rattle.frames.specs.declared.types.RingSize.{RingSize}
use Rattle.head.specs.Tick.{asked, fire}
use Rattle.calls.specs.Model.{model}
use Rattle.calls.proofs.Ticking.{tick_lacks}
use Rattle.calls.proofs.member.Member.count_tick.Goals as goal

pub returns-then-stamp-end-clause-after : goal.returns-then-stamp-end-clause-after
unfolding top
returns-then-stamp-end-clause-after c =
    let x = c.args.self.now.head in
    let n = x.size.heads in
    let w = c.wait.ensures in
    let m = c.mark-stamp.ensures in
    let e = c.end.ensures.value in
    let ring = c.ring.ensures in
    let o = c.asked-to.ensures (model x) (sym ring.me) refl (sym c.top.ensures) ∙ ap (λ (v : RingSize). asked v.heads (model x)) ring.size in
    c.fire.ensures.after ∙ ((λ j. fire n (model x) (nack_frame x.me (o j) (m j) ∷ [])) ∙ sym (tick_lacks n (model x) (omega arith) (omega arith)))
