use Rattle.std.proofs.Common.{◌≡◌, max, get_or, set, sym, ap, ◌∙◌, arith, get_or-set_other, get_or-set_same}
use Rattle.store.specs.Parts.{table_of}
use Rattle.store.proofs.View.{by_eq}
use Rattle.store.proofs.settle.raise.Goals as goal

pub returns : goal.returns
unfolding table_of
returns c =
    let l = c.args.low.now in
    let x = c.args.name in
    let m : c.max.result ≡ max (get_or l x.source 0) x.number = omega arith in
    λ s. by_eq x.source s (max (get_or l s 0) x.number) (get_or l s 0) (get_or (set l x.source c.max.result) s 0)
    (λ e. ap (λ n. get_or (set l x.source c.max.result) n 0) (sym e) ∙ (get_or-set_same l x.source c.max.result 0 (omega arith) ∙ (m ∙ ap (λ n. max (get_or l n 0) x.number) e)))
    (λ ne. get_or-set_other l x.source s c.max.result 0 (λ e. ne (sym e)))
