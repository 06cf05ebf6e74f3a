use Rattle.std.proofs.Common.{◌≡◌, ℕ, ◌+◌, ◌-◌, ◌≤◌, false, not, ap, ◌∙◌, arith, rules, tests}
use Rattle.std.proofs.lemmas.Iterator.{YieldsList-from_range}
use Rattle.std.proofs.lemmas.Iterator.Search.{all_from_yields_List}
use Rattle.head.specs.Slots.{known}
use Rattle.head.specs.Queue.{Queue}
use Rattle.store.specs.Parts.{slots_of}
use Rattle.store.proofs.View.{queue_past}
use Rattle.store.proofs.Listed.{all_unknown_list, all_unknown_past}
use Rattle.store.proofs.types.Queue.is_free.Goals as goal

pub returns : goal.returns
returns c =
    let x = c.args.self.now in
    let q : Queue = slots_of x in
    let t = c.args.stamp in
    let e = c.saturating_add.result in
    let past : (u : ℕ) → x.base + 96 ≤ u → known (q u) ≡ false = λ u h. let l = x.places in ap known (queue_past x.base x.slots u (omega arith)) in
    all_from_yields_List (λ u. not (known (q u))) _ _ _ c.all.ensures.ran (YieldsList-from_range t e (e - t) (cc) (omega arith)) (λ y b g k. search (rules, tests))
    ∙ (all_unknown_list q (e - t) t ∙ all_unknown_past q (e - t) c.args.k t (omega arith) (λ h u a. past u (omega (arith, x.small))))
