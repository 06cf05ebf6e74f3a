use Rattle.std.proofs.Common.{◌≡◌, ◌+◌, ◌-◌, max, ap, unwrap_or, true, false, ◌∙◌, arith, rules, tests}
use Rattle.std.proofs.lemmas.Iterator.{first_from_Range}
use Rattle.head.specs.Slots.{is_ack}
use Rattle.head.specs.Queue.{Queue, first_not}
use Rattle.store.specs.Parts.{queue_of}
use Rattle.store.proofs.Holding.{skip_is, skip_from, skip_passed, skip_bound}
use Rattle.store.proofs.types.Queue.skip_acks.Goals as goal

pub returns : goal.returns
returns c =
    let x = c.args.self.now in
    let d = c.args.due in
    let q : Queue = queue_of x.base x.slots in
    let k = x.base + 96 - d in
    let m : c.max.result ≡ max d (x.base + 96) = omega arith in
    let e : c.unwrap_or.result ≡ first_not is_ack q k d = c.unwrap_or.ensures ∙ (ap (unwrap_or c.find.result) m ∙ skip_is x d c.find.result (first_from_Range _ _ _ _ (λ u. is_ack (q u) ≡ false) (λ u. is_ack (q u) ≡ true) c.find.ensures.ran (λ u f k. search (rules, tests)) (λ u f k. search (rules, tests)))) in
    record { value = e; from = skip_from x d _ k e; passed = skip_passed x d _ k e; bound = skip_bound x d _ k e }
