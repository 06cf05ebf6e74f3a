use Rattle.std.proofs.Common.{◌≡◌, ◌+◌, ap, ◌∙◌, rules, tests, sym}
use Rattle.std.specs.List.{prefix_len}
use Rattle.std.proofs.lemmas.Iterator.{YieldsList-from_slice}
use Rattle.std.proofs.lemmas.Iterator.Search.{YieldsList-from_take_while}
use Rattle.std.proofs.lemmas.Iterator.Consumers.{count_from_yields_List}
use Rattle.std.proofs.lemmas.List.Folds.{length-prefix_len}
use Rattle.head.specs.Slots.{full}
use Rattle.store.specs.Parts.{queue_of, slot_of}
use Rattle.store.proofs.Listed.{first_not_list, lists_all}
use Rattle.store.proofs.types.Queue.mark.Goals as goal

pub returns : goal.returns
returns c =
    let s = c.args.self.now in
    let e : c.count-places.result ≡ prefix_len (λ x. full (slot_of x)) s.slots = count_from_yields_List _ _ c.count-places.ensures.ran (YieldsList-from_take_while _ (λ x. full (slot_of x)) (YieldsList-from_slice s.slots cc) c.take_while.ensures.closure c.take_while.ensures.done (λ x b q k. search (rules, tests))) ∙ length-prefix_len (λ x. full (slot_of x)) s.slots in
    ap (λ n. s.base + n) e ∙ sym (rw (s.places) at (first_not_list full (queue_of s.base s.slots) s.base s.slots (lists_all s.base s.slots)))
