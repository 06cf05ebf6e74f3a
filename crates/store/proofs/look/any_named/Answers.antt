use Rattle.std.proofs.Common.{ltb, ap, ◌∙◌, rules, tests, reverse}
use Rattle.std.proofs.lemmas.Iterator.{YieldsList-from_take}
use Rattle.std.proofs.lemmas.Iterator.Adapters.{YieldsList-from_rev_slice}
use Rattle.std.proofs.lemmas.Iterator.Consumers.{YieldsList-from_filter_map}
use Rattle.std.proofs.lemmas.Iterator.Search.{any_from_yields_List}
use Rattle.std.proofs.lemmas.List.{length-reverse}
use Rattle.frames.specs.declared.table.Table.{Table}
use Rattle.frames.specs.declared.types.Name.{Name as CName}
use Rattle.head.specs.Queue.{Queue}
use Rattle.head.specs.Tick.{busy}
use Rattle.store.specs.Parts.{names_at, queue_of}
use Rattle.store.proofs.Listed.{busy_list, lists_back}
use Rattle.store.proofs.look.any_named.Goals as goal

pub returns : goal.returns
returns c b =
    let ss = c.args.slots.now in
    let q : Queue = queue_of b ss in
    any_from_yields_List (λ (ns : Table CName 4). ltb 0 ns.count) _ _ _ c.any.ensures.ran
    (YieldsList-from_take c.args.n (YieldsList-from_filter_map _ names_at (YieldsList-from_rev_slice ss (cc)) c.filter_map.ensures.closure (λ x r q k. search (rules, tests))) c.take.ensures.count) (λ x b q k. search (rules, tests))
    ∙ (busy_list q b (reverse ss) c.args.n (lists_back b ss) ∙ ap (λ k. busy q k b c.args.n) (length-reverse ss))
