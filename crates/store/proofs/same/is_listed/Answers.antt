use Rattle.std.proofs.Common.{drop, ◌∙◌, rules, tests}
use Rattle.std.proofs.lemmas.Iterator.{YieldsList-from_slice}
use Rattle.std.proofs.lemmas.Iterator.Adapters.{YieldsList-from_skip}
use Rattle.std.proofs.lemmas.Iterator.Search.{any_from_yields_List}
use Rattle.frames.specs.Types.{name_of}
use Rattle.head.specs.Slots.{same_message}
use Rattle.store.proofs.Naming.{listed_any}
use Rattle.store.proofs.same.is_listed.Goals as goal

pub returns : goal.returns
returns c =
    let x = name_of c.args.name in
    let ys = c.args.names.now in
    any_from_yields_List (λ y. same_message x (name_of y)) _ _ _ c.any.ensures.ran (YieldsList-from_skip c.args.from (YieldsList-from_slice ys (cc)) (cc)) (λ y b q k. search (rules, tests)) ∙ listed_any x (drop c.args.from ys)
