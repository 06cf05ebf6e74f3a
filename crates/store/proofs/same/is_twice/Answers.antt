use Rattle.std.proofs.Common.{map, ◌∙◌, rules, tests}
use Rattle.std.proofs.lemmas.Iterator.{YieldsList-from_slice}
use Rattle.std.proofs.lemmas.Iterator.Consumers.{YieldsList-from_enumerate}
use Rattle.std.proofs.lemmas.Iterator.Search.{any_from_yields_List}
use Rattle.frames.specs.Types.{name_of}
use Rattle.head.specs.Slots.{twice}
use Rattle.store.proofs.Naming.{again, twice_any}
use Rattle.store.proofs.same.is_twice.Goals as goal

pub returns : goal.returns
returns c =
    let xs = c.as_slice-names.result.now in
    any_from_yields_List (again xs) _ _ _ c.any.ensures.ran (YieldsList-from_enumerate (YieldsList-from_slice xs (cc)) (cc)) (λ y b q k. search (rules, tests)) ∙ (twice_any xs ∙ (λ j. twice (map name_of (c.as_slice-names.ensures j))))
