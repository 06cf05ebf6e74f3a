use Rattle.std.proofs.Common.{rules, ◌∙◌}
use Rattle.std.proofs.lemmas.Iterator.Search.{any_from_yields_List}
use Rattle.std.proofs.lemmas.Iterator.{YieldsList-from_slice}
use Rattle.frames.specs.Tables.{items}
use Rattle.frames.specs.Types.{name_of}
use Rattle.head.specs.Hear.{bad_name}
use Rattle.calls.specs.Model.{model}
use Rattle.calls.proofs.Hearing.{any_bad}
use Rattle.calls.proofs.machine.Head.any_bad.Goals as goal

pub returns : goal.returns
returns c =
    let h = model c.args.self.now in
    let xs = items c.args.names in
    any_from_yields_List (λ x. bad_name h (name_of x)) _ _ c.any.result c.any.ensures.ran (YieldsList-from_slice xs cc) (λ x b q k. search rules) ∙ any_bad h xs
