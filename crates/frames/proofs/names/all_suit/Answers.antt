use Rattle.std.proofs.Common.{rules, sym, ◌∙◌}
use Rattle.std.proofs.lemmas.Iterator.Search.{all_from_yields_List}
use Rattle.std.proofs.lemmas.Iterator.{YieldsList-from_slice}
use Rattle.std.proofs.lemmas.List.Folds.{list_all-map}
use Rattle.frames.specs.Values.{name_ok}
use Rattle.frames.specs.Types.{name_of}
use Rattle.frames.proofs.names.all_suit.Goals as goal

pub returns : goal.returns
returns c =
    let n = c.args.size.heads in
    let xs = c.args.names.now in
    let all = all_from_yields_List (λ x. name_ok n (name_of x)) _ _ c.all.result c.all.ensures.ran (YieldsList-from_slice xs cc) (λ x b q k. search rules) in
    all ∙ sym (list_all-map (name_ok n) name_of xs)
