use Rattle.std.proofs.Common.{not, ap, ◌∙◌}
use Rattle.links.proofs.HeadSets.{none_flagged}
use Rattle.links.proofs.types.HeadSet.is_empty.Goals as goal

pub returns : goal.returns
returns c = ap not c.contains.ensures.value ∙ none_flagged c.args.self.now.flags 0
