use Rattle.links.proofs.HeadSets.{first_flags}
use Rattle.links.proofs.types.HeadSet.first.Goals as goal

pub returns : goal.returns
returns c = first_flags c.args.heads 8 c.fill.new.self c.requires (c.fill.ensures.after (λ y e. e))
