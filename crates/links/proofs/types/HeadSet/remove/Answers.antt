use Rattle.std.proofs.Common.{false, sym, ap, ◌∙◌, arith}
use Rattle.std.proofs.lemmas.List.{set_past}
use Rattle.links.specs.Types.{flagged}
use Rattle.links.proofs.HeadSets.{without_flagged}
use Rattle.links.proofs.types.HeadSet.remove.Goals as goal

pub returns-then-head-lt8 : goal.returns-then-head-lt8
returns-then-head-lt8 c = without_flagged c.args.self.now.flags 0 c.args.head c.args.head (omega arith)

pub returns-else-head-lt8 : goal.returns-else-head-lt8
returns-else-head-lt8 c =
    let l = c.args.self.now.places in
    ap (flagged 0) (sym (set_past c.args.self.now.flags c.args.head false (omega arith))) ∙ without_flagged c.args.self.now.flags 0 c.args.head c.args.head (omega arith)
