use Rattle.std.proofs.Common.{◌≡◌, false, get_or, sym, ◌∙◌, arith, rules}
use Rattle.links.proofs.HeadSets.{has_flagged}
use Rattle.links.proofs.types.HeadSet.has.Goals as goal

pub returns : goal.returns
returns c =
    let e : c.is_some_and.result ≡ get_or c.args.self.now.flags c.args.head false = search rules in
    e ∙ sym (has_flagged c.args.self.now.flags 0 c.args.head c.args.head (omega arith))
