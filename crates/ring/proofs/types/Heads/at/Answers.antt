use Rattle.std.proofs.Common.{◌<◌, length, get_or, sym, ap, ◌∙◌, arith}
use Rattle.ring.proofs.Tables.{at_place, size_at}
use Rattle.ring.proofs.types.Heads.at.Goals as goal

pub returns-then-head-self : goal.returns-then-head-self
returns-then-head-self c =
    let x = c.args.self.now in
    let i = c.args.head in
    let y = get_or x.all i c.index-self-head.result in
    let h : i < length x.all = omega (arith, x.places, x.size.most) in
    let e = ap (get_or x.all i) (sym c.index-self-head.is) in
    (c.if-head-self.true, sym (size_at x.size.heads x.all i y h e) ∙ x.sized i c.if-head-self.true, sym (at_place x.all i y h e))
