use Rattle.std.proofs.Common.{get_or, sym, refl, ap}
use Rattle.ring.proofs.running.call_at.Goals as goal

pub returns : goal.returns
returns g c =
    let at = get_or c.args.heads.now c.args.head in
    (at c.index-heads-head.result, c.call.new.arg2, record { shown = _; shows = refl; left = _; met = c.call.ensures; leaves = refl }, ap at (sym c.index-heads-head.is), refl)
