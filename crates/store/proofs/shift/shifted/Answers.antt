use Rattle.std.proofs.Common.{◌∙◌}
use Rattle.store.proofs.Fronts.{front_moved}
use Rattle.store.proofs.shift.shifted.Goals as goal

pub returns : goal.returns
returns g c = c.put_front.ensures ∙ front_moved c.args.items.now c.args.by _ c.args.blank c.told-items c.requires
