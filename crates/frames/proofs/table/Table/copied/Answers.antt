use Rattle.std.proofs.Common.{length, ap, ◌∙◌, arith}
use Rattle.std.proofs.lemmas.List.{length-take-le}
use Rattle.frames.proofs.Tables.{filler_past}
use Rattle.frames.proofs.table.Table.copied.Goals as goal

pub returns-clause-rest : goal.returns-clause-rest
returns-clause-rest g c = filler_past c.args.filler g.row.N _ _ (ap length c.copy_from_slice.ensures.after ∙ length-take-le _ _ (omega arith))
