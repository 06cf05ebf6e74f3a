use Rattle.std.proofs.Common.{rules}
use Rattle.frames.specs.Tables.{items}
use Rattle.links_cases.proofs.Keeping.{handed_out}
use Rattle.links_cases.proofs.hoard.HoardLink.take.Goals as goal

pub returns : goal.returns
returns c = record { meaning = record { waited = handed_out (items c.args.self.now.packets) c.copied.result c.args.head (search rules); left = λ k q m. m } }
