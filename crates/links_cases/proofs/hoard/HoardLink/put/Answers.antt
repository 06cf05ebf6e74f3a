use Rattle.frames.specs.Tables.{items}
use Rattle.links_cases.proofs.Keeping.{kept}
use Rattle.links_cases.proofs.hoard.HoardLink.put.Goals as goal

pub returns : goal.returns
returns c = record { meaning = λ h q m. kept (items c.args.self.now.packets) (items c.push.new.self) c.args.packet c.push.result c.push.ensures.after q m }
