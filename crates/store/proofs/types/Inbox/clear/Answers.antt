use Rattle.frames.specs.Types.{name_of}
use Rattle.store.proofs.Windows.{cleared}
use Rattle.store.proofs.types.Inbox.clear.Goals as goal

pub returns-clause-pending : goal.returns-clause-pending
returns-clause-pending c = cleared c.args.self.now.sources (name_of c.args.name) _ c.put.result c.put.ensures.answer c.put.ensures.pending
