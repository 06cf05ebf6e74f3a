use Rattle.std.proofs.Common.{rules}
use Rattle.std.proofs.iter.runs.Made.{chains}
use Rattle.frames.specs.Types.{name_of}
use Rattle.store.specs.Parts.{queue_of}
use Rattle.store.proofs.Listed.{place_of_is}
use Rattle.store.proofs.types.Queue.find.Goals as goal

pub returns : goal.returns
unfolding queue_of
returns c = record { place = place_of_is (queue_of c.args.self.now.base c.args.self.now.slots) (name_of c.args.name) 96 c.args.self.now.base _ (search (rules, chains)); bound = search (rules, chains) }
