use Rattle.store.proofs.Starting.{new_queue, new_table}
use Rattle.store.proofs.types.Queue.new.Goals as goal

pub returns-clause-slots : goal.returns-clause-slots
returns-clause-slots c = new_queue 1

pub returns-clause-gone : goal.returns-clause-gone
returns-clause-gone c = new_table
