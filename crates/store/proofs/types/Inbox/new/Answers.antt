use Rattle.std.proofs.Common.{refl}
use Rattle.store.proofs.Starting.{new_lows, new_pending}
use Rattle.store.proofs.types.Inbox.new.Goals as goal

pub returns-clause-low : goal.returns-clause-low
returns-clause-low c = new_lows _ refl

pub returns-clause-pending : goal.returns-clause-pending
returns-clause-pending c = new_pending _ refl
