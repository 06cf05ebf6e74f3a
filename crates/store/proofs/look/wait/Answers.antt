use Rattle.std.proofs.Common.{arith}
use Rattle.store.proofs.Looking.{wait_stays}
use Rattle.store.proofs.look.wait.Goals as goal

pub returns-in_default : goal.returns-in_default
returns-in_default c = wait_stays c.args.tries (omega arith)
