use Rattle.std.proofs.Common.{rules}
use Rattle.frames.proofs.Accepted.{forth}
use Rattle.frames.proofs.read.read.Goals as goal

pub returns-in-1-clause-forth : goal.returns-in-1-clause-forth
returns-in-1-clause-forth c = forth c.args.size.heads c.args.bytes.now c.read_data.result c.type_inv.bytes (search rules)

pub returns-in-2-clause-forth : goal.returns-in-2-clause-forth
returns-in-2-clause-forth c = forth c.args.size.heads c.args.bytes.now c.read_ack.result c.type_inv.bytes (search rules)

pub returns-in-3-clause-forth : goal.returns-in-3-clause-forth
returns-in-3-clause-forth c = forth c.args.size.heads c.args.bytes.now c.read_nack.result c.type_inv.bytes (search rules)
