use Rattle.std.proofs.Common.{arith}
use Rattle.frames.specs.Types.{names_of}
use Rattle.frames.proofs.Fronts.{length_names}
use Rattle.frames.proofs.Naming.{length-names_of}
use Rattle.frames.proofs.write.write_front.Goals as goal

pub write-requires-in-Ack : goal.write-requires-in-Ack
write-requires-in-Ack c =
    let r = rw c.in-Ack.is at c.requires.room in
    let k = length_names (names_of c.in-Ack.ack.names) in
    let l = length-names_of c.in-Ack.ack.names in
    omega arith

pub returns-in-Data : goal.returns-in-Data
returns-in-Data c = rw c.in-Data.is (c.write.ensures c.args.size.heads)

pub returns-in-Nack : goal.returns-in-Nack
returns-in-Nack c = rw c.in-Nack.is (c.write-in-Nack.ensures c.args.size.heads)
