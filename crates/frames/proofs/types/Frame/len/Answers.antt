use Rattle.std.proofs.Common.{arith}
use Rattle.frames.specs.Types.{names_of}
use Rattle.frames.proofs.Fronts.{length_names}
use Rattle.frames.proofs.Naming.{length-names_of}
use Rattle.frames.proofs.types.Frame.len.Goals as goal

pub returns-in-Ack-clause-value : goal.returns-in-Ack-clause-value
returns-in-Ack-clause-value c n =
    let ns = c.in-Ack.ack.names in
    let k = length_names (names_of ns) in
    let l = length-names_of ns in
    rw c.in-Ack.is (omega arith)
