use Rattle.std.proofs.Common.{◌≡◌, ◌*◌, take}
use lib.Seq.{paste}
use Rattle.std.specs.List.{flat_map}
use Rattle.frames.specs.Types.{names_of}
use Rattle.frames.specs.Written.{name_bytes}
use Rattle.frames.proofs.types.Ack.write.Given as goal

abbrev pub invariant-loop-i : goal.invariant-loop-i
invariant-loop-i l = l.out ≡ paste l.initial.out 8 (flat_map name_bytes (take l.i (names_of l.self.names))) (6 * l.i)
