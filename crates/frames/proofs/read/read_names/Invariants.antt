use Rattle.std.proofs.Common.{◌≡◌, true, map, take}
use Rattle.frames.specs.Values.{names_ok}
use Rattle.frames.specs.Types.{names_of, NamesRest}
use Rattle.frames.specs.Reading.{name_in}
use Rattle.frames.proofs.read.read_names.Given as goal

abbrev pub invariant-loop-place : goal.invariant-loop-place
invariant-loop-place l =
    (names_of l.names ≡ take l.place-index (map name_in l.places))
    × (names_ok l.size.heads (take l.place-index (map name_in l.places)) ≡ true)
    × NamesRest l.names
