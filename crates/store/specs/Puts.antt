-- What the frames of one call mean.
use Rattle.std.specs.Prelude.{List, map}
use Rattle.frames.specs.declared.table.Table.{Table}
use Rattle.frames.specs.declared.types.Frame.{Frame as CFrame}
use Rattle.frames.specs.Tables.{items}
use Rattle.frames.specs.Types.{frame_of}
use Rattle.frames.specs.Values.{Frame}

abbrev pub puts_of : Table CFrame 3 → List Frame
puts_of fs = map frame_of (items fs)
