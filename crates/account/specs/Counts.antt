-- Counting lines by what they are.
use Rattle.std.specs.Prelude.{ℕ, ◌+◌, min, cond, List, Ok, Err, Result, ◌==◌, slice_index, slice_set}
use Rattle.frames.specs.declared.types.Frame.{Frame}
use Rattle.frames.specs.declared.types.Frame.TheVariants.{Data, Ack, Nack}
use Rattle.frames.specs.Refusals.{number_of}
use Rattle.account.specs.declared.line.LineError.{LineError}
use Rattle.account.specs.declared.line.LineError.TheVariants.{Refused, NotHex}
use Rattle.account.specs.declared.tally.Sort.{Sort}
use Rattle.account.specs.declared.tally.Sort.TheVariants.{DataFrame, AckFrame, NackFrame, NoFrame, OutOfRange, NoHex}

abbrev pub frame_sort : Frame → Sort
frame_sort (Data m) = DataFrame
frame_sort (Ack a) = AckFrame
frame_sort (Nack k) = NackFrame

-- reading refuses by 11 and 12 alone
abbrev pub sort_of : Result Frame LineError → Sort
sort_of (Ok f) = frame_sort f
sort_of (Err (Refused e)) = cond (number_of e == 11) NoFrame OutOfRange
sort_of (Err NotHex) = NoHex

abbrev pub place_of : Sort → ℕ
place_of DataFrame = 0
place_of AckFrame = 1
place_of NackFrame = 2
place_of NoFrame = 3
place_of OutOfRange = 4
place_of NoHex = 5

-- one more of this sort, up to the greatest number that is held
abbrev pub with_one : Sort → List ℕ → List ℕ
with_one s counts = slice_set counts (place_of s) (min (slice_index counts (place_of s) + 1) 18446744073709551615)
