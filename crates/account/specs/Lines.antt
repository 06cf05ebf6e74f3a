-- What a line of text is: a frame as heard in a ring of n heads, or why it is none.
use Rattle.std.specs.Prelude.{ℕ, List, Some, None, Ok, Err, Option, Result}
use Rattle.frames.specs.declared.refusal.Refusal.{Refusal}
use Rattle.frames.specs.declared.types.Frame.{Frame as CFrame}
use Rattle.frames.specs.Values.{Frame}
use Rattle.frames.specs.Types.{frame_of}
use Rattle.frames.specs.Reading.{read}
use Rattle.account.specs.declared.line.LineError.{LineError}
use Rattle.account.specs.declared.line.LineError.TheVariants.{Refused, NotHex}
use Rattle.account.specs.Hex.{hex_bytes}

-- no base-sixteen text, or what reading the bytes answers
abbrev pub line_of : Result CFrame LineError → Option (Result Frame Refusal)
line_of (Ok f) = Some (Ok (frame_of f))
line_of (Err (Refused e)) = Some (Err e)
line_of (Err NotHex) = None

abbrev pub read_bytes : ℕ → Option (List ℕ) → Option (Result Frame Refusal)
read_bytes n None = None
read_bytes n (Some bs) = Some (read n bs)

abbrev pub line_for : ℕ → List ℕ → Option (Result Frame Refusal)
line_for n text = read_bytes n (hex_bytes text)
