-- Writing and reading undo one another.
use Rattle.std.specs.Prelude.{◌≡◌, ℕ, ◌<◌, ◌≤◌, true, List, Ok, All}
use Rattle.frames.specs.Values.{Frame, frame_ok}
use Rattle.frames.specs.Written.{written}
use Rattle.frames.specs.Reading.{read}

abbrev pub Byte : ℕ → Type 0
Byte b = b < 256

-- what was written reads back as the same frame; 255 must be no head, since it stands for everyone
abbrev pub ReadsBack : Type 0
ReadsBack = (n : ℕ) (f : Frame) → n ≤ 255 → frame_ok n f ≡ true → read n (written n f) ≡ Ok f

-- a frame that is accepted is, byte by byte, the one that writing it gives, and is in range
abbrev pub WritesBack : Type 0
WritesBack = (n : ℕ) (bs : List ℕ) (f : Frame) → All Byte bs → read n bs ≡ Ok f → (written n f ≡ bs) × (frame_ok n f ≡ true)
