-- What a table of heads means, and what holds of those that a ring has.
use Rattle.std.specs.Prelude.{◌≡◌, ℕ, ◌<◌, ◌≤◌, Bool, true, List, map, Some, None, Option, slice_index_or}
use Rattle.frames.specs.Values.{data_frame, frame_ok}
use Rattle.head.specs.Head.{Head, Kept, fresh}
use Rattle.head.specs.Ranges.{kept_message, slot_ok}
use Rattle.calls.specs.declared.member.Member.{Member}
use Rattle.calls.specs.Members.{model_of}

-- the head g: at the start where the table has none
unfoldable pub head_at : List Member → ℕ → Head
head_at hs g = slice_index_or (map model_of hs) g (fresh g)

-- the first n heads know that they are n
abbrev pub Sized : ℕ → List Member → Type 0
Sized n hs = (g : ℕ) → g < n → slice_index_or (map (λ (h : Member). h.head.size.heads) hs) g n ≡ n

-- what a head has pending under a source and number is in its ranges
abbrev pub kept_ok : ℕ → ℕ → ℕ → Option Kept → Bool
kept_ok n s k None = true
kept_ok n s k (Some p) = frame_ok n (data_frame (kept_message s k p))

-- the first n heads have a number below n, and a base
abbrev pub Numbered : ℕ → List Member → Type 0
Numbered n hs = (g : ℕ) → g < n → ((head_at hs g).me < n) × (1 ≤ (head_at hs g).base)

-- whatever is pending can be sent
abbrev pub KeptRanged : ℕ → List Member → Type 0
KeptRanged n hs = (g s k : ℕ) → kept_ok n s k ((head_at hs g).pending s k) ≡ true

-- whatever stands in a queue is in its ranges
abbrev pub SlotsRanged : ℕ → List Member → Type 0
SlotsRanged n hs = (g t : ℕ) → slot_ok n t ((head_at hs g).queue t) ≡ true
