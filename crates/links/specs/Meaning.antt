-- The meaning of a link: three sentences, one for each call.
use Rattle.std.specs.Prelude.{◌≡◌, ℕ, ◌⊎◌, List, Some, None, Option}
use mathlib.Core.List.{Memᴰ}

-- for each head, the packets that wait for it, each by its bytes
abbrev pub Waits : Type 0
Waits = ℕ → List (List ℕ)

-- after a put, a packet that waits for a head waited for it before, or is the packet put
abbrev pub AfterPut : List ℕ → Waits → Waits → Type 0
AfterPut p w v = (h : ℕ) (q : List ℕ) → Memᴰ q (v h) → Memᴰ q (w h) ⊎ (q ≡ p)

-- a take answers nothing, or one packet that waited for the head
abbrev pub TakenFrom : ℕ → Option (List ℕ) → Waits → Type 0
TakenFrom h None w = Unit {0}
TakenFrom h (Some p) w = Memᴰ p (w h)

-- and after it nothing waits for a head that did not wait for it before
pub record AfterTake (h : ℕ) (t : Option (List ℕ)) (w v : Waits) : Type 0 where
  pub waited : TakenFrom h t w
  pub left : (k : ℕ) (q : List ℕ) → Memᴰ q (v k) → Memᴰ q (w k)

-- after a clear, nothing waits for any head
abbrev pub Cleared : Waits → Type 0
Cleared w = (h : ℕ) (q : List ℕ) → Memᴰ q (w h) → ⊥
