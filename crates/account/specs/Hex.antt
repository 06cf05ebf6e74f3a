-- Bytes written as text in base sixteen.
use Rattle.std.specs.Prelude.{ℕ, ◌+◌, ◌-◌, ◌*◌, Bool, cond, ◌&&◌, ◌||◌, List, [], ◌∷◌, Some, None, Option, ◌==◌, nat_le}

-- a space, a tab or a carriage return
abbrev pub blank : ℕ → Bool
blank c = c == 32 || (c == 9 || c == 13)

abbrev pub between : ℕ → ℕ → ℕ → Bool
between low c high = nat_le low c && nat_le c high

-- what a digit stands for: 0 to 9, A to F or a to f
abbrev pub digit_value : ℕ → Option ℕ
digit_value c = cond (between 48 c 57) (Some (c - 48)) (cond (between 65 c 70) (Some (c - 55)) (cond (between 97 c 102) (Some (c - 87)) None))

abbrev pub and_then : ℕ → Option (List ℕ) → Option (List ℕ)
and_then b None = None
and_then b (Some bs) = Some (b ∷ bs)

-- The bytes of the text that follows, where a first digit may stand open: pairs of digits, with blanks anywhere.
abbrev pub unhex : Option ℕ → List ℕ → Option (List ℕ)
unhex None [] = Some []
unhex (Some high) [] = None
unhex None (c ∷ cs) = cond (blank c) (unhex None cs) (elim (digit_value c) [ None ↦ None | Some d ↦ unhex (Some d) cs ])
unhex (Some high) (c ∷ cs) = cond (blank c) (unhex (Some high) cs) (elim (digit_value c) [ None ↦ None | Some d ↦ and_then (high * 16 + d) (unhex None cs) ])

abbrev pub hex_bytes : List ℕ → Option (List ℕ)
hex_bytes text = unhex None text
