-- The bounds of sizes, levels, numbers, stamps and bodies. Every range of the repository is one of these.
use Rattle.std.specs.Prelude.{ℕ, ◌+◌, ◌-◌, ◌/◌, ◌%◌, Bool, cond, ◌&&◌, ◌||◌, ◌==◌, nat_le, nat_lt}

-- how many heads a ring may have
abbrev pub size_ok : ℕ → Bool
size_ok n = nat_le 2 n && nat_le n 8

-- the head after the head i of n
abbrev pub after : ℕ → ℕ → ℕ
after n i = (i + 1) % n

-- a level that n heads can meet: total, that many other heads, majority, safe
abbrev pub level_ok : ℕ → ℕ → Bool
level_ok n l = nat_lt l n || (l == 8 || l == 9)

-- how many other heads must have a message of this level before it is delivered
abbrev pub needs : ℕ → ℕ → ℕ
needs n l = cond (l == 9) (n - 1) (cond (l == 8) (n / 2) l)

-- the number of a message among those of its source
abbrev pub number_ok : ℕ → Bool
number_ok k = nat_le 1 k && nat_le k 500000

-- the stamp of a slot
abbrev pub stamp_ok : ℕ → Bool
stamp_ok t = nat_le 1 t && nat_le t 1000000

-- how many bytes a body may have
abbrev pub body_length_ok : ℕ → Bool
body_length_ok l = nat_le 1 l && nat_le l 8

-- how many names an ACK may have
abbrev pub count_ok : ℕ → Bool
count_ok m = nat_le m 4
