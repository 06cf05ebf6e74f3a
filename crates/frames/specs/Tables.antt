-- What a table means, and what stands in the places that it does not use.
use Rattle.std.specs.Prelude.{◌≡◌, ℕ, ◌-◌, List, take, drop, replicate}
use Rattle.frames.specs.declared.table.Table.{Table}

abbrev pub items : {T : Type 0} {N : ℕ} → Table T N → List T
items t = take t.count t.places

-- the filler
abbrev pub Filled : {T : Type 0} {N : ℕ} → T → Table T N → Type 0
Filled {N = N} filler t = drop t.count t.places ≡ replicate (N - t.count) filler
