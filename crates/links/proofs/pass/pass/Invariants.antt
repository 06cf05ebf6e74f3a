use Rattle.std.proofs.Common.{ℕ, List}
use mathlib.Core.List.{Memᴰ}
use Rattle.links.proofs.pass.pass.Given as goal

-- nothing waits that did not wait after the put
abbrev pub invariant-loop : goal.invariant-loop
invariant-loop g l = (k : ℕ) (q : List ℕ) → Memᴰ q (g.L.Link.waits l.link k) → Memᴰ q (g.L.Link.waits l.initial.link k)
