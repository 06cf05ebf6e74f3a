-- The low of the code is the low of the model.
use Rattle.std.proofs.Common.{◌≡◌, ℕ, ◌+◌, ◌<◌, ◌≤◌, true, ltb, leb, sym, arith}
use Rattle.std.proofs.lemmas.Bool.{and_from, le-leb, lt-ltb}
use Rattle.head.specs.Head.{low}
use Rattle.store.specs.Parts.{in_window, lows_of, table_of, queue_of}
use Rattle.calls.specs.declared.machine.Head.{Head as CHead}
use Rattle.calls.specs.Model.{model}
use Rattle.store.proofs.Walks.{highest_cap}

-- the code's low is the model's
pub low_is : (x : CHead) (s : ℕ) → low (model x) s ≡ lows_of x.inbox s
unfolding low
low_is x s = sym (x.lows s)

-- the own low is not above made
pub low_own : (x : CHead) → lows_of x.inbox x.me ≤ x.made
low_own x = let e = x.lows x.me in let c = highest_cap (queue_of x.queue.base x.queue.slots) x.me 96 x.queue.base (table_of x.queue.gone x.me) x.made x.own.0 x.own.1 in omega arith

-- a number that is one of the four after low
pub near : (low k : ℕ) → low < k → k ≤ low + 4 → in_window low k ≡ true
near low k a b = and_from (ltb low k) (leb k (low + 4)) (lt-ltb low k a) (le-leb k (low + 4) b)
