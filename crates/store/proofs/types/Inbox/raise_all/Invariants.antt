use Rattle.std.proofs.Common.{◌≡◌, ℕ, ◌<◌, ◌≤◌, max}
use Rattle.store.specs.Parts.{inbox_of, lows_of, table_of}
use Rattle.store.proofs.Windows.{raised}
use Rattle.store.proofs.types.Inbox.raise_all.Given as goal

abbrev pub invariant-loop-source : goal.invariant-loop-source
invariant-loop-source l =
    ((t : ℕ) → l.source ≤ t → lows_of l.self t ≡ lows_of l.initial.self t)
    × ((t : ℕ) → t < l.source → lows_of l.self t ≡ max (lows_of l.initial.self t) (table_of l.to-items t))
    × (inbox_of l.self ≡ raised l.to-items (inbox_of l.initial.self) l.source)
