use Rattle.std.proofs.Common.{◌≡◌, drop, map}
use Rattle.frames.specs.Types.{name_of, names_of}
use Rattle.store.specs.Parts.{inbox_of, lows_of}
use Rattle.store.proofs.Windows.{clears}
use Rattle.store.proofs.types.Inbox.clear_all.Given as goal

abbrev pub invariant-loop-name : goal.invariant-loop-name
invariant-loop-name l = record { low : lows_of l.self ≡ lows_of l.initial.self; cleared : clears (map name_of (drop l.name-index l.name-items)) (inbox_of l.self) ≡ clears (names_of l.fn.names) (inbox_of l.initial.self) }
