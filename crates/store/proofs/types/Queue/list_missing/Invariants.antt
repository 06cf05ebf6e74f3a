use Rattle.std.proofs.Common.{◌≡◌, ◌+◌, ◌-◌, ◌≤◌, ◌++◌, take, drop}
use Rattle.head.specs.Questions.{missing_from}
use Rattle.store.specs.Missing.{end_of, lacking}
use Rattle.store.specs.Parts.{slots_of}
use Rattle.store.proofs.types.Queue.list_missing.Given as goal

-- the stamps so far with those to come, and the rest of the list
abbrev pub invariant-loop-i : goal.invariant-loop-i
invariant-loop-i l = record {
  stamps : take l.count l.list ++ missing_from (slots_of l.self) (end_of l.self) (96 - l.i) (l.self.base + l.i) ≡ lacking l.self;
  rest : drop l.count l.list ≡ drop l.count l.initial.list;
  few : l.count ≤ l.i;
}
