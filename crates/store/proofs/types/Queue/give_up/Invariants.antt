use Rattle.std.proofs.Common.{◌≡◌, ℕ, ◌-◌, ◌≤◌}
use Rattle.head.specs.Head.{Head}
use Rattle.head.specs.Upkeep.{give_up}
use Rattle.store.specs.Parts.{part, Passed, low_of, Ends, Own}
use Rattle.store.proofs.types.Queue.give_up.Given as goal

-- what is left to give up comes to the same, and what a head keeps true of its queue
abbrev pub invariant-loop-m : goal.invariant-loop-m
invariant-loop-m l = record {
  after : (h : Head) → give_up 96 l.n (part h l.due l.self) ≡ give_up 96 l.n (part h l.due l.initial.self);
  from : l.initial.self.base ≤ l.due → l.self.base ≤ l.due;
  passed : Passed l.initial.self l.due → Passed l.self l.due;
  low : Passed l.initial.self l.due → (s : ℕ) → low_of l.self s ≡ low_of l.initial.self s;
  own : (g k : ℕ) → Own g k l.initial.self → Own g k l.self;
  ends : Ends l.initial.self → Ends l.self;
}

abbrev pub decreases-loop-m : goal.decreases-loop-m
decreases-loop-m l = l.due - l.self.base
