use Rattle.std.proofs.Common.{◌≡◌, suc, ◌+◌, ◌-◌, ◌≤◌, ◌++◌, length}
use Rattle.frames.specs.Types.{names_of}
use Rattle.head.specs.Turn.{run_of}
use Rattle.store.specs.Parts.{inbox_of, lows_of}
use Rattle.calls.proofs.member.Member.add_run.Given as goal

abbrev pub invariant-loop-message : goal.invariant-loop-message
invariant-loop-message l = record {
  near : (l.message-iterator.iter.start ≤ 4) × (l.message-iterator.iter.end ≡ 4);
  same : l.message-iterator.f ≡ l.initial.message-iterator.f;
  names : names_of l.names ++ run_of (inbox_of l.self.head.inbox) l.fn.source (4 - length (names_of l.names)) (lows_of l.self.head.inbox l.fn.source + (l.message-iterator.iter.start + 1))
      ≡ names_of l.initial.names ++ run_of (inbox_of l.self.head.inbox) l.fn.source (4 - length (names_of l.initial.names)) (suc (lows_of l.self.head.inbox l.fn.source));
}
