use Rattle.std.proofs.Common.{◌≡◌, ℕ, ◌+◌, ◌-◌, false, ◌&&◌, ◌++◌, get_or, take, drop}
use Rattle.head.specs.Deliver.{among}
use Rattle.head.specs.Head.{Head}
use Rattle.head.specs.Questions.{counts, holder_marks}
use Rattle.head.specs.Queue.{issuers}
use Rattle.store.specs.Holders.{Keeps}
use Rattle.store.specs.Parts.{slots_of}
use Rattle.store.proofs.types.Queue.mark_from.Given as goal

-- the heads that are marked, the marks so far with those to come, and the rest of the memory
abbrev pub invariant-loop-i : goal.invariant-loop-i
invariant-loop-i l = record {
  table : (g : ℕ) → get_or l.marked g false ≡ (counts l.ring.size.heads l.ring.me g && among g (issuers (slots_of l.self) (l.i - l.from) (l.self.base + l.from)));
  marks : (h : Head) → Keeps h l.ring.me l.self → take l.i l.scratch ++ holder_marks l.ring.size.heads h (l.self.base + l.from) (96 - l.i) (l.self.base + l.i) ≡ holder_marks l.ring.size.heads h (l.self.base + l.from) 96 l.self.base;
  rest : drop l.i l.scratch ≡ drop l.i l.initial.scratch;
}
