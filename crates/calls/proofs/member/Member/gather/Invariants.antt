use Rattle.std.proofs.Common.{◌≡◌, ◌+◌, ◌-◌, ◌%◌, ◌++◌, length}
use Rattle.frames.specs.Types.{names_of}
use Rattle.head.specs.Turn.{gather, to_order}
use Rattle.calls.specs.Members.{model_of}
use Rattle.calls.proofs.member.Member.gather.Given as goal

abbrev pub invariant-loop-step : goal.invariant-loop-step
invariant-loop-step l = names_of l.names ++ gather l.heads (model_of l.self) (l.heads - l.step) ((l.self.head.me + l.step) % l.heads) (4 - length (names_of l.names)) ≡ to_order l.heads (model_of l.self)
