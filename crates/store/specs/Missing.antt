-- What the queue lacks.
use Rattle.std.specs.Prelude.{ℕ, List}
use Rattle.head.specs.Questions.{missing_from}
use Rattle.head.specs.Queue.{past_last}
use Rattle.head.specs.Slots.{known}
use Rattle.store.specs.declared.types.Queue.{Queue as CQueue}
use Rattle.store.specs.Parts.{slots_of}

-- one past the highest stamp that is known
abbrev pub end_of : CQueue → ℕ
end_of q = past_last known (slots_of q) 96 q.base

-- the stamps below it that are not full, as the model has them
abbrev pub lacking : CQueue → List ℕ
lacking q = missing_from (slots_of q) (end_of q) 96 q.base
