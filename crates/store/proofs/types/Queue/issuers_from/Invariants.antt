use Rattle.std.proofs.Common.{◌≡◌, ℕ, ◌+◌, ◌-◌, ◌<◌, false, ◌||◌, length, get_or}
use Rattle.head.specs.Deliver.{among}
use Rattle.head.specs.Queue.{issuers}
use Rattle.store.specs.Parts.{queue_of}
use Rattle.store.proofs.types.Queue.issuers_from.Given as goal

-- the issuers so far are in the table, and those to come follow the slots that are left
abbrev pub invariant-loop-slot : goal.invariant-loop-slot
invariant-loop-slot l =
    (length l.issued ≡ 8)
    × ((g : ℕ) → g < 8 → (get_or l.issued g false || among g (issuers (queue_of l.self.base l.self.slots) (l.self.base + 96 - (l.stamp + l.slot-index)) (l.stamp + l.slot-index))) ≡ among g (issuers (queue_of l.self.base l.self.slots) (l.self.base + 96 - l.stamp) l.stamp))
