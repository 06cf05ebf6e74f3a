use Rattle.std.proofs.Common.{◌≡◌, ℕ, suc, ◌+◌, ◌<◌, true, false, get_or, ap, ◌∙◌, arith, rules, sym}
use Rattle.std.proofs.iter.runs.Made.{chains}
use Rattle.head.specs.Slots.{known}
use Rattle.store.specs.Parts.{queue_of, slot_of}
use Rattle.store.specs.declared.types.Slot.TheVariants.{Unknown}
use Rattle.store.proofs.View.{queue_at}
use Rattle.store.proofs.Listed.{past_last_at, past_last_none}
use Rattle.store.proofs.types.Queue.end.Goals as goal

pub returns-in-Some : goal.returns-in-Some
returns-in-Some c =
    let s = c.args.self.now in
    let e : (c.in-Some.i < 96) × (known (slot_of (get_or s.slots c.in-Some.i Unknown)) ≡ true) × ((k : ℕ) → c.in-Some.i < k → k < 96 → known (slot_of (get_or s.slots k Unknown)) ≡ false) = search (rules, chains) in
    let r : s.base + c.in-Some.i + 1 ≡ suc (s.base + c.in-Some.i) = omega arith in
    r ∙ sym (past_last_at known (queue_of s.base s.slots) s.base 96 c.in-Some.i e.0 (ap known (queue_at s.base s.slots c.in-Some.i) ∙ e.1) (λ j a b. ap known (queue_at s.base s.slots j) ∙ e.2 j a b))

pub returns-in-None : goal.returns-in-None
returns-in-None c =
    let s = c.args.self.now in
    let e : (k : ℕ) → k < 96 → known (slot_of (get_or s.slots k Unknown)) ≡ false = search (rules, chains) in
    sym (past_last_none known (queue_of s.base s.slots) s.base 96 (λ j b. ap known (queue_at s.base s.slots j) ∙ e j b))
