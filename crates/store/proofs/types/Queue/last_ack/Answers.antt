use Rattle.std.proofs.Common.{◌≡◌, ℕ, ◌+◌, ◌<◌, true, false, get_or, length, take, sym, ap, ◌∙◌, arith, rules}
use Rattle.std.proofs.iter.runs.Made.{chains}
use Rattle.std.proofs.lemmas.List.{length-take-le}
use Rattle.head.specs.Slots.{is_ack}
use Rattle.head.specs.Queue.{Queue, ack_at}
use Rattle.store.specs.declared.types.Slot.TheVariants.{Unknown}
use Rattle.store.specs.Parts.{queue_of, slot_of}
use Rattle.store.proofs.Holding.{last_upto}
use Rattle.store.proofs.Listed.{last_ack_at, last_ack_none}
use Rattle.store.proofs.View.{queue_front}
use Rattle.store.proofs.types.Queue.last_ack.Goals as goal

pub returns-in-None-clause-value : goal.returns-in-None-clause-value
returns-in-None-clause-value c = λ k e.
    let s = c.args.self.now in
    let m = c.args.count in
    let n : length (take m s.slots) ≡ m = length-take-le m s.slots (omega arith) in
    let f : (j : ℕ) → j < m → is_ack (slot_of (get_or (take m s.slots) j Unknown)) ≡ false = search (rules, chains) in
    sym (last_ack_none (queue_of s.base s.slots) s.base m (λ j b. ap is_ack (queue_front s.base s.slots m j Unknown b (omega arith)) ∙ f j b)) ∙ last_upto s m k e

pub returns-in-Some-clause-value : goal.returns-in-Some-clause-value
returns-in-Some-clause-value c = λ k e.
    let s = c.args.self.now in
    let q : Queue = queue_of s.base s.slots in
    let i = c.in-Some.place in
    let m = c.args.count in
    let n : length (take m s.slots) ≡ m = length-take-le m s.slots (omega arith) in
    let b : i < m = search (rules, chains) in
    let f : is_ack (slot_of (get_or (take m s.slots) i Unknown)) ≡ true = search (rules, chains) in
    let h : (j : ℕ) → i < j → j < m → is_ack (slot_of (get_or (take m s.slots) j Unknown)) ≡ false = search (rules, chains) in
    let g : c.index-slots-place.result ≡ get_or (take m s.slots) i Unknown = search (rules, chains) in
    c.ack.ensures
    ∙ (ap (λ x. ack_at x (s.base + i)) (ap slot_of g ∙ sym (queue_front s.base s.slots m i Unknown b (omega arith)))
    ∙ (sym (last_ack_at q s.base m i b (ap is_ack (queue_front s.base s.slots m i Unknown b (omega arith)) ∙ f) (λ j a d. ap is_ack (queue_front s.base s.slots m j Unknown d (omega arith)) ∙ h j a d)) ∙ last_upto s m k e))
