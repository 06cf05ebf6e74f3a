-- Placing an ACK: x the head before, q its queue with the slots set, l the numbers over it.
use Rattle.std.proofs.Common.{◌≡◌, ℕ, suc, ◌+◌, ◌≤◌, max, true, cond, leb, List, Some, None, Option, sym, ap, ◌∙◌, subst, arith}
use Rattle.frames.specs.declared.table.Table.{Table}
use Rattle.frames.specs.declared.types.Name.{Name as CName}
use Rattle.frames.specs.Types.{names_of}
use Rattle.frames.proofs.Naming.{length-names_of}
use Rattle.head.specs.Slots.{Slot, unknown, ack, bare, whole, known, named, over, cells, size}
use Rattle.head.specs.Queue.{Queue, all_unknown, raise}
use Rattle.head.specs.Head.{Kept, Pending, fill_in, filled_by, numbered_in, low, place}
use Rattle.head.proofs.Slots.{cells_above}
use Rattle.store.specs.declared.types.Queue.{Queue as CQueue}
use Rattle.store.specs.Parts.{queue_of, inbox_of, lows_of, table_of, ack_of, low_of, Ends, Passed, Own, OwnAck}
use Rattle.store.proofs.Placing.{laid_keeps, placed_grows, placed_is}
use Rattle.calls.specs.declared.machine.Head.{Head as CHead}
use Rattle.calls.specs.Model.{model}

module _ (x : CHead) (q : CQueue) (l : List ℕ) (t i : ℕ) (ns : Table CName 4) (eb : q.base ≡ x.queue.base) (eg : q.gone ≡ x.queue.gone)
    (es : queue_of x.queue.base q.slots ≡ (λ s. over (fill_in (inbox_of x.inbox) (cells (ack_of t i ns) s)) (queue_of x.queue.base x.queue.slots s)))
    (el : (s : ℕ) → table_of l s ≡ low_of q s) where
  slots_is : queue_of q.base q.slots ≡ (λ s. over (fill_in (inbox_of x.inbox) (cells (ack_of t i ns) s)) (queue_of x.queue.base x.queue.slots s))
  slots_is = ap (λ b. queue_of b q.slots) eb ∙ es

  pub code_rises : all_unknown (model x).queue (suc ns.count) t ≡ true → ((s : ℕ) → lows_of x.inbox s ≡ low_of x.queue s) → (s : ℕ) → lows_of x.inbox s ≤ table_of l s
  unfolding low
  code_rises free lows s =
      let f : all_unknown (model x).queue (suc (size (ack_of t i ns))) t ≡ true = ap (λ n. all_unknown (model x).queue (suc n) t) (length-names_of ns) ∙ free in
      let g : low (model x) s ≤ table_of l s = placed_grows (model x) (ack_of t i ns) q.base (queue_of q.base q.slots) (table_of q.gone) (table_of l) eb slots_is (ap table_of eg) el f s in
      let e = lows s in
      omega arith

  -- low, once it is raised
  pub code_low : all_unknown (model x).queue (suc ns.count) t ≡ true → (s : ℕ) → max (lows_of x.inbox s) (table_of l s) ≡ low_of q s
  code_low free s = let g = code_rises free x.lows s in let e = el s in omega arith

  pub code_placed : (p : Pending) → p ≡ (λ s k. cond (leb k (table_of l s)) None (cond (numbered_in s k (names_of ns)) None (inbox_of x.inbox s k)))
      → record { me = x.me; made = x.made; base = q.base; queue = queue_of q.base q.slots; gone = table_of q.gone; pending = p; due = x.due; ticks = 0; tries = 0 } ≡ place (model x) (ack_of t i ns)
  code_placed p ep = placed_is (model x) (ack_of t i ns) q.base (queue_of q.base q.slots) (table_of q.gone) (table_of l) eb slots_is (ap table_of eg) el p ep

  pub code_ends : t + ns.count ≤ 1000000 → Ends x.queue → Ends q
  code_ends r en u l =
      ap (λ (v : Queue). known (v u)) slots_is
      ∙ (ap (λ (v : Slot). known (over (fill_in (inbox_of x.inbox) v) (queue_of x.queue.base x.queue.slots u))) (cells_above (ack_of t i ns) u (omega (arith, length-names_of ns))) ∙ en u l)

  pub code_passed : all_unknown (model x).queue (suc ns.count) t ≡ true → (d : ℕ) → Passed x.queue d → Passed q d
  code_passed free d p u a b =
      let f : all_unknown (model x).queue (suc (size (ack_of t i ns))) t ≡ true = ap (λ n. all_unknown (model x).queue (suc n) t) (length-names_of ns) ∙ free in
      let y = p u (omega (arith, eb)) b in
      ap (λ (v : Queue). known (v u)) slots_is ∙ (ap known (laid_keeps (model x).queue (inbox_of x.inbox) (ack_of t i ns) u f y) ∙ y)

  own_over : (g k : ℕ) (p : Pending) (y z : Slot) → raise g (named y) k ≡ k → raise g (named z) k ≡ k → raise g (named (over (fill_in p y) z)) k ≡ k
  own_over g k p unknown z e f = f
  own_over g k p (ack j ms) z e f = e
  own_over g k p (bare w) z e f = go (p w.source w.number)
    where
      go : (o : Option Kept) → raise g (named (over (filled_by w o) z)) k ≡ k
      go None = e
      go (Some r) = e
  own_over g k p (whole m) z e f = e

  pub code_own : (g k : ℕ) → OwnAck g k (ack_of t i ns) → Own g k x.queue → Own g k q
  code_own g k a o = (
    λ u. ap (λ (v : Queue). raise g (named (v u)) k) slots_is ∙ own_over g k (inbox_of x.inbox) (cells (ack_of t i ns) u) (queue_of x.queue.base x.queue.slots u) (a u) (o.0 u),
    subst (λ (gs : List ℕ). table_of gs g ≤ k) (sym eg) o.1,
  )
