-- Giving up.
use Rattle.std.proofs.Common.{◌≡◌, ℕ, suc, ◌+◌, ◌-◌, ◌<◌, ◌≤◌, Bool, true, false, cond, ◌&&◌, ltb, leb, List, length, take, Some, None, sym, refl, ap, ◌∙◌, arith}
use Rattle.std.specs.Bool.{then_some}
use Rattle.std.proofs.lemmas.List.{get_or-take, length-take-le}
use Rattle.std.proofs.lemmas.Bool.{lt-ltb, le-ltb, lt-leb, cond-false}
use Rattle.frames.specs.declared.table.Table.{Table}
use Rattle.frames.specs.declared.types.Name.{Name as CName}
use Rattle.frames.specs.Types.{names_of}
use Rattle.head.specs.Slots.{Slot, unknown, ack, bare, whole, known, named}
use Rattle.head.specs.Queue.{Queue, acks, highest, raise}
use Rattle.head.specs.Head.{Head}
use Rattle.head.specs.Upkeep.{ready, give_up_one}
use Rattle.store.specs.declared.types.Slot.{Slot as CSlot}
use Rattle.store.specs.declared.types.Slot.TheVariants.{Unknown, Ack as CAck, Data}
use Rattle.store.specs.declared.types.Queue.{Queue as CQueue}
use Rattle.store.specs.Parts.{slot_of, queue_of, table_of, low_of, part, Passed, Ends, Own}
use Rattle.frames.proofs.Naming.{length-names_of}
use Rattle.store.proofs.View.{queue_in, queue_past}
use Rattle.store.proofs.Walks.{highest_same, highest_forward, highest_cap}

module _ (n due : ℕ) (x : CQueue) (h : Head) where
  pub ready_ack : (i : ℕ) (ns : Table CName 4) → n < acks (queue_of x.base x.slots) 96 x.base → ready n (part h due x) (ack i (names_of ns)) ≡ then_some (ltb (x.base + ns.count) due) ns.count
  ready_ack i ns m =
      ap (λ l. cond (ltb n (acks (queue_of x.base x.slots) 96 x.base) && ltb (x.base + l) due) (Some l) None) (length-names_of ns)
      ∙ (ap (λ t. cond (t && ltb (x.base + ns.count) due) (Some ns.count) None) (lt-ltb n (acks (queue_of x.base x.slots) 96 x.base) m) ∙ go (ltb (x.base + ns.count) due))
    where
      go : (b : Bool) → cond b (Some ns.count) None ≡ then_some b ns.count
      go true = refl
      go false = refl

  pub ready_few : (s : Slot) → acks (queue_of x.base x.slots) 96 x.base ≤ n → ready n (part h due x) s ≡ None
  ready_few unknown m = refl
  ready_few (ack i ns) m = ap (λ t. cond (t && ltb (x.base + length ns) due) (Some (length ns)) None) (le-ltb n (acks (queue_of x.base x.slots) 96 x.base) m)
  ready_few (bare y) m = refl
  ready_few (whole y) m = refl

  pub ready_rest : (s : CSlot) → ((i : ℕ) (ns : Table CName 4) → s ≡ CAck i ns → ⊥) → ready n (part h due x) (slot_of s) ≡ None
  ready_rest Unknown e = refl
  ready_rest (CAck i ns) e = absurd (e i ns refl)
  ready_rest (Data y None) e = refl
  ready_rest (Data y (Some b)) e = refl

-- what a queue is once its front is given up
pub record Forward (x y : CQueue) (m : ℕ) : Type 0 where
  pub base : y.base ≡ suc (x.base + m)
  pub slots : queue_of y.base y.slots ≡ (λ s. cond (leb s (x.base + m)) unknown (queue_of x.base x.slots s))
  pub gone : table_of y.gone ≡ (λ s. highest (queue_of x.base x.slots) s (suc m) x.base (table_of x.gone s))

module _ (x y : CQueue) (m : ℕ) (f : Forward x y m) where
  pub forward_is : (h : Head) (due : ℕ) → part h due y ≡ give_up_one (part h due x) m
  unfolding give_up_one
  forward_is h due = λ j. record { me = h.me; made = h.made; base = f.base j; queue = f.slots j; gone = f.gone j; pending = h.pending; due = due; ticks = h.ticks; tries = h.tries }

  above : (u : ℕ) → x.base + m < u → queue_of y.base y.slots u ≡ queue_of x.base x.slots u
  above u l = ap (λ (q : Queue). q u) f.slots ∙ cond-false (leb u (x.base + m)) unknown (queue_of x.base x.slots u) (lt-leb u (x.base + m) l)

  pub forward_passed : (d : ℕ) → Passed x d → Passed y d
  forward_passed d p u a b = ap known (above u (omega (arith, f.base))) ∙ p u (omega (arith, f.base)) b

  pub forward_ends : Ends x → Ends y
  forward_ends en u l = ap (λ (q : Queue). known (q u)) f.slots ∙ go (leb u (x.base + m)) (queue_of x.base x.slots u) (en u l)
    where
      go : (b : Bool) (s : Slot) → known s ≡ false → known (cond b unknown s) ≡ false
      go true s e = refl
      go false s e = e

  pub forward_own : (g k : ℕ) → Own g k x → Own g k y
  forward_own g k o = (
    λ u. ap (λ (q : Queue). raise g (named (q u)) k) f.slots ∙ go (leb u (x.base + m)) (queue_of x.base x.slots u) (o.0 u),
    omega (arith, ap (λ (t : ℕ → ℕ). t g) f.gone, highest_cap (queue_of x.base x.slots) g (suc m) x.base (table_of x.gone g) k o.0 o.1),
  )
    where
      go : (b : Bool) (s : Slot) → raise g (named s) k ≡ k → raise g (named (cond b unknown s)) k ≡ k
      go true s e = refl
      go false s e = e

-- the front alone has the same names
pub front_same : (b : ℕ) (ss : List CSlot) (k s g : ℕ) → k ≤ length ss → highest (queue_of b (take k ss)) s (length (take k ss)) b g ≡ highest (queue_of b ss) s k b g
front_same b ss k s g h =
    let l : length (take k ss) ≡ k = length-take-le k ss h in
    ap (λ n. highest (queue_of b (take k ss)) s n b g) l
    ∙ highest_same (queue_of b (take k ss)) (queue_of b ss) s k b g (λ u x y.
    let e : queue_of b (take k ss) u ≡ queue_of b ss u = queue_in b (take k ss) u (u - b) (omega arith) ∙ (ap slot_of (get_or-take k ss (u - b) Unknown (omega arith)) ∙ sym (queue_in b ss u (u - b) (omega arith))) in
    (ap known e, ap named e))

-- giving up a known front leaves low
pub forward_low : (x y : CQueue) (m : ℕ) → Forward x y m → m < 96 → Passed x (suc (x.base + m)) → (s : ℕ) → low_of y s ≡ low_of x s
forward_low x y m f l p s =
    (λ j. highest (queue_of y.base y.slots) s 96 (f.base j) (f.gone j s))
    ∙ highest_forward (queue_of x.base x.slots) (queue_of y.base y.slots) s m x.base (table_of x.gone s) l p (λ u a. let e = x.places in ap known (queue_past x.base x.slots u (omega arith)))
    (above x y m f)
