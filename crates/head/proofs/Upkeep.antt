-- Giving up, one ACK after another.
use Rattle.std.proofs.Common.{◌≡◌, ℕ, suc, ◌+◌, ◌<◌, ◌≤◌, true, ◌&&◌, ltb, leb, List, length, Some, None, sym, refl, ◌∙◌, inl, inr, arith}
use Rattle.std.proofs.lemmas.Bool.{cases_Bool, cond-true, cond-false, and_parts, ltb-true, lt-leb, le-leb}
use Rattle.frames.specs.Values.{Name}
use Rattle.head.specs.Head.{Head}
use Rattle.head.specs.Leaves.{SameCounts}
use Rattle.head.specs.Queue.{acks, highest}
use Rattle.head.specs.Slots.{Slot, ack, bare, unknown, whole}
use Rattle.head.specs.Upkeep.{give_up, give_up_one, ready}

pub give_up-zero : (n : ℕ) (x : Head) → give_up 0 n x ≡ x
unfolding give_up
give_up-zero n x = refl

pub give_up_none : (k n : ℕ) (x : Head) → ready n x (x.queue x.base) ≡ None → give_up (suc k) n x ≡ x
unfolding give_up
give_up_none k n x e = rw (e, give_up)

pub give_up_some : (k n m : ℕ) (x : Head) → ready n x (x.queue x.base) ≡ Some m → give_up (suc k) n x ≡ give_up k n (give_up_one x m)
unfolding give_up
give_up_some k n m x e = rw (e, give_up)

abbrev pub Ready : ℕ → Head → ℕ → Slot → Type 0
Ready n x m s = (o : ℕ) × (ns : List Name) × (s ≡ ack o ns) × (m ≡ length ns) × (n < acks x.queue 96 x.base) × (x.base + length ns < x.due)

pub ready_some : (n m : ℕ) (x : Head) (s : Slot) → ready n x s ≡ Some m → Ready n x m s
ready_some n m x unknown e = let z : ◌≡◌ {A = ℕ} 0 1 = cc in absurd (omega arith)
ready_some n m x (bare y) e = let z : ◌≡◌ {A = ℕ} 0 1 = cc in absurd (omega arith)
ready_some n m x (whole y) e = let z : ◌≡◌ {A = ℕ} 0 1 = cc in absurd (omega arith)
ready_some n m x (ack o ns) e =
    elim (cases_Bool (ltb n (acks x.queue 96 x.base) && ltb (x.base + length ns) x.due)) [
      | inl t ↦
          let p : (ltb n (acks x.queue 96 x.base) ≡ true) × (ltb (x.base + length ns) x.due ≡ true) = and_parts (ltb n (acks x.queue 96 x.base)) (ltb (x.base + length ns) x.due) t in
          let f : Some (length ns) ≡ Some m = sym (cond-true (ltb n (acks x.queue 96 x.base) && ltb (x.base + length ns) x.due) (Some (length ns)) None t) ∙ e in
          let q : m ≡ length ns = cc f in
          (o, ns, refl, q, ltb-true n (acks x.queue 96 x.base) p.0, ltb-true (x.base + length ns) x.due p.1)
      | inr t ↦ let f : None ≡ Some m = sym (cond-false (ltb n (acks x.queue 96 x.base) && ltb (x.base + length ns) x.due) (Some (length ns)) None t) ∙ e in let z : ◌≡◌ {A = ℕ} 0 1 = cc f in absurd (omega arith)
    ]

-- just past what is given up
pub up_base : (x : Head) (m : ℕ) → (give_up_one x m).base ≡ suc (x.base + m)
unfolding give_up_one
up_base x m = refl

-- what is past it stays, and the rest is unknown
pub up_keep : (x : Head) (m s : ℕ) → (give_up_one x m).base ≤ s → (give_up_one x m).queue s ≡ x.queue s
unfolding give_up_one
up_keep x m s b = cond-false (leb s (x.base + m)) unknown (x.queue s) (lt-leb s (x.base + m) (omega arith))

pub up_drop : (x : Head) (m s : ℕ) → s < (give_up_one x m).base → (give_up_one x m).queue s ≡ unknown
unfolding give_up_one
up_drop x m s b = cond-true (leb s (x.base + m)) unknown (x.queue s) (le-leb s (x.base + m) (omega arith))

pub up_gone : (x : Head) (m s : ℕ) → (give_up_one x m).gone s ≡ highest x.queue s (suc m) x.base (x.gone s)
unfolding give_up_one
up_gone x m s = refl

pub up_counts : (x : Head) (m : ℕ) → SameCounts x (give_up_one x m)
unfolding give_up_one
up_counts x m = record { me_same = refl; made_same = refl; due_same = refl }

pub up_rest : (x : Head) (m : ℕ) → ((give_up_one x m).pending ≡ x.pending) × ((give_up_one x m).ticks ≡ x.ticks) × ((give_up_one x m).tries ≡ x.tries)
unfolding give_up_one
up_rest x m = (refl, refl, refl)
