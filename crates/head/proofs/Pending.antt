-- What is pending after a message was kept, and after an ACK was placed.
use Rattle.std.proofs.Common.{◌≡◌, ℕ, Bool, true, false, cond, ◌&&◌, eqb, leb, ◌⊎◌, Some, None, Option, sym, refl, ap, ◌∙◌, inl, inr, arith}
use Rattle.std.proofs.lemmas.Bool.{cases_Bool, cond-true, cond-false, eq-eqb, eqb-true, and_parts, and_from, le-leb, lt-leb}
use Rattle.frames.specs.Values.{Ack, Message}
use Rattle.head.specs.Head.{Head, Kept, keep, low, numbered_in, place, set_slots, sweep}
use Rattle.head.specs.Leaves.{LeftBy, WithOne}
use Rattle.head.specs.Ranges.{kept_message}
use Rattle.head.proofs.Slots.{some_same}

-- the message is there, and the others as they were
pub keep_one : (x : Head) (m : Message) → WithOne x.pending m (keep x m).pending
unfolding keep
keep_one x m = record {
  there = cond-true _ (Some (record { level = m.name.level; body = m.body })) (x.pending m.name.source m.name.number) (and_from _ _ (eq-eqb m.name.source m.name.source refl) (eq-eqb m.name.number m.name.number refl));
  others = λ s k f. elim (cases_Bool (eqb s m.name.source && eqb k m.name.number)) [
    | inl o ↦ let p : (eqb s m.name.source ≡ true) × (eqb k m.name.number ≡ true) = and_parts (eqb s m.name.source) (eqb k m.name.number) o in absurd (f (eqb-true s m.name.source p.0, eqb-true k m.name.number p.1))
    | inr o ↦ cond-false (eqb s m.name.source && eqb k m.name.number) (Some (record { level = m.name.level; body = m.body })) (x.pending s k) o
  ];
}

-- it is the message, or was pending before
pub keep_pending : (x : Head) (m : Message) (s k : ℕ) (p : Kept) → (keep x m).pending s k ≡ Some p → (m ≡ kept_message s k p) ⊎ (x.pending s k ≡ Some p)
unfolding keep
keep_pending x m s k p e =
    elim (cases_Bool (eqb s m.name.source && eqb k m.name.number)) [
      | inl o ↦
          let q : (eqb s m.name.source ≡ true) × (eqb k m.name.number ≡ true) = and_parts (eqb s m.name.source) (eqb k m.name.number) o in
          let a : s ≡ m.name.source = eqb-true s m.name.source q.0 in
          let b : k ≡ m.name.number = eqb-true k m.name.number q.1 in
          let kp : Kept = record { level = m.name.level; body = m.body } in
          let c : Some p ≡ Some kp = sym e ∙ cond-true (eqb s m.name.source && eqb k m.name.number) (Some kp) (x.pending s k) o in
          let d : p ≡ kp = some_same c in
          inl (sym (λ j. kept_message (a j) (b j) (d j)))
      | inr o ↦ inr (sym (cond-false (eqb s m.name.source && eqb k m.name.number) (Some (record { level = m.name.level; body = m.body })) (x.pending s k) o) ∙ e)
    ]

none_either_way : (b : Bool) → ◌≡◌ {A = Option Kept} (cond b None None) None
none_either_way true = refl
none_either_way false = refl

-- placing only takes away
pub place_left : (x : Head) (a : Ack) → LeftBy x a (place x a).queue (place x a).pending
unfolding place sweep set_slots low
place_left x a = record {
  leave = λ s k o. elim o [
    | inl e ↦ ap (cond (leb k (low (set_slots x a) s)) None) (cond-true (numbered_in s k a.names) None (x.pending s k) e) ∙ none_either_way (leb k (low (set_slots x a) s))
    | inr l ↦ cond-true (leb k (low (set_slots x a) s)) None (cond (numbered_in s k a.names) None (x.pending s k)) (le-leb k (low (set_slots x a) s) l)
  ];
  others = λ s k e l. cond-false (leb k (low (set_slots x a) s)) None (cond (numbered_in s k a.names) None (x.pending s k)) (lt-leb k (low (set_slots x a) s) l) ∙ cond-false (numbered_in s k a.names) None (x.pending s k) e;
}

unless : (b : Bool) (k : Option Kept) (p : Kept) → cond b None k ≡ Some p → k ≡ Some p
unless true k p e = let z : ◌≡◌ {A = ℕ} 0 1 = cc e in absurd (omega arith)
unless false k p e = e

pub place_pending : (x : Head) (a : Ack) (s k : ℕ) (p : Kept) → (place x a).pending s k ≡ Some p → x.pending s k ≡ Some p
unfolding place sweep set_slots
place_pending x a s k p e = unless (numbered_in s k a.names) (x.pending s k) p (unless (leb k (low (set_slots x a) s)) (cond (numbered_in s k a.names) None (x.pending s k)) p e)
