-- A head in order stays so through every call.
use Rattle.std.proofs.Common.{◌≡◌, ℕ, suc, min, true, List, sym, refl, ap, ◌∙◌, subst, inl, inr, arith}
use Rattle.std.proofs.lemmas.Bool.{cases_lt, cases_eq}
use Rattle.frames.specs.Values.{Ack, Message}
use Rattle.head.specs.Answers.{Done}
use Rattle.head.specs.Deliver.{deliver}
use Rattle.head.specs.Head.{Head, Pending, fresh, with_clock, with_due, with_made, with_pending, with_queue}
use Rattle.head.specs.Hear.{hear}
use Rattle.head.specs.Leaves.{StaysInOrder, InOrder, with_placed, FilledAt, Places, ComeTo, SubmitLeaves, HearLeaves, TurnLeaves, TickLeaves, DeliverLeaves}
use Rattle.head.specs.Queue.{Queue}
use Rattle.head.specs.Slots.{full, whole}
use Rattle.head.specs.Submit.{submit}
use Rattle.head.specs.Tick.{tick}
use Rattle.head.specs.Turn.{turn}
use Rattle.head.specs.Upkeep.{settled}
use Rattle.head.proofs.Placing.{known_stays}
use Rattle.head.proofs.Settled.{settled_leaves, upkeep_in_order}
use Rattle.head.proofs.Slots.{ack_full, full_known}
use Rattle.head.proofs.Leaves.{deliver_leaves, head_of, hear_leaves, submit_leaves, tick_leaves, turn_leaves}

-- through each change

module _ (n : ℕ) (x : Head) (i : InOrder x) where
  placed_in_order : (a : Ack) (q : Queue) (p : Pending) → Places x a q p → InOrder (with_placed x q p)
  placed_in_order a q p f = record {
    full_to_due = λ u b c. let e : full (x.queue u) ≡ true = i.full_to_due u b c in ap full (known_stays x a q f.placed_at u (full_known (x.queue u) e)) ∙ e;
    none_past = λ u b. f.placed_at.others u (inr (omega (arith, f.placed_at.in_queue))) ∙ i.none_past u b;
  }

  filled_in_order : (t : ℕ) (m : Message) (q : Queue) → FilledAt x t m q → InOrder (with_clock (with_queue x q) 0 0)
  filled_in_order t m q f = record {
    full_to_due = λ u a b. elim (cases_eq u t) [ inl e ↦ ap full (ap q e ∙ f.is_whole) | inr e ↦ ap full (f.others u e) ∙ i.full_to_due u a b ];
    none_past = λ u a. f.others u (λ e. omega (arith, f.in_queue)) ∙ i.none_past u a;
  }

  come_in_order : (t : ℕ) → ComeTo x t → InOrder (with_due x t)
  come_in_order t c = record {
    full_to_due = λ u a b. elim (cases_lt u x.due) [ inl l ↦ i.full_to_due u a l | inr l ↦ ack_full (x.queue u) (c.past_acks u l b) ];
    none_past = i.none_past;
  }

  past_in_order : (t : ℕ) (m : Message) → ComeTo x t → x.queue t ≡ whole m → InOrder (with_due x (suc t))
  past_in_order t m c e = record {
    full_to_due = λ u a b. elim (cases_eq u t) [ inl o ↦ ap full (ap x.queue o ∙ e) | inr o ↦ (come_in_order t c).full_to_due u a (omega arith) ];
    none_past = i.none_past;
  }

  -- and through the upkeep
  ends_in_order : (d : Done) (y : Head) → d.head ≡ settled n y → InOrder y → InOrder d.head
  ends_in_order d y e o = subst InOrder (sym e) (upkeep_in_order y (settled n y) (settled_leaves 96 n y) o)

  submit_in_order : (l : ℕ) (b : List ℕ) (d : Done) → SubmitLeaves n l b x d → InOrder d.head
  submit_in_order l b d (SubmitLeaves.refuses e q) = subst InOrder (sym (ap head_of q)) i
  submit_in_order l b d (SubmitLeaves.makes p k o q) = ends_in_order d (with_made (with_pending x p) (suc x.made)) (ap head_of q) (record { full_to_due = i.full_to_due; none_past = i.none_past })

  hear_in_order : (d : Done) → HearLeaves n x d → InOrder d.head
  hear_in_order d (HearLeaves.refuses e q) = subst InOrder (sym (ap head_of q)) i
  hear_in_order d (HearLeaves.stays w m q) = ends_in_order d x (ap head_of q) i
  hear_in_order d (HearLeaves.resends f q) = ends_in_order d x (ap head_of q) i
  hear_in_order d (HearLeaves.keeps m p v w o q) = ends_in_order d (with_pending x p) (ap head_of q) (record { full_to_due = i.full_to_due; none_past = i.none_past })
  hear_in_order d (HearLeaves.fills t m r f q) = ends_in_order d (with_clock (with_queue x r) 0 0) (ap head_of q) (filled_in_order t m r f)
  hear_in_order d (HearLeaves.places a r p o q) = ends_in_order d (with_placed x r p) (ap head_of q) (placed_in_order a r p o)

  turn_in_order : (d : Done) → TurnLeaves n x d → InOrder d.head
  turn_in_order d (TurnLeaves.refuses q) = subst InOrder (sym (ap head_of q)) i
  turn_in_order d (TurnLeaves.stays w m q) = ends_in_order d x (ap head_of q) i
  turn_in_order d (TurnLeaves.orders a r p o q) = ends_in_order d (with_placed x r p) (ap head_of q) (placed_in_order a r p o.places)

  tick_in_order : (d : Done) → TickLeaves n x d → InOrder d.head
  tick_in_order d (TickLeaves.idles l q) = ends_in_order d (with_clock x (suc x.ticks) x.tries) (ap head_of q) (record { full_to_due = i.full_to_due; none_past = i.none_past })
  tick_in_order d (TickLeaves.fires fs q) = ends_in_order d (with_clock x 0 (min 15 (suc x.tries))) (ap head_of q) (record { full_to_due = i.full_to_due; none_past = i.none_past })
  tick_in_order d (TickLeaves.issues a r p fs o q) = ends_in_order d (with_placed x r p) (ap head_of q) (placed_in_order a r p o.places)

  deliver_in_order : (d : Done) → DeliverLeaves n x d → InOrder d.head
  deliver_in_order d (DeliverLeaves.waits t c q) = ends_in_order d (with_due x t) (ap head_of q) (come_in_order t c)
  deliver_in_order d (DeliverLeaves.delivers m t c e q) = ends_in_order d (with_due x (suc t)) (ap head_of q) (past_in_order t m c e)

pub fresh_in_order : (h : ℕ) → InOrder (fresh h)
unfolding fresh
fresh_in_order h = record { full_to_due = λ t a b. absurd (omega arith); none_past = λ t a. refl }

pub stays_in_order : StaysInOrder
stays_in_order = (
  fresh_in_order,
  λ n x i. record {
    submitting = λ l b. submit_in_order n x i l b (submit n l b x) (submit_leaves n x l b);
    hearing = λ t. hear_in_order n x i (hear n t x) (hear_leaves n x t);
    turning = turn_in_order n x i (turn n x) (turn_leaves n x);
    ticking = tick_in_order n x i (tick n x) (tick_leaves n x);
    delivering = deliver_in_order n x i (deliver n x) (deliver_leaves n x);
  },
)
