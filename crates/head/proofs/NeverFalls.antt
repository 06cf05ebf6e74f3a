-- No call takes back what a head has.
use Rattle.std.proofs.Common.{◌≡◌, ℕ, suc, ◌<◌, ◌≤◌, min, leb, List, sym, refl, ap, ◌∙◌, subst, inl, inr, arith}
use Rattle.std.proofs.lemmas.Bool.{cases_eq, and_parts, leb-true}
use Rattle.frames.specs.Values.{Ack, Message}
use Rattle.head.specs.Answers.{Done}
use Rattle.head.specs.Deliver.{deliver}
use Rattle.head.specs.Head.{Head, Pending, with_clock, with_due, with_made, with_pending, with_queue}
use Rattle.head.specs.Hear.{hear}
use Rattle.head.specs.Leaves.{DeliverLeaves, FilledAt, HearLeaves, Places, SubmitLeaves, TickLeaves, TurnLeaves, with_placed}
use Rattle.head.specs.Queue.{Queue}
use Rattle.head.specs.Rising.{Bounded, Later, NeverFalls}
use Rattle.head.specs.Slots.{full, known, named}
use Rattle.head.specs.Submit.{submit}
use Rattle.head.specs.Tick.{tick, wait}
use Rattle.head.specs.Turn.{turn}
use Rattle.head.specs.Upkeep.{settled}
use Rattle.head.proofs.Leaves.{deliver_leaves, head_of, hear_leaves, submit_leaves, tick_leaves, turn_leaves}
use Rattle.head.proofs.Placing.{known_stays}
use Rattle.head.proofs.Rising.{grown_same, later_grown, later_same, later_settled, later_then}
use Rattle.head.proofs.Slots.{full_known}

module _ (x : Head) where
  -- the queue stays

  clock_later : (t r : ℕ) → t < 32 → r ≤ 15 → Later x (with_clock x t r)
  clock_later t r a b = later_grown x (with_clock x t r) refl (omega arith) refl refl (omega arith) (grown_same x.queue) (λ c. record { made_most = c.made_most; ticks_most = a; tries_most = b })

  due_later : (d : ℕ) → x.due ≤ d → Later x (with_due x d)
  due_later d a = later_grown x (with_due x d) refl (omega arith) refl refl a (grown_same x.queue) (λ c. record { made_most = c.made_most; ticks_most = c.ticks_most; tries_most = c.tries_most })

  pending_later : (p : Pending) → Later x (with_pending x p)
  pending_later p = later_grown x (with_pending x p) refl (omega arith) refl refl (omega arith) (grown_same x.queue) (λ c. record { made_most = c.made_most; ticks_most = c.ticks_most; tries_most = c.tries_most })

  made_later : (p : Pending) → suc x.made ≤ 500000 → Later x (with_made (with_pending x p) (suc x.made))
  made_later p a = later_grown x (with_made (with_pending x p) (suc x.made)) refl (omega arith) refl refl (omega arith) (grown_same x.queue) (λ c. record { made_most = a; ticks_most = c.ticks_most; tries_most = c.tries_most })

  -- the queue grows

  restarted : (y : Head) → y.made ≡ x.made → y.ticks ≡ 0 → y.tries ≡ 0 → Bounded x → Bounded y
  restarted y a b c d = record { made_most = omega (arith, d.made_most); ticks_most = omega arith; tries_most = omega arith }

  filled_later : (t : ℕ) (m : Message) (q : Queue) → FilledAt x t m q → Later x (with_clock (with_queue x q) 0 0)
  filled_later t m q f =
      later_grown x (with_clock (with_queue x q) 0 0) refl (omega arith) refl refl (omega arith) (record {
        stays = λ u e. elim (cases_eq u t) [
          | inl o ↦ (ap known (ap q o ∙ f.is_whole), ap named (ap q o ∙ f.is_whole) ∙ sym (ap named (ap x.queue o ∙ f.was_bare)))
          | inr o ↦ (ap known (f.others u o) ∙ e, ap named (f.others u o))
        ];
        fuller = λ u e. elim (cases_eq u t) [ inl o ↦ ap full (ap q o ∙ f.is_whole) | inr o ↦ ap full (f.others u o) ∙ e ];
      }) (restarted (with_clock (with_queue x q) 0 0) refl refl refl)

  placed_later : (a : Ack) (q : Queue) (p : Pending) → Places x a q p → Later x (with_placed x q p)
  placed_later a q p f =
      later_grown x (with_placed x q p) refl (omega arith) refl refl (omega arith) (record {
        stays = λ u e. (ap known (known_stays x a q f.placed_at u e) ∙ e, ap named (known_stays x a q f.placed_at u e));
        fuller = λ u e. ap full (known_stays x a q f.placed_at u (full_known (x.queue u) e)) ∙ e;
      }) (restarted (with_placed x q p) refl refl refl)

module _ (n : ℕ) (x : Head) where
  refused : (d : Done) → d.head ≡ x → Later x d.head
  refused d e = subst (λ (z : Head). Later x z) (sym e) (later_same x)

  settles : (d : Done) (y : Head) → d.head ≡ settled n y → Later x y → Later x d.head
  settles d y e l = subst (λ (z : Head). Later x z) (sym e) (later_then x y (settled n y) l (later_settled 96 n y))

  submit_rises : (l : ℕ) (b : List ℕ) (d : Done) → SubmitLeaves n l b x d → Later x d.head
  submit_rises l b d (SubmitLeaves.refuses e q) = refused d (ap head_of q)
  submit_rises l b d (SubmitLeaves.makes p k o q) = settles d (with_made (with_pending x p) (suc x.made)) (ap head_of q) (made_later x p (leb-true (suc x.made) 500000 (and_parts (leb 1 (suc x.made)) (leb (suc x.made) 500000) k).1))

  hear_rises : (d : Done) → HearLeaves n x d → Later x d.head
  hear_rises d (HearLeaves.refuses e q) = refused d (ap head_of q)
  hear_rises d (HearLeaves.stays w m q) = settles d x (ap head_of q) (later_same x)
  hear_rises d (HearLeaves.resends f q) = settles d x (ap head_of q) (later_same x)
  hear_rises d (HearLeaves.keeps m p v w o q) = settles d (with_pending x p) (ap head_of q) (pending_later x p)
  hear_rises d (HearLeaves.fills t m r f q) = settles d (with_clock (with_queue x r) 0 0) (ap head_of q) (filled_later x t m r f)
  hear_rises d (HearLeaves.places a r p o q) = settles d (with_placed x r p) (ap head_of q) (placed_later x a r p o)

  turn_rises : (d : Done) → TurnLeaves n x d → Later x d.head
  turn_rises d (TurnLeaves.refuses q) = refused d (ap head_of q)
  turn_rises d (TurnLeaves.stays w m q) = settles d x (ap head_of q) (later_same x)
  turn_rises d (TurnLeaves.orders a r p o q) = settles d (with_placed x r p) (ap head_of q) (placed_later x a r p o.places)

  tick_rises : (d : Done) → TickLeaves n x d → Later x d.head
  tick_rises d (TickLeaves.idles l q) = settles d (with_clock x (suc x.ticks) x.tries) (ap head_of q) (idle_later l)
    where
      idle_later : suc x.ticks < wait x.tries → Later x (with_clock x (suc x.ticks) x.tries)
      idle_later h = later_grown x (with_clock x (suc x.ticks) x.tries) refl (omega arith) refl refl (omega arith) (grown_same x.queue) (λ c. record { made_most = c.made_most; ticks_most = omega arith; tries_most = c.tries_most })
  tick_rises d (TickLeaves.fires fs q) = settles d (with_clock x 0 (min 15 (suc x.tries))) (ap head_of q) (clock_later x 0 (min 15 (suc x.tries)) (omega arith) (omega arith))
  tick_rises d (TickLeaves.issues a r p fs o q) = settles d (with_placed x r p) (ap head_of q) (placed_later x a r p o.places)

  deliver_rises : (d : Done) → DeliverLeaves n x d → Later x d.head
  deliver_rises d (DeliverLeaves.waits t c q) = settles d (with_due x t) (ap head_of q) (due_later x t c.from_due)
  deliver_rises d (DeliverLeaves.delivers m t c e q) = settles d (with_due x (suc t)) (ap head_of q) (due_later x (suc t) (omega (arith, c.from_due)))

pub never_falls : NeverFalls
never_falls n h = record {
  submitting = λ l b. submit_rises n h l b (submit n l b h) (submit_leaves n h l b);
  hearing = λ t. hear_rises n h (hear n t h) (hear_leaves n h t);
  turning = turn_rises n h (turn n h) (turn_leaves n h);
  ticking = tick_rises n h (tick n h) (tick_leaves n h);
  delivering = deliver_rises n h (deliver n h) (deliver_leaves n h);
}
