-- What the upkeep leaves of a head as it was.
use Rattle.std.proofs.Common.{◌≡◌, ℕ, zero, suc, ◌+◌, ◌-◌, ◌<◌, ◌≤◌, true, Some, None, Option, sym, refl, ap, ◌∙◌, subst, inl, inr, add-suc, arith}
use Rattle.std.proofs.lemmas.Bool.{cases_lt, both_ways}
use Rattle.head.specs.Head.{Head, end, low, mark}
use Rattle.head.specs.Leaves.{InOrder, SameReading, UpkeepLeaves}
use Rattle.head.specs.Queue.{highest}
use Rattle.head.specs.Slots.{full, known, named, unknown}
use Rattle.head.specs.Upkeep.{give_up, give_up_one, ready}
use Rattle.head.proofs.Marks.{IsMark, mark_is, mark_unique}
use Rattle.head.proofs.Names.{highest_split, highest_stop}
use Rattle.head.proofs.Rising.{end_later, highest_from, highest_later}
use Rattle.head.proofs.Slots.{full_known}
use Rattle.head.proofs.Upkeep.{Ready, give_up_none, give_up_some, give_up-zero, ready_some, up_base, up_counts, up_drop, up_gone, up_keep, up_rest}
use Rattle.head.proofs.Walk.{Ends, past_last_ends}

-- a head in order stays so
pub upkeep_in_order : (x y : Head) → UpkeepLeaves x y → InOrder x → InOrder y
upkeep_in_order x y l o = record {
  full_to_due = λ t a b. ap full (l.slots_same t a) ∙ o.full_to_due t (omega (arith, l.base_rises)) (omega (arith, l.counts_same.due_same));
  none_past = λ t a. l.slots_same t (omega arith) ∙ o.none_past t (omega (arith, l.base_rises));
}

-- one ACK and its data slots are given up

module _ (x : Head) (m : ℕ) (past : x.base + m < x.due) (o : InOrder x) where
  up_known : (t : ℕ) → x.base ≤ t → t < (give_up_one x m).base → full (x.queue t) ≡ true
  up_known t a b = o.full_to_due t a (omega (arith, up_base x m))

  up_past : (t : ℕ) → (give_up_one x m).base + 96 ≤ t → (give_up_one x m).queue t ≡ unknown
  up_past t a = up_keep x m t (omega arith) ∙ o.none_past t (omega (arith, up_base x m))

  up_mark : mark (give_up_one x m) ≡ mark x
  up_mark =
      let j : IsMark (give_up_one x m).queue (give_up_one x m).base (mark (give_up_one x m)) = mark_is (give_up_one x m) up_past in
      mark_unique x.queue x.base (mark (give_up_one x m)) (mark x) (record {
        from = omega (arith, up_base x m, j.from);
        all = λ u a b. elim (cases_lt u (give_up_one x m).base) [
          | inl l ↦ up_known u a l
          | inr l ↦ sym (ap full (up_keep x m u l)) ∙ j.all u l b
        ];
        stop = sym (ap full (up_keep x m (mark (give_up_one x m)) j.from)) ∙ j.stop;
      }) (mark_is x o.none_past)

  -- a known stamp is below end
  below_end : (t : ℕ) → x.base ≤ t → known (x.queue t) ≡ true → t < end x
  unfolding end
  below_end t a k =
      let i : Ends known x.queue 96 x.base (end x) = past_last_ends known x.queue 96 x.base in
      elim (cases_lt t (end x)) [
        | inl l ↦ l
        | inr l ↦ elim (cases_lt t (x.base + 96)) [
          | inl b ↦ absurd (both_ways (known (x.queue t)) (i.beyond t l b) k)
          | inr b ↦ absurd (both_ways (known (x.queue t)) (ap known (o.none_past t b)) k)
        ]
      ]

  end_least : end (give_up_one x m) ≤ end x
  unfolding end
  end_least =
      let j : Ends known (give_up_one x m).queue 96 (give_up_one x m).base (end (give_up_one x m)) = past_last_ends known (give_up_one x m).queue 96 (give_up_one x m).base in
      let last : ℕ = x.base + m in
      elim j.last [
        | inl e ↦ omega (arith, up_base x m, below_end (x.base + m) (omega arith) (full_known (x.queue (x.base + m)) (up_known (x.base + m) (omega arith) (omega (arith, up_base x m)))))
        | inr d ↦ omega (arith, d.1, below_end d.0 (omega (arith, up_base x m, d.2)) (sym (ap known (up_keep x m d.0 d.2)) ∙ d.3))
      ]

  up_end : end (give_up_one x m) ≡ end x
  unfolding end
  up_end = omega (arith, end_least, end_later x.queue (give_up_one x m).queue x.base (give_up_one x m).base (omega (arith, up_base x m)) (λ u a e. ap known (up_keep x m u a) ∙ e))

  -- all of it lies in the queue
  up_few : m < 96
  up_few = elim (cases_lt m 96) [
    | inl l ↦ l
    | inr l ↦ absurd (both_ways (full (x.queue (x.base + m))) (ap full (o.none_past (x.base + m) (omega arith))) (up_known (x.base + m) (omega arith) (omega (arith, up_base x m))))
  ]

  up_low : (s : ℕ) → low (give_up_one x m) s ≡ low x s
  unfolding low
  up_low s =
      let g : ℕ = (give_up_one x m).gone s in
      let rest : suc m + (95 - m) ≡ 96 = omega (arith, up_few) in
      let whole : (95 - m) + suc m ≡ 96 = omega (arith, up_few) in
      let at : x.base + suc m + (95 - m) ≡ x.base + 96 = omega (arith, up_few) in
      let e1 : highest x.queue s 96 x.base (x.gone s) ≡ highest x.queue s (95 - m) (x.base + suc m) ((give_up_one x m).gone s) = ap (λ (k : ℕ). highest x.queue s k x.base (x.gone s)) (sym rest) ∙ (highest_split x.queue s (suc m) (95 - m) x.base (x.gone s) (λ u a b. full_known (x.queue u) (up_known u a (omega (arith, up_base x m)))) ∙ ap (highest x.queue s (95 - m) (x.base + suc m)) (sym (up_gone x m s))) in
      let e2 : highest x.queue s 96 (x.base + suc m) ((give_up_one x m).gone s) ≡ highest x.queue s (95 - m) (x.base + suc m) ((give_up_one x m).gone s) = ap (λ (k : ℕ). highest x.queue s k (x.base + suc m) ((give_up_one x m).gone s)) (sym whole) ∙ highest_stop x.queue s (95 - m) (suc m) (x.base + suc m) ((give_up_one x m).gone s) (ap known (ap x.queue at ∙ o.none_past (x.base + 96) (omega arith))) in
      let e3 : x.base + suc m ≡ (give_up_one x m).base = add-suc x.base m ∙ sym (up_base x m) in
      let e4 : highest x.queue s 96 (give_up_one x m).base ((give_up_one x m).gone s) ≡ highest x.queue s 96 x.base (x.gone s) = ap (λ (k : ℕ). highest x.queue s 96 k ((give_up_one x m).gone s)) (sym e3) ∙ (e2 ∙ sym e1) in
      omega (arith, highest_later x.queue (give_up_one x m).queue s 96 (give_up_one x m).base ((give_up_one x m).gone s) ((give_up_one x m).gone s) (λ u a k. (ap known (up_keep x m u a) ∙ k, ap named (up_keep x m u a))) (omega arith), highest_later (give_up_one x m).queue x.queue s 96 (give_up_one x m).base ((give_up_one x m).gone s) ((give_up_one x m).gone s) (λ u a k. (sym (ap known (up_keep x m u a)) ∙ k, sym (ap named (up_keep x m u a)))) (omega arith))

up_leaves : (x : Head) (m : ℕ) → x.base + m < x.due → UpkeepLeaves x (give_up_one x m)
up_leaves x m past = record {
  counts_same = up_counts x m;
  pending_same = (up_rest x m).0;
  ticks_same = (up_rest x m).1;
  tries_same = (up_rest x m).2;
  base_rises = omega (arith, up_base x m);
  gone_rises = λ s. omega (arith, up_gone x m s, highest_from x.queue s (suc m) x.base (x.gone s));
  slots_same = up_keep x m;
  given_up = λ t a b. (omega (arith, up_base x m), up_drop x m t b);
  below_base = λ t a. inr (up_drop x m t (omega (arith, up_base x m)));
  reading_same = λ o. record { mark_same = up_mark x m past o; end_same = up_end x m past o; low_same = up_low x m past o };
}

-- one after another

stays_leaves : (x : Head) → UpkeepLeaves x x
stays_leaves x = record {
  counts_same = record { me_same = refl; made_same = refl; due_same = refl };
  pending_same = refl;
  ticks_same = refl;
  tries_same = refl;
  base_rises = omega arith;
  gone_rises = λ s. omega arith;
  slots_same = λ t a. refl;
  given_up = λ t a b. absurd (omega arith);
  below_base = λ t a. inl refl;
  reading_same = λ o. record { mark_same = refl; end_same = refl; low_same = λ s. refl };
}

then_leaves : (x y z : Head) → UpkeepLeaves x y → UpkeepLeaves y z → UpkeepLeaves x z
then_leaves x y z a b = record {
  counts_same = record { me_same = b.counts_same.me_same ∙ a.counts_same.me_same; made_same = b.counts_same.made_same ∙ a.counts_same.made_same; due_same = b.counts_same.due_same ∙ a.counts_same.due_same };
  pending_same = b.pending_same ∙ a.pending_same;
  ticks_same = b.ticks_same ∙ a.ticks_same;
  tries_same = b.tries_same ∙ a.tries_same;
  base_rises = omega (arith, a.base_rises, b.base_rises);
  gone_rises = λ s. omega (arith, a.gone_rises s, b.gone_rises s);
  slots_same = λ t l. b.slots_same t l ∙ a.slots_same t (omega (arith, b.base_rises));
  given_up = λ t l r. elim (cases_lt t y.base) [
    | inl k ↦ ((a.given_up t l k).0, elim (b.below_base t k) [ inl e ↦ e ∙ (a.given_up t l k).1 | inr e ↦ e ])
    | inr k ↦ (omega (arith, (b.given_up t k r).0, a.counts_same.due_same), (b.given_up t k r).1)
  ];
  below_base = λ t l. elim (b.below_base t (omega (arith, a.base_rises))) [
    | inl e ↦ elim (a.below_base t l) [ inl f ↦ inl (e ∙ f) | inr f ↦ inr (e ∙ f) ]
    | inr e ↦ inr e
  ];
  reading_same = λ o.
      let r : SameReading x y = a.reading_same o in
      let q : SameReading y z = b.reading_same (upkeep_in_order x y a o) in
      record { mark_same = q.mark_same ∙ r.mark_same; end_same = q.end_same ∙ r.end_same; low_same = λ s. q.low_same s ∙ r.low_same s };
}

pub settled_leaves : (k n : ℕ) (x : Head) → UpkeepLeaves x (give_up k n x)
settled_leaves zero n x = subst (λ (y : Head). UpkeepLeaves x y) (sym (give_up-zero n x)) (stays_leaves x)
settled_leaves (suc k) n x = go (ready n x (x.queue x.base)) refl (λ y. settled_leaves k n y)
  where
    go : (r : Option ℕ) → ready n x (x.queue x.base) ≡ r → ((y : Head) → UpkeepLeaves y (give_up k n y)) → UpkeepLeaves x (give_up (suc k) n x)
    go None e rec = subst (λ (y : Head). UpkeepLeaves x y) (sym (give_up_none k n x e)) (stays_leaves x)
    go (Some m) e rec =
        let r : Ready n x m (x.queue x.base) = ready_some n m x (x.queue x.base) e in
        subst (λ (y : Head). UpkeepLeaves x y) (sym (give_up_some k n m x e)) (then_leaves x (give_up_one x m) (give_up k n (give_up_one x m)) (up_leaves x m (omega (arith, r.3, r.5))) (rec (give_up_one x m)))
