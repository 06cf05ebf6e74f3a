-- deliver
use Rattle.std.proofs.Common.{◌≡◌, ℕ, zero, suc, ◌+◌, ◌-◌, ◌<◌, ◌≤◌, true, not, ◌&&◌, eqb, leb, List, [], ◌∷◌, ◌++◌, map, length, Some, None, Option, sym, refl, ap, ◌∙◌, subst, inl, inr, append-nil, arith}
use mathlib.Core.List.Memᴰ
use mathlib.Core.List.{Memᴰ}
use Rattle.std.proofs.lemmas.Bool.{cases_Bool, cases_lt, both_ways, cond-true, eq-eqb, eqb-false, and_parts, not-true, leb-true}
use Rattle.frames.specs.Bounds.{needs}
use Rattle.frames.specs.Values.{Ack, Message, Name}
use Rattle.links.specs.Meaning.{Waits}
use Rattle.head.specs.Answers.{Done, delivered, done, made_it, waiting}
use Rattle.head.specs.Deliver.{among, deliver, hand_over, holders, holders_from, orderer, others, past_acks, stamp_of}
use Rattle.head.specs.Head.{Head, mark, with_due}
use Rattle.head.specs.Queue.{Queue, first_not, issuers, last_ack, one_if}
use Rattle.head.specs.Slots.{Slot, ack, bare, full, is_ack, known, named, size, unknown, whole}
use Rattle.head.proofs.Names.{issuers_at, listing, listing_join, listing_suc, listing_zero, name_on}
use Rattle.head.proofs.Slots.{ack_full, ack_known, stripped, stripped_ack}
use Rattle.head.proofs.Walk.{IssuedAt, Last, Stops, first_not_stops, last_ack_last}
use Rattle.head.proofs.Ways.{by_bool}
use Rattle.ring.specs.Law.{Apart}
use Rattle.ring.specs.Record.{Delivers, Submitted, deliveries, message_of}
use Rattle.ring.specs.Ring.{Event, delivers}
use Rattle.ring.proofs.Changes.{due_mark, due_moved}
use Rattle.ring.proofs.Conclusion.{mark_inside}
use Rattle.ring.proofs.Invariant.{Counted, HeadInv, Inv, head_later, is_marked, later}
use Rattle.ring.proofs.Log.{apart, tape, top_of}
use Rattle.ring.proofs.Token.{KnownBlock, Logged, ack_logged, known_block}
use Rattle.ring.proofs.Unissued.{Good, Unissued, event_of, silent_counted, silent_sub, silent_told, unissued_settles}

-- the heads that were counted, one by one

pub others_list : (n me : ℕ) (is : List ℕ) → (gs : List ℕ) × Apart me gs × (length gs ≡ others n me is) × ((g : ℕ) → Memᴰ g gs → (g < n) × (among g is ≡ true))
unfolding others
others_list zero me is = ([], tt, refl, λ g m. absurd (Memᴰ.not-nil m))
others_list (suc n) me is =
    let r : (gs : List ℕ) × Apart me gs × (length gs ≡ others n me is) × ((g : ℕ) → Memᴰ g gs → (g < n) × (among g is ≡ true)) = others_list n me is in
    elim (cases_Bool (not (eqb n me) && among n is)) [
      | inl e ↦
          let p : (not (eqb n me) ≡ true) × (among n is ≡ true) = and_parts (not (eqb n me)) (among n is) e in
          (n ∷ r.0, (eqb-false n me (not-true (eqb n me) p.0), (λ k m s. omega (arith, (r.3 k m).0)), r.1), (let f : one_if (not (eqb n me) && among n is) ≡ 1 = ap one_if e in omega (arith, r.2)), λ g m. elim (Memᴰ.cases_cons m) [ inl z ↦ (omega arith, ap (λ (k : ℕ). among k is) z ∙ p.1) | inr z ↦ (omega (arith, (r.3 g z).0), (r.3 g z).1) ])
      | inr e ↦ (r.0, r.1, (let f : one_if (not (eqb n me) && among n is) ≡ 0 = ap one_if e in omega (arith, r.2)), λ g m. (omega (arith, (r.3 g m).0), (r.3 g m).1))
    ]

listing_none : (q : Queue) (k t : ℕ) → ((u : ℕ) → t ≤ u → u < t + k → named (q u) ≡ None) → listing q k t ≡ []
listing_none q zero t h = listing_zero q t
listing_none q (suc k) t h = listing_suc q k t ∙ (ap (λ (x : Option Name). name_on x (listing q k (suc t))) (h t (omega arith) (omega arith)) ∙ listing_none q k (suc t) (λ u a b. h u (omega arith) (omega arith)))

ack_unnamed : (s : Slot) → is_ack s ≡ true → named s ≡ None
ack_unnamed unknown e = refl
ack_unnamed (ack i ns) e = refl
ack_unnamed (bare x) e = let z : ◌≡◌ {A = ℕ} 0 1 = cc in absurd (omega arith)
ack_unnamed (whole m) e = let z : ◌≡◌ {A = ℕ} 0 1 = cc in absurd (omega arith)

map_join : (xs ys : List Message) → map (λ (m : Message). m.name) (xs ++ ys) ≡ map (λ (m : Message). m.name) xs ++ map (λ (m : Message). m.name) ys
map_join [] ys = refl
map_join (x ∷ xs) ys = ap (λ (zs : List Name). x.name ∷ zs) (map_join xs ys)

module _ (n : ℕ) (es : List Event) (l : List Ack) (hs : ℕ → Head) (v : Waits) (two : 2 ≤ n) (i : Inv n es l hs v) (w : ℕ) (b : w < n) where
  next : ℕ
  next = first_not is_ack (hs w).queue ((hs w).base + 96 - (hs w).due) (hs w).due

  here : HeadInv n es l w (hs w)
  here = i.heads w b

  next_stops : Stops is_ack (hs w).queue ((hs w).base + 96 - (hs w).due) (hs w).due next
  unfolding next
  next_stops = first_not_stops is_ack (hs w).queue ((hs w).base + 96 - (hs w).due) (hs w).due

  next_mark : next ≤ mark (hs w)
  next_mark = elim (cases_lt (mark (hs w)) next) [
    | inl o ↦ absurd (both_ways (full ((hs w).queue (mark (hs w)))) (is_marked n es l w (hs w) here).stop (ack_full ((hs w).queue (mark (hs w))) (next_stops.before (mark (hs w)) here.due_to o)))
    | inr o ↦ o
  ]

  positive : 1 ≤ (hs w).due
  positive = omega (arith, here.agrees.positive, here.due_from)

  -- no name between due and the next data slot
  next_listing : listing (tape l) (next - 1) 1 ≡ listing (tape l) ((hs w).due - 1) 1
  next_listing =
      let f : (hs w).due ≤ next = next_stops.from in
      let p : 1 ≤ (hs w).due = positive in
      let sum : next - 1 ≡ ((hs w).due - 1) + (next - (hs w).due) = omega arith in
      let one : 1 + ((hs w).due - 1) ≡ (hs w).due = omega arith in
      let z : listing (tape l) (next - (hs w).due) (hs w).due ≡ [] = listing_none (tape l) (next - (hs w).due) (hs w).due (λ u a c.
      let k : is_ack ((hs w).queue u) ≡ true = next_stops.before u a (omega arith) in
      ack_unnamed (tape l u) (sym (ap is_ack (here.agrees.fits u (omega (arith, here.due_from)) (ack_known ((hs w).queue u) k))) ∙ (stripped_ack ((hs w).queue u) ∙ k))) in
      ap (λ (k : ℕ). listing (tape l) k 1) sum ∙ (listing_join (tape l) ((hs w).due - 1) (next - (hs w).due) 1 ∙ (ap (λ (k : ℕ). listing (tape l) ((hs w).due - 1) 1 ++ listing (tape l) (next - (hs w).due) k) one ∙ (ap (λ (xs : List Name). listing (tape l) ((hs w).due - 1) 1 ++ xs) z ∙ append-nil (listing (tape l) ((hs w).due - 1) 1))))

  wait_unissued : (e : Event) → e.who ≡ w → e.answer ≡ waiting → Unissued n es l hs e (past_acks (hs w))
  unfolding next
  wait_unissued e who ans =
      let s : message_of e.answer ≡ [] = ap message_of ans in
      let eb : e.who < n = omega arith in
      record {
        inv = subst (λ (g : ℕ). HeadInv n (e ∷ es) l g (past_acks (hs w))) (sym who) (due_moved n (e ∷ es) l w next (hs w) next_stops.from next_mark (head_later n e es l w (hs w) here));
        mark_up = omega (arith, due_mark next (hs w), ap (λ (g : ℕ). mark (hs g)) who);
        base_same = ap (λ (g : ℕ). (hs g).base) (sym who);
        made_up = omega (arith, ap (λ (g : ℕ). (hs g).made) who);
        fresh = λ m o. (let f : made_it m.name.number ≡ waiting = sym o.answer ∙ ans in let z : ◌≡◌ {A = ℕ} 0 1 = cc f in absurd (omega arith));
        made_still = λ _. ap (λ (g : ℕ). (hs g).made) (sym who);
        told = ap (map (λ (m : Message). m.name)) (silent_told es e e.who s) ∙ (ap (λ (g : ℕ). map (λ (m : Message). m.name) (deliveries g es)) who ∙ (i.told w b ∙ sym next_listing));
        told_sub = silent_sub n es l hs v i e eb s;
        counted = silent_counted n es l hs v i e eb s;
      }

  wait_good : Good n es l hs w delivers None (done n waiting (past_acks (hs w)) [])
  wait_good =
      let e : Event = event_of n w delivers None (done n waiting (past_acks (hs w)) []) in
      (l, unissued_settles n es l hs v i e b (past_acks (hs w)) two refl (wait_unissued e refl refl), λ f o. absurd (Memᴰ.not-nil o))

  module _ (m : Message) (at : (hs w).queue next ≡ whole m) (enough : needs n m.name.level ≤ holders n (past_acks (hs w)) next) where
    told_done : Done
    told_done = done n (delivered m next) (with_due (past_acks (hs w)) (suc next)) []

    told_event : Event
    told_event = event_of n w delivers None told_done

    from_base : (hs w).base ≤ next
    from_base = omega (arith, here.due_from, next_stops.from)

    below : next < mark (hs w)
    below = elim (cases_lt next (mark (hs w))) [
      | inl o ↦ o
      | inr o ↦ (let s : next ≡ mark (hs w) = omega (arith, next_mark) in absurd (both_ways (full ((hs w).queue next)) (ap (λ (k : ℕ). full ((hs w).queue k)) s ∙ (is_marked n es l w (hs w) here).stop) (ap full at)))
    ]

    on_tape : bare m.name ≡ tape l next
    on_tape = sym (ap stripped at) ∙ here.agrees.fits next from_base (ap known at)

    was_submitted : Submitted m es
    was_submitted = (here.bodies next m from_base at).submitted

    -- an issuer that was counted has its mark past the slot
    past_slot : (a : Ack) → Last (hs w).queue (suc next - (hs w).base) (hs w).base (Some a) → (g : ℕ) → among g (issuers (hs w).queue ((hs w).base + 96 - a.stamp) a.stamp) ≡ true → next < mark (hs g)
    past_slot a q g e =
        let k : (d : Ack) × KnownBlock l (hs w).queue (hs w).base next d = known_block n l (hs w).queue (hs w).base next i.chain here.agrees from_base (ap known at) in
        let d : Ack = k.0 in
        let later' : d.stamp ≤ a.stamp = elim (cases_lt a.stamp d.stamp) [ inl o ↦ absurd (both_ways (is_ack ((hs w).queue d.stamp)) (q.3 d.stamp o (omega (arith, k.1.1, k.1.2))) (ap is_ack k.1.4)) | inr o ↦ o ] in
        let u : IssuedAt (hs w).queue ((hs w).base + 96 - a.stamp) a.stamp g = issuers_at (hs w).queue ((hs w).base + 96 - a.stamp) a.stamp g e in
        let c : (o : Ack) × Logged l u.0 g u.3.0 o = ack_logged n l (hs w).queue (hs w).base u.0 g u.3.0 i.chain here.agrees (omega (arith, q.0, u.1)) u.3.1 in
        let o : Ack = c.0 in
        let mk : o.stamp + size o < mark (hs o.issuer) = (i.issuers o c.1.0).1 in
        let same : mark (hs o.issuer) ≡ mark (hs g) = ap (λ (j : ℕ). mark (hs j)) c.1.2 in
        elim (apart n l d o i.chain k.1.0 c.1.0) [
          | inl z ↦ omega (arith, k.1.3, ap (λ (j : Ack). j.stamp + size j) z)
          | inr z ↦ elim z [ inl y ↦ omega (arith, k.1.3) | inr y ↦ absurd (omega (arith, c.1.1, u.1)) ]
        ]

    Far : Type 0
    Far = (gs : List ℕ) × Apart w gs × (needs n m.name.level ≤ length gs) × ((g : ℕ) → Memᴰ g gs → (g < n) × (next < mark (hs g)))

    far_from : (r : Option Ack) → Last (hs w).queue (suc next - (hs w).base) (hs w).base r → needs n m.name.level ≤ holders_from n (hs w) (stamp_of r) → Far
    unfolding Far
    far_from None q h = ([], tt, h, λ g o. absurd (Memᴰ.not-nil o))
    far_from (Some a) q h =
        let is : List ℕ = issuers (hs w).queue ((hs w).base + 96 - a.stamp) a.stamp in
        let r : (gs : List ℕ) × Apart (hs w).me gs × (length gs ≡ others n (hs w).me is) × ((g : ℕ) → Memᴰ g gs → (g < n) × (among g is ≡ true)) = others_list n (hs w).me is in
        (r.0, subst (λ (g : ℕ). Apart g r.0) here.is_me r.1, omega (arith, r.2), λ g o. ((r.3 g o).0, past_slot a q g (r.3 g o).1))

    far : Far
    unfolding holders orderer next
    far = far_from (last_ack (hs w).queue (suc next - (hs w).base) (hs w).base) (last_ack_last (hs w).queue (suc next - (hs w).base) (hs w).base) enough

    told_counted : (h : ℕ) (k : Message) (t : ℕ) → Delivers h k t told_event → Counted n (told_event ∷ es) l hs h k t
    unfolding told_event told_done Far
    told_counted h k t d =
        let f : delivered m next ≡ delivered k t = d.answer in
        let fm : m ≡ k = cc f in
        let ft : next ≡ t = cc f in
        let mi : mark (hs w) ≤ top_of l = mark_inside n es l w (hs w) i.chain here in
        let base' : Counted n (told_event ∷ es) l hs w m next = record {
          submitted = later was_submitted;
          ordered = ap named (sym on_tape);
          within = omega (arith, below);
          others = far.0;
          apart = far.1;
          enough = far.2;
          hold = far.3;
        } in
        subst (λ (g : ℕ). Counted n (told_event ∷ es) l hs g k t) d.who (subst (λ (j : Message). Counted n (told_event ∷ es) l hs w j t) fm (subst (λ (u : ℕ). Counted n (told_event ∷ es) l hs w m u) ft base'))

    told_listing : listing (tape l) (suc next - 1) 1 ≡ listing (tape l) ((hs w).due - 1) 1 ++ (m.name ∷ [])
    told_listing =
        let p : 1 ≤ next = omega (arith, positive, next_stops.from) in
        let sum : suc next - 1 ≡ (next - 1) + 1 = omega arith in
        let one : 1 + (next - 1) ≡ next = omega arith in
        let last : listing (tape l) 1 next ≡ m.name ∷ [] = listing_suc (tape l) 0 next ∙ (ap (λ (x : Slot). name_on (named x) (listing (tape l) 0 (suc next))) (sym on_tape) ∙ ap (λ (xs : List Name). m.name ∷ xs) (listing_zero (tape l) (suc next))) in
        ap (λ (k : ℕ). listing (tape l) k 1) sum ∙ (listing_join (tape l) (next - 1) 1 1 ∙ (ap (λ (k : ℕ). listing (tape l) (next - 1) 1 ++ listing (tape l) 1 k) one ∙ (ap (λ (xs : List Name). listing (tape l) (next - 1) 1 ++ xs) last ∙ ap (λ (xs : List Name). xs ++ (m.name ∷ [])) next_listing)))

    told_unissued : Unissued n es l hs told_event (with_due (past_acks (hs w)) (suc next))
    unfolding told_event told_done next
    told_unissued = record {
      inv = due_moved n (told_event ∷ es) l w (suc next) (past_acks (hs w)) (omega arith) (omega (arith, below, due_mark next (hs w))) (due_moved n (told_event ∷ es) l w next (hs w) next_stops.from next_mark (head_later n told_event es l w (hs w) here));
      mark_up = omega (arith, due_mark (suc next) (past_acks (hs w)), due_mark next (hs w));
      base_same = refl;
      made_up = omega arith;
      fresh = λ k o. (let f : delivered m next ≡ made_it k.name.number = o.answer in let z : ◌≡◌ {A = ℕ} 0 1 = cc f in absurd (omega arith));
      made_still = λ _. refl;
      told = ap (λ (xs : List Message). map (λ (k : Message). k.name) (deliveries w es ++ xs)) (cond-true (eqb w w) (m ∷ []) [] (eq-eqb w w refl)) ∙ (map_join (deliveries w es) (m ∷ []) ∙ (ap (λ (xs : List Name). xs ++ (m.name ∷ [])) (i.told w b) ∙ sym told_listing));
      told_sub = λ k o. subst (λ (j : Message). Submitted j (told_event ∷ es)) (sym (Memᴰ.eq_of_singleton o)) (later was_submitted);
      counted = told_counted;
    }

    told_good : Good n es l hs w delivers None (done n (delivered m next) (with_due (past_acks (hs w)) (suc next)) [])
    unfolding told_event told_done
    told_good = (l, unissued_settles n es l hs v i told_event b (with_due (past_acks (hs w)) (suc next)) two refl told_unissued, λ f o. absurd (Memᴰ.not-nil o))

  whole_good : (m : Message) → (hs w).queue next ≡ whole m → Good n es l hs w delivers None (hand_over n (past_acks (hs w)) (whole m))
  unfolding next
  whole_good m e = by_bool (Good n es l hs w delivers None) (leb (needs n m.name.level) (holders n (past_acks (hs w)) (past_acks (hs w)).due)) _ _ (λ t. told_good m e (leb-true (needs n m.name.level) (holders n (past_acks (hs w)) next) t)) (λ t. wait_good)

  slot_good : (s : Slot) → (hs w).queue next ≡ s → Good n es l hs w delivers None (hand_over n (past_acks (hs w)) s)
  slot_good unknown e = wait_good
  slot_good (ack o ns) e = wait_good
  slot_good (bare x) e = wait_good
  slot_good (whole m) e = whole_good m e

  pub deliver_good : Good n es l hs w delivers None (deliver n (hs w))
  unfolding deliver next
  deliver_good = slot_good ((hs w).queue next) refl
