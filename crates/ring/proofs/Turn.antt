-- turn and tick
use Rattle.std.proofs.Common.{◌≡◌, ℕ, zero, suc, ◌+◌, ◌-◌, ◌<◌, ◌≤◌, min, true, false, ◌&&◌, eqb, ltb, List, [], ◌∷◌, ◌++◌, map, length, Some, None, Option, sym, refl, ap, ◌∙◌, subst, inl, inr, arith}
use mathlib.Core.List.Memᴰ
use mathlib.Core.List.{Memᴰ}
use Rattle.std.proofs.lemmas.Bool.{cases_Bool, cases_lt, cases_eq, both_ways, cond-true, cond-false, and_parts, leb-true}
use Rattle.frames.specs.Values.{Ack, Frame, Message, Name, ack_frame, data_frame, nack_frame}
use Rattle.frames.specs.declared.refusal.Refusal.TheVariants.{StampsUsedUp}
use Rattle.links.specs.Meaning.{Waits}
use Rattle.head.specs.Answers.{Answer, Done, done}
use Rattle.head.specs.Head.{Head, Kept, Pending, end, fill_in, filled_by, holds, low, mark, place, room, stamps_left, top, with_clock}
use Rattle.head.specs.Ranges.{kept_message}
use Rattle.head.specs.Slots.{Slot, bare, cells, full, known, named, size}
use Rattle.head.specs.Tick.{asked, busy, fire, fire_ack, lowest_own, own_again, own_message, tick, tick_due, tick_with, wait}
use Rattle.head.specs.Turn.{issue, new_ack, to_order, turn, turn_with}
use Rattle.head.specs.Upkeep.{give_up}
use Rattle.head.proofs.Marks.{IsMark}
use Rattle.head.proofs.Names.{listing, listing_same}
use Rattle.head.proofs.Placing.{place_in, place_same}
use Rattle.head.proofs.Slots.{cells_known, cells_mem, cells_plain}
use Rattle.head.proofs.Walk.{Last, last_ack_last}
use Rattle.head.proofs.Ways.{by_bool}
use Rattle.ring.specs.Record.{Submitted, all_names, deliveries, message_of}
use Rattle.ring.specs.Ring.{Call, Event, put_head, ticks, turns}
use Rattle.ring.proofs.Advance.{Moved, Sourced, put_other, put_same}
use Rattle.ring.proofs.Changes.{Levels, clocked, clocked_mark, place_full, place_mark, places}
use Rattle.ring.proofs.GivingUp.{IssuersBelow, Settled, settle}
use Rattle.ring.proofs.Hear.{logged_mem}
use Rattle.ring.proofs.Invariant.{Grows, HeadInv, Inv, Sane, Turned, grows_one, head_grows, head_later, is_marked, later, past_top}
use Rattle.ring.proofs.Log.{Chain, tape, top_of}
use Rattle.ring.proofs.Numbers.{low_all, turns_join}
use Rattle.ring.proofs.Order.{Gathered, Pends, to_order_is}
use Rattle.ring.proofs.Token.{TurnOf, token}
use Rattle.ring.proofs.Unissued.{Good, answers, event_of, plain, plain_silent, refuses, silent_told, stays}

-- a name that is pending makes a full slot
pends_full : (p : Pending) (y : Name) → Pends p y → full (fill_in p (bare y)) ≡ true
pends_full p y k = ap (λ (r : Option Kept). full (filled_by y r)) k.1

-- own messages are sane
own_sane : (n : ℕ) (es : List Event) (l : List Ack) (h : ℕ) (x : Head) (j k : ℕ) → HeadInv n es l h x → (f : Frame) → Memᴰ f (lowest_own x j k) → Sane es l f
unfolding lowest_own
own_sane n es l h x zero k i f o = absurd (Memᴰ.not-nil o)
own_sane n es l h x (suc j) k i f o = go (x.pending x.me k) refl o (own_sane n es l h x j (suc k) i f)
  where
    go : (r : Option Kept) → x.pending x.me k ≡ r → Memᴰ f (elim r [ None ↦ lowest_own x j (suc k) | Some m ↦ data_frame (record { name = record { source = x.me; number = k; level = m.level }; body = m.body }) ∷ [] ]) → (Memᴰ f (lowest_own x j (suc k)) → Sane es l f) → Sane es l f
    go None e q rec = rec q
    go (Some m) e q rec = subst (λ (g : Frame). Sane es l g) (sym (Memᴰ.eq_of_singleton q)) (i.pends x.me k m e).submitted

module _ (n : ℕ) (es : List Event) (l : List Ack) (hs : ℕ → Head) (v : Waits) (two : 2 ≤ n) (i : Inv n es l hs v) (w : ℕ) (b : w < n) where
  -- a new ACK

  module _ (c : Call) (xs : List Name) (g : Gathered n (hs w) n (hs w).me 4 xs) (tk : TurnOf n l w (hs w)) (rm : end (hs w) + 4 ≤ (hs w).base + 95) (an : Answer) (pl : plain an ≡ true) (fs : List Frame) (sane : (ev : Event) → HeadInv n (ev ∷ es) (new_ack (hs w) xs ∷ l) w (place (hs w) (new_ack (hs w) xs)) → (f : Frame) → Memᴰ f fs → Sane (ev ∷ es) (new_ack (hs w) xs ∷ l) f) where
    a : Ack
    a = new_ack (hs w) xs

    d : Done
    d = issue n (hs w) xs an fs

    e : Event
    e = event_of n w c None d

    here : HeadInv n es l w (hs w)
    here = i.heads w b

    chain' : Chain n (a ∷ l)
    unfolding a
    chain' = (tk.0, here.is_me ∙ tk.2, i.chain)

    a_stamp : a.stamp ≡ top_of l
    unfolding a
    a_stamp = tk.0

    a_few : size a ≤ 4
    unfolding a
    a_few = g.few

    more : Grows n l (a ∷ l)
    more = grows_one n l a chain'

    before : HeadInv n (e ∷ es) (a ∷ l) w (hs w)
    before = head_later n e es (a ∷ l) w (hs w) (head_grows n es l (a ∷ l) w (hs w) i.chain more here)

    from : (hs w).base ≤ a.stamp
    from = omega (arith, a_stamp, here.agrees.inside)

    to : a.stamp + size a ≤ (hs w).base + 95
    to = omega (arith, a_stamp, a_few, tk.0)

    free : (s : ℕ) → a.stamp ≤ s → s ≤ a.stamp + size a → known ((hs w).queue s) ≡ false
    free s x y = ap known (past_top n l (hs w).queue (hs w).base s i.chain here.agrees (omega (arith, a_stamp)))

    pends_all : (s : ℕ) (y : Name) → cells a s ≡ bare y → Pends (hs w).pending y
    unfolding a
    pends_all s y q = g.pends y (cells_mem a s y q)

    levels : Levels (hs w) a
    levels s y p q r =
        let k : Pends (hs w).pending y = pends_all s y q in
        let k1 : (hs w).pending y.source y.number ≡ Some k.0 = k.1 in
        let same : p ≡ k.0 = cc (k1, r) in
        ap (λ (z : Kept). z.level) same ∙ k.2

    y0 : Head
    y0 = place (hs w) a

    y0_inv : HeadInv n (e ∷ es) (a ∷ l) w y0
    unfolding y0
    y0_inv = places n (e ∷ es) (a ∷ l) w (hs w) a chain' before (Memᴰ.head refl) from to free levels

    y0_mark : mark (hs w) ≤ mark y0
    unfolding y0
    y0_mark = place_mark n (e ∷ es) (a ∷ l) w (hs w) a chain' before (Memᴰ.head refl) from to free levels

    block_full : (s : ℕ) → known (cells a s) ≡ true → full (fill_in (hs w).pending (cells a s)) ≡ true
    block_full s k = elim (cells_plain a s) [
      | inl o ↦ absurd (both_ways (known (cells a s)) (ap known o) k)
      | inr o ↦ elim o [
        | inl q ↦ ap (λ (z : Slot). full (fill_in (hs w).pending z)) q
        | inr q ↦ ap (λ (z : Slot). full (fill_in (hs w).pending z)) q.1 ∙ pends_full (hs w).pending q.0 (pends_all s q.0 q.1)
      ]
    ]

    all_full : (s : ℕ) → (hs w).base ≤ s → s ≤ a.stamp + size a → full (y0.queue s) ≡ true
    unfolding y0
    all_full s p q = elim (cases_lt s a.stamp) [
      | inl o ↦ place_full n (e ∷ es) (a ∷ l) w (hs w) a chain' before (Memᴰ.head refl) from to free levels s ((is_marked n es l w (hs w) here).all s p (omega (arith, a_stamp, tk.1)))
      | inr o ↦ (let k : known (cells a s) ≡ true = cells_known a s o q in ap full (place_in (hs w) a s k) ∙ block_full s k)
    ]

    y0_base : y0.base ≡ (hs w).base
    unfolding y0
    y0_base = (place_same (hs w) a).0

    y0_due : y0.due ≡ (hs w).due
    unfolding y0
    y0_due = (place_same (hs w) a).1

    y0_made : y0.made ≡ (hs w).made
    unfolding y0
    y0_made = (place_same (hs w) a).2

    -- the issuer is full up to its new ACK
    full_up : a.stamp + size a < mark y0
    full_up = elim (cases_lt (a.stamp + size a) (mark y0)) [
      | inl o ↦ o
      | inr o ↦ (let m : IsMark y0.queue y0.base (mark y0) = is_marked n (e ∷ es) (a ∷ l) w y0 y0_inv in absurd (both_ways (full (y0.queue (mark y0))) m.stop (all_full (mark y0) (omega (arith, m.from, y0_base)) o)))
    ]

    M : ℕ → ℕ
    M h = mark (put_head hs w y0 h)

    MUp : (h : ℕ) → mark (hs h) ≤ M h
    unfolding M
    MUp h = elim (cases_eq h w) [
      | inl z ↦ omega (arith, y0_mark, ap mark (put_same hs w y0 h z), ap (λ (j : ℕ). mark (hs j)) z)
      | inr z ↦ omega (arith, ap mark (put_other hs w y0 h z))
    ]

    a_issuer : a.issuer ≡ w
    unfolding a
    a_issuer = here.is_me

    MIssuers : IssuersBelow (a ∷ l) M
    unfolding M
    MIssuers k m = elim (Memᴰ.cases_cons m) [
      | inl z ↦ omega (arith, full_up, ap (λ (j : Ack). j.stamp + size j) z, ap mark (put_same hs w y0 k.issuer (ap (λ (j : Ack). j.issuer) z ∙ a_issuer)))
      | inr z ↦ omega (arith, (i.issuers k z).1, MUp k.issuer)
    ]

    s : Settled n (e ∷ es) (a ∷ l) w M y0 (give_up 96 n y0)
    s = settle 96 n (e ∷ es) (a ∷ l) w M y0 two chain' y0_inv MIssuers (λ h c'. omega (arith, y0_base, i.bases w h b c', MUp h))

    y : Head
    y = give_up 96 n y0

    s_bases : (h : ℕ) → h < n → y.base ≤ mark (put_head hs w y h)
    unfolding y M
    s_bases h c' = elim (cases_eq h w) [
      | inl z ↦ omega (arith, s.bases h c', s.mark_up, ap mark (put_same hs w y0 h z), ap mark (put_same hs w (give_up 96 n y0) h z))
      | inr z ↦ omega (arith, s.bases h c', ap mark (put_other hs w y0 h z), ap mark (put_other hs w (give_up 96 n y0) h z))
    ]

    s_mark : (mark (hs w) ≤ mark y) × (a.stamp + size a < mark y)
    unfolding y
    s_mark = (omega (arith, y0_mark, s.mark_up), omega (arith, full_up, s.mark_up))

    s_due : y.due ≡ (hs w).due
    unfolding y
    s_due = s.due_same ∙ y0_due

    s_made : y.made ≡ (hs w).made
    unfolding y
    s_made = s.made_same ∙ y0_made

    new_turned : Turned (all_names (a ∷ l))
    unfolding a
    new_turned = turns_join [] (all_names l) xs i.turned (g.turns (all_names l) (λ t c' o. sym (low_all n l i.chain i.turned es w (hs w) t here tk.1)))

    new_sources : Sourced (e ∷ es) (all_names (a ∷ l))
    unfolding a
    new_sources z o = elim (Memᴰ.append_cases (all_names l) o) [
      | inl q ↦ (let r : (m : Message) × (m.name ≡ z) × Submitted m es = i.sources z q in (r.0, r.1, later r.2))
      | inr q ↦
          let k : Pends (hs w).pending z = g.pends z q in
          let lv : k.0.level ≡ z.level = k.2 in
          (kept_message z.source z.number k.0, (λ j. record { source = z.source; number = z.number; level = lv j }), later (here.pends z.source z.number k.0 k.1).submitted)
    ]

    quiet' : message_of e.answer ≡ []
    unfolding e d
    quiet' = plain_silent an pl

    plain' : plain e.answer ≡ true
    unfolding e d
    plain' = pl

    e_who : e.who ≡ w
    unfolding e
    e_who = refl

    new_told : map (λ (m : Message). m.name) (deliveries w (e ∷ es)) ≡ listing (tape (a ∷ l)) (y.due - 1) 1
    new_told = ap (map (λ (m : Message). m.name)) (silent_told es e w quiet') ∙ (i.told w b ∙ (sym (listing_same (tape (a ∷ l)) (tape l) ((hs w).due - 1) 1 (λ u p q. ap named (more.same u (omega (arith, here.due_to, tk.1))))) ∙ ap (λ (k : ℕ). listing (tape (a ∷ l)) (k - 1) 1) (sym s_due)))

    moved : Moved n es l hs e (a ∷ l) y
    unfolding e d a y
    moved = record {
      grows = more;
      same = ap (λ (k : List Ack). a ∷ k) i.same;
      turned = new_turned;
      sources = new_sources;
      inv = s.inv;
      mark_up = s_mark.0;
      bases = s_bases;
      issuers = λ k m. elim (Memᴰ.cases_cons m) [ inl z ↦ inr (ap (λ (j : Ack). j.issuer) z ∙ a_issuer, omega (arith, s_mark.1, ap (λ (j : Ack). j.stamp + size j) z)) | inr z ↦ inl z ];
      made_up = omega (arith, s_made);
      fresh = λ m o. absurd (both_ways (plain e.answer) (ap plain o.answer) plain');
      made_still = λ _. s_made;
      told = new_told;
      told_sub = λ m o. absurd (Memᴰ.not-nil (subst (λ (ms : List Message). Memᴰ m ms) quiet' o));
      counted = λ h m t o. absurd (both_ways (plain e.answer) (ap plain o.answer) plain');
    }

    pub issue_good : Good n es l hs w c None (issue n (hs w) xs an fs)
    unfolding e d a y y0
    issue_good = (a ∷ l, moved, λ f o. elim (Memᴰ.cases_cons o) [ inl z ↦ subst (λ (k : Frame). Sane (e ∷ es) (a ∷ l) k) (sym z) (Memᴰ.head refl) | inr z ↦ sane e y0_inv f z ])

  ordering : Gathered n (hs w) n (hs w).me 4 (to_order n (hs w))
  ordering = to_order_is n (hs w) (omega (arith, (i.heads w b).is_me))

  -- turn

  turn_fits : (xs : List Name) → to_order n (hs w) ≡ xs → TurnOf n l w (hs w) → Good n es l hs w turns None (turn_with n (hs w) xs)
  turn_fits [] q tk = stays n es l hs v two i w b turns None Answer.nothing refl
  turn_fits (x ∷ xs) q tk =
      by_bool (Good n es l hs w turns None) (room (hs w)) _ _
      (λ r. by_bool (Good n es l hs w turns None) (stamps_left (hs w)) _ _
      (λ s. issue_good turns (x ∷ xs) (subst (λ (zs : List Name). Gathered n (hs w) n (hs w).me 4 zs) q ordering) tk (leb-true (end (hs w) + 4) ((hs w).base + 95) r) (Answer.ordered (end (hs w)) (suc (length xs))) refl [] (λ ev k f o. absurd (Memᴰ.not-nil o)))
      (λ s. refuses n es l hs v two i w b turns None StampsUsedUp))
      (λ r. stays n es l hs v two i w b turns None Answer.crowded refl)

  pub turn_good : Good n es l hs w turns None (turn n (hs w))
  unfolding turn
  turn_good = by_bool (Good n es l hs w turns None) (holds n (hs w)) _ _ (λ t. turn_fits (to_order n (hs w)) refl (token n es l hs v w i b t)) (λ t. stays n es l hs v two i w b turns None Answer.not_yours refl)

  -- tick

  again_sane : (ev : Event) (r : Option Ack) → Last (hs w).queue 96 (hs w).base r → (f : Frame) → Memᴰ f (own_again (hs w) r) → Sane (ev ∷ es) l f
  again_sane ev None q f o = absurd (Memᴰ.not-nil o)
  again_sane ev (Some a) q f o = elim (cases_Bool (eqb a.issuer (hs w).me)) [
    | inl z ↦ subst (λ (k : Frame). Sane (ev ∷ es) l k) (sym (Memᴰ.eq_of_singleton (subst (λ (ks : List Frame). Memᴰ f ks) (cond-true (eqb a.issuer (hs w).me) (ack_frame a ∷ []) [] z) o))) (logged_mem n es l hs v two i w b a.stamp a.issuer a.names q.0 q.2)
    | inr z ↦ absurd (Memᴰ.not-nil (subst (λ (ks : List Frame). Memᴰ f ks) (cond-false (eqb a.issuer (hs w).me) (ack_frame a ∷ []) [] z) o))
  ]

  fire_sane : (ev : Event) (fs : List Frame) → ((f : Frame) → Memᴰ f fs → Sane (ev ∷ es) l f) → (f : Frame) → Memᴰ f (fs ++ (own_again (hs w) (top (hs w)) ++ own_message (hs w))) → Sane (ev ∷ es) l f
  unfolding top
  fire_sane ev fs h f o = elim (Memᴰ.append_cases fs o) [
    | inl z ↦ h f z
    | inr z ↦ elim (Memᴰ.append_cases (own_again (hs w) (top (hs w))) z) [
      | inl q ↦ again_sane ev (top (hs w)) (last_ack_last (hs w).queue 96 (hs w).base) f q
      | inr q ↦ own_sane n (ev ∷ es) l w (hs w) 4 (suc (low (hs w) (hs w).me)) (head_later n ev es l w (hs w) (i.heads w b)) f q
    ]
  ]

  fire_good : (fs : List Frame) → ((ev : Event) (f : Frame) → Memᴰ f fs → Sane (ev ∷ es) l f) → Good n es l hs w ticks None (fire n (hs w) fs)
  fire_good fs h =
      let gs : List Frame = fs ++ (own_again (hs w) (top (hs w)) ++ own_message (hs w)) in
      let x : Head = with_clock (hs w) 0 (min 15 (suc (hs w).tries)) in
      let d : Done = done n (Answer.fired (length gs)) x gs in
      let e : Event = event_of n w ticks None d in
      answers n es l hs v two i w b ticks None (Answer.fired (length gs)) x gs refl (clocked n (e ∷ es) l w 0 (min 15 (suc (hs w).tries)) (hs w) (head_later n e es l w (hs w) (i.heads w b))) (omega (arith, clocked_mark 0 (min 15 (suc (hs w).tries)) (hs w))) refl refl refl (fire_sane e fs (h e))

  fire_ack_good : (xs : List Name) → to_order n (hs w) ≡ xs → TurnOf n l w (hs w) → end (hs w) + 4 ≤ (hs w).base + 95 → Good n es l hs w ticks None (fire_ack n (hs w) xs)
  fire_ack_good xs q tk rm =
      let x : Head = place (hs w) (new_ack (hs w) xs) in
      issue_good ticks xs (subst (λ (zs : List Name). Gathered n (hs w) n (hs w).me 4 zs) q ordering) tk rm (Answer.fired (suc (length (own_message x)))) refl (own_message x) (λ ev k f o. own_sane n (ev ∷ es) (new_ack (hs w) xs ∷ l) w x 4 (suc (low x x.me)) k f o)

  none_put : (ev : Event) (f : Frame) → Memᴰ f [] → Sane (ev ∷ es) l f
  none_put ev f o = absurd (Memᴰ.not-nil o)

  tick_fits : (xs : List Name) → to_order n (hs w) ≡ xs → TurnOf n l w (hs w) → end (hs w) + 4 ≤ (hs w).base + 95 → Good n es l hs w ticks None (tick_with n (hs w) xs)
  tick_fits [] q tk rm = by_bool (Good n es l hs w ticks None) (busy (hs w).queue 96 (hs w).base n) _ _ (λ z. fire_ack_good [] q tk rm) (λ z. fire_good [] none_put)
  tick_fits (x ∷ xs) q tk rm = fire_ack_good (x ∷ xs) q tk rm

  due_good : Good n es l hs w ticks None (tick_due n (hs w))
  due_good =
      by_bool (Good n es l hs w ticks None) (ltb (mark (hs w)) (end (hs w))) _ _
      (λ z. fire_good (nack_frame (hs w).me (asked n (hs w)) (mark (hs w)) ∷ []) (λ ev f o. subst (λ (k : Frame). Sane (ev ∷ es) l k) (sym (Memᴰ.eq_of_singleton o)) tt))
      (λ z. by_bool (Good n es l hs w ticks None) (holds n (hs w) && (room (hs w) && stamps_left (hs w))) _ _
      (λ t.
      let p : (holds n (hs w) ≡ true) × ((room (hs w) && stamps_left (hs w)) ≡ true) = and_parts (holds n (hs w)) (room (hs w) && stamps_left (hs w)) t in
      let q : (room (hs w) ≡ true) × (stamps_left (hs w) ≡ true) = and_parts (room (hs w)) (stamps_left (hs w)) p.1 in
      tick_fits (to_order n (hs w)) refl (token n es l hs v w i b p.0) (leb-true (end (hs w) + 4) ((hs w).base + 95) q.0))
      (λ t. fire_good [] none_put))

  idle_good : Good n es l hs w ticks None (done n Answer.idle (with_clock (hs w) (suc (hs w).ticks) (hs w).tries) [])
  idle_good =
      let x : Head = with_clock (hs w) (suc (hs w).ticks) (hs w).tries in
      let e : Event = event_of n w ticks None (done n Answer.idle x []) in
      answers n es l hs v two i w b ticks None Answer.idle x [] refl (clocked n (e ∷ es) l w (suc (hs w).ticks) (hs w).tries (hs w) (head_later n e es l w (hs w) (i.heads w b))) (omega (arith, clocked_mark (suc (hs w).ticks) (hs w).tries (hs w))) refl refl refl (λ f o. absurd (Memᴰ.not-nil o))

  pub tick_good : Good n es l hs w ticks None (tick n (hs w))
  unfolding tick
  tick_good = by_bool (Good n es l hs w ticks None) (ltb (suc (hs w).ticks) (wait (hs w).tries)) _ _ (λ z. idle_good) (λ z. due_good)
