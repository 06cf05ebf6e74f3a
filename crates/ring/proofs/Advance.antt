-- One call that moves one head keeps n what holds of the whole ring.
use Rattle.std.proofs.Common.{◌≡◌, ℕ, suc, ◌+◌, ◌-◌, ◌<◌, ◌≤◌, cond, eqb, ◌⊎◌, List, [], ◌∷◌, ◌++◌, map, length, sym, refl, ap, ◌∙◌, subst, inl, inr, append-nil, add-zero, arith, length-append}
use mathlib.Core.List.{Memᴰ}
use Rattle.std.proofs.lemmas.Bool.{cases_Bool, cases_eq, cond-true, cond-false, eq-eqb, ne_eqb, eqb-true}
use Rattle.frames.specs.Values.{Ack, Message, Name}
use Rattle.links.specs.Meaning.{Waits}
use Rattle.head.specs.Answers.{Answer}
use Rattle.head.specs.Head.{Head, mark}
use Rattle.head.specs.Slots.{named, size}
use Rattle.head.proofs.Names.{listing, listing_same}
use Rattle.ring.specs.Record.{Delivers, Happened, Submits, Submitted, all_names, deliveries, issued, message_of, submission_of, submissions}
use Rattle.ring.specs.Ring.{Call, Event, delivers, hears, put_head, submits, ticks, turns}
use Rattle.ring.proofs.Conclusion.{mark_inside}
use Rattle.ring.proofs.Invariant.{Counted, Grows, HeadInv, Inv, Numbered, Turned, Waiting, head_grows, head_later, later}
use Rattle.ring.proofs.Log.{tape, top_of}

pub put_same : (hs : ℕ → Head) (w : ℕ) (y : Head) (h : ℕ) → h ≡ w → put_head hs w y h ≡ y
put_same hs w y h e = cond-true (eqb h w) y (hs h) (eq-eqb h w e)

pub put_other : (hs : ℕ → Head) (w : ℕ) (y : Head) (h : ℕ) → (h ≡ w → ⊥) → put_head hs w y h ≡ hs h
put_other hs w y h e = cond-false (eqb h w) y (hs h) (ne_eqb h w e)

pub split_happened : {P : Event → Type 0} {e : Event} {es : List Event} → Happened P (e ∷ es) → P e ⊎ Happened P es
split_happened {P} s = elim (mathlib.Core.List.Memᴰ.cases_cons s.1) [ inl o ↦ inl (subst P o s.2) | inr o ↦ inr (s.0, o, s.2) ]

abbrev pub Sourced : List Event → List Name → Type 0
Sourced es xs = (y : Name) → Memᴰ y xs → (m : Message) × (m.name ≡ y) × Submitted m es

pub record Moved (n : ℕ) (es : List Event) (l : List Ack) (hs : ℕ → Head) (e : Event) (k : List Ack) (y : Head) : Type 0 where
  pub grows : Grows n l k
  pub same : k ≡ issued (e ∷ es)
  pub turned : Turned (all_names k)
  pub sources : Sourced (e ∷ es) (all_names k)
  pub inv : HeadInv n (e ∷ es) k e.who y
  pub mark_up : mark (hs e.who) ≤ mark y
  pub bases : (g : ℕ) → g < n → y.base ≤ mark (put_head hs e.who y g)
  pub issuers : (a : Ack) → Memᴰ a k → Memᴰ a l ⊎ ((a.issuer ≡ e.who) × (a.stamp + size a < mark y))
  pub made_up : (hs e.who).made ≤ y.made
  pub fresh : (m : Message) → Submits m.name.source m e → (m.name.number ≡ suc (hs e.who).made) × (y.made ≡ suc (hs e.who).made)
  pub made_still : submission_of e.who e.call e.answer ≡ [] → y.made ≡ (hs e.who).made
  pub told : map (λ (m : Message). m.name) (deliveries e.who (e ∷ es)) ≡ listing (tape k) (y.due - 1) 1
  pub told_sub : (m : Message) → Memᴰ m (message_of e.answer) → Submitted m (e ∷ es)
  pub counted : (h : ℕ) (m : Message) (t : ℕ) → Delivers h m t e → Counted n (e ∷ es) k hs h m t

-- an event is a submission of one message, or None
abbrev Submission : Event → ℕ → List Message → Type 0
Submission e h xs = (xs ≡ []) ⊎ ((m : Message) × (xs ≡ m ∷ []) × Submits h m e × (m.name.source ≡ h))

submission_is : (e : Event) (h : ℕ) → e.who ≡ h → (c : Call) (a : Answer) → e.call ≡ c → e.answer ≡ a → Submission e h (submission_of h c a)
submission_is e h w c (Answer.refused k) p q = inl refl
submission_is e h w (submits l b) (Answer.made_it k) p q = inr (record { name = record { source = h; number = k; level = l }; body = b }, refl, record { who = w; call = p; source = refl; answer = q }, refl)
submission_is e h w hears (Answer.made_it k) p q = inl refl
submission_is e h w turns (Answer.made_it k) p q = inl refl
submission_is e h w ticks (Answer.made_it k) p q = inl refl
submission_is e h w delivers (Answer.made_it k) p q = inl refl
submission_is e h w c Answer.quiet p q = inl refl
submission_is e h w c Answer.repeat p q = inl refl
submission_is e h w c Answer.filled p q = inl refl
submission_is e h w c Answer.far p q = inl refl
submission_is e h w c Answer.kept p q = inl refl
submission_is e h w c Answer.crowded p q = inl refl
submission_is e h w c Answer.placed p q = inl refl
submission_is e h w c Answer.resent p q = inl refl
submission_is e h w c Answer.nothing p q = inl refl
submission_is e h w c Answer.not_yours p q = inl refl
submission_is e h w c (Answer.ordered t m) p q = inl refl
submission_is e h w c Answer.idle p q = inl refl
submission_is e h w c (Answer.fired k) p q = inl refl
submission_is e h w c Answer.waiting p q = inl refl
submission_is e h w c (Answer.delivered m t) p q = inl refl

numbered_push : (k : ℕ) (ms : List Message) (m : Message) → Numbered k ms → m.name.number ≡ k + length ms → Numbered k (ms ++ (m ∷ []))
numbered_push k [] m a e = (e ∙ add-zero k, tt)
numbered_push k (x ∷ ms) m a e = (a.0, numbered_push (suc k) ms m a.1 (omega arith))

pub quiet_subs : (es : List Event) (e : Event) (h : ℕ) → (e.who ≡ h → submission_of h e.call e.answer ≡ []) → submissions h (e ∷ es) ≡ submissions h es
quiet_subs es e h s =
    let f : cond (eqb e.who h) (submission_of h e.call e.answer) [] ≡ [] = elim (cases_Bool (eqb e.who h)) [ inl o ↦ cond-true (eqb e.who h) (submission_of h e.call e.answer) [] o ∙ s (eqb-true e.who h o) | inr o ↦ cond-false (eqb e.who h) (submission_of h e.call e.answer) [] o ] in
    ap (λ (xs : List Message). submissions h es ++ xs) f ∙ append-nil (submissions h es)

module _ (n : ℕ) (es : List Event) (l : List Ack) (hs : ℕ → Head) (v : Waits) (e : Event) (k : List Ack) (y : Head) (b : e.who < n) (i : Inv n es l hs v) (o : Moved n es l hs e k y) where
  marks_up : (g : ℕ) → mark (hs g) ≤ mark (put_head hs e.who y g)
  marks_up g = elim (cases_eq g e.who) [
    | inl z ↦ omega (arith, o.mark_up, ap mark (put_same hs e.who y g z), ap (λ (j : ℕ). mark (hs j)) z)
    | inr z ↦ omega (arith, ap mark (put_other hs e.who y g z))
  ]

  new_heads : (h : ℕ) → h < n → HeadInv n (e ∷ es) k h (put_head hs e.who y h)
  new_heads h c = elim (cases_eq h e.who) [
    | inl z ↦ subst (λ (x : Head). HeadInv n (e ∷ es) k h x) (sym (put_same hs e.who y h z)) (subst (λ (j : ℕ). HeadInv n (e ∷ es) k j y) (sym z) o.inv)
    | inr z ↦ subst (λ (x : Head). HeadInv n (e ∷ es) k h x) (sym (put_other hs e.who y h z)) (head_later n e es k h (hs h) (head_grows n es l k h (hs h) i.chain o.grows (i.heads h c)))
  ]

  new_unique : (m j : Message) → Submitted m (e ∷ es) → Submitted j (e ∷ es) → m.name.source ≡ j.name.source → m.name.number ≡ j.name.number → m ≡ j
  new_unique m j a c s u = elim (split_happened a) [
    | inl p ↦ elim (split_happened c) [
      | inl q ↦
          let p1 : e.call ≡ submits m.name.level m.body = p.call in
          let q1 : e.call ≡ submits j.name.level j.body = q.call in
          let lv : m.name.level ≡ j.name.level = cc (p1, q1) in
          let bd : m.body ≡ j.body = cc (p1, q1) in
          λ t. record { name = record { source = s t; number = u t; level = lv t }; body = bd t }
      | inr q ↦ (let mm : j.name.number ≤ (hs j.name.source).made = (i.made j q).1 in let sw : (hs j.name.source).made ≡ (hs e.who).made = ap (λ (g : ℕ). (hs g).made) (sym s ∙ sym p.who) in absurd (omega (arith, (o.fresh m p).0)))
    ]
    | inr p ↦ elim (split_happened c) [
      | inl q ↦ (let mm : m.name.number ≤ (hs m.name.source).made = (i.made m p).1 in let sw : (hs m.name.source).made ≡ (hs e.who).made = ap (λ (g : ℕ). (hs g).made) (s ∙ sym q.who) in absurd (omega (arith, (o.fresh j q).0)))
      | inr q ↦ i.unique m j p q s u
    ]
  ]

  made_grows : (g : ℕ) → (hs g).made ≤ (put_head hs e.who y g).made
  made_grows g = elim (cases_eq g e.who) [
    | inl z ↦ omega (arith, o.made_up, ap (λ (x : Head). x.made) (put_same hs e.who y g z), ap (λ (j : ℕ). (hs j).made) z)
    | inr z ↦ omega (arith, ap (λ (x : Head). x.made) (put_other hs e.who y g z))
  ]

  new_made : (m : Message) → Submitted m (e ∷ es) → (m.name.source < n) × (m.name.number ≤ (put_head hs e.who y m.name.source).made)
  new_made m a = elim (split_happened a) [
    | inl p ↦ (omega (arith, p.who), omega (arith, (o.fresh m p).0, (o.fresh m p).1, ap (λ (x : Head). x.made) (put_same hs e.who y m.name.source (sym p.who))))
    | inr p ↦ ((i.made m p).0, omega (arith, (i.made m p).1, made_grows m.name.source))
  ]

  made_at : (h : ℕ) → h ≡ e.who → (put_head hs e.who y h).made ≡ y.made
  made_at h z = ap (λ (x : Head). x.made) (put_same hs e.who y h z)

  subs_here : submissions e.who (e ∷ es) ≡ submissions e.who es ++ submission_of e.who e.call e.answer
  subs_here = ap (λ (xs : List Message). submissions e.who es ++ xs) (cond-true (eqb e.who e.who) (submission_of e.who e.call e.answer) [] (eq-eqb e.who e.who refl))

  abbrev SubsAt : ℕ → Type 0
  SubsAt h = Numbered 1 (submissions h (e ∷ es)) × (length (submissions h (e ∷ es)) ≡ (put_head hs e.who y h).made)

  who_subs : SubsAt e.who
  who_subs =
      let w : ℕ = e.who in
      let old : Numbered 1 (submissions e.who es) × (length (submissions e.who es) ≡ (hs e.who).made) = i.subs e.who b in
      elim (submission_is e e.who refl e.call e.answer refl refl) [
        | inl z ↦
            let s : submissions e.who (e ∷ es) ≡ submissions e.who es = quiet_subs es e e.who (λ _. z) in
            (subst (λ (xs : List Message). Numbered 1 xs) (sym s) old.0, ap length s ∙ (old.1 ∙ (sym (o.made_still z) ∙ sym (made_at e.who refl))))
        | inr z ↦
            let m : Message = z.0 in
            let s : submissions e.who (e ∷ es) ≡ submissions e.who es ++ (m ∷ []) = subs_here ∙ ap (λ (xs : List Message). submissions e.who es ++ xs) z.1 in
            let src : Submits m.name.source m e = subst (λ (h : ℕ). Submits h m e) (sym z.3) z.2 in
            let fr : (m.name.number ≡ suc (hs e.who).made) × (y.made ≡ suc (hs e.who).made) = o.fresh m src in
            (subst (λ (xs : List Message). Numbered 1 xs) (sym s) (numbered_push 1 (submissions e.who es) m old.0 (omega (arith, fr.0, old.1))), ap length s ∙ (length-append (submissions e.who es) (m ∷ []) ∙ (let q : length (submissions e.who es) + 1 ≡ y.made = omega (arith, fr.1, old.1) in q) ∙ sym (made_at e.who refl)))
      ]

  new_subs : (h : ℕ) → h < n → SubsAt h
  new_subs h c = elim (cases_eq h e.who) [
    | inl z ↦ subst (λ (j : ℕ). SubsAt j) (sym z) who_subs
    | inr z ↦
        let s : submissions h (e ∷ es) ≡ submissions h es = quiet_subs es e h (λ q. absurd (z (sym q))) in
        (subst (λ (xs : List Message). Numbered 1 xs) (sym s) (i.subs h c).0, ap length s ∙ ((i.subs h c).1 ∙ ap (λ (x : Head). x.made) (sym (put_other hs e.who y h z))))
  ]

  new_subs_sub : (h : ℕ) (m : Message) → Memᴰ m (submissions h (e ∷ es)) → Submitted m (e ∷ es) × (m.name.source ≡ h)
  new_subs_sub h m c = elim (mathlib.Core.List.Memᴰ.append_cases (submissions h es) c) [
    | inl z ↦ (later (i.subs_sub h m z).0, (i.subs_sub h m z).1)
    | inr z ↦ elim (cases_Bool (eqb e.who h)) [
      | inl q ↦
          let p : Memᴰ m (submission_of h e.call e.answer) = subst (λ (xs : List Message). Memᴰ m xs) (cond-true (eqb e.who h) (submission_of h e.call e.answer) [] q) z in
          elim (submission_is e h (eqb-true e.who h q) e.call e.answer refl refl) [
            | inl u ↦ absurd (mathlib.Core.List.Memᴰ.not-nil (subst (λ (xs : List Message). Memᴰ m xs) u p))
            | inr u ↦
                let same : m ≡ u.0 = mathlib.Core.List.Memᴰ.eq_of_singleton (subst (λ (xs : List Message). Memᴰ m xs) u.1 p) in
                let src : m.name.source ≡ h = ap (λ (x : Message). x.name.source) same ∙ u.3 in
                ((e, mathlib.Core.List.Memᴰ.head refl, subst (λ (j : ℕ). Submits j m e) (sym src) (subst (λ (x : Message). Submits h x e) (sym same) u.2)), src)
          ]
      | inr q ↦ absurd (mathlib.Core.List.Memᴰ.not-nil (subst (λ (xs : List Message). Memᴰ m xs) (cond-false (eqb e.who h) (submission_of h e.call e.answer) [] q) z))
    ]
  ]

  new_issuers : (a : Ack) → Memᴰ a k → (a.issuer < n) × (a.stamp + size a < mark (put_head hs e.who y a.issuer))
  new_issuers a m = elim (o.issuers a m) [
    | inl z ↦ ((i.issuers a z).0, omega (arith, (i.issuers a z).1, marks_up a.issuer))
    | inr z ↦ (omega (arith, z.0), omega (arith, z.1, ap mark (put_same hs e.who y a.issuer z.0)))
  ]

  new_bases : (g h : ℕ) → g < n → h < n → (put_head hs e.who y g).base ≤ mark (put_head hs e.who y h)
  new_bases g h c d = elim (cases_eq g e.who) [
    | inl z ↦ omega (arith, o.bases h d, ap (λ (x : Head). x.base) (put_same hs e.who y g z))
    | inr z ↦ omega (arith, i.bases g h c d, marks_up h, ap (λ (x : Head). x.base) (put_other hs e.who y g z))
  ]

  new_told : (h : ℕ) → h < n → map (λ (m : Message). m.name) (deliveries h (e ∷ es)) ≡ listing (tape k) ((put_head hs e.who y h).due - 1) 1
  new_told h c = elim (cases_eq h e.who) [
    | inl z ↦ subst (λ (j : ℕ). map (λ (m : Message). m.name) (deliveries j (e ∷ es)) ≡ listing (tape k) ((put_head hs e.who y j).due - 1) 1) (sym z) (o.told ∙ ap (λ (x : Head). listing (tape k) (x.due - 1) 1) (sym (put_same hs e.who y e.who refl)))
    | inr z ↦
        let s : deliveries h (e ∷ es) ≡ deliveries h es = ap (λ (xs : List Message). deliveries h es ++ xs) (cond-false (eqb e.who h) (message_of e.answer) [] (ne_eqb e.who h (λ q. z (sym q)))) ∙ append-nil (deliveries h es) in
        let d : (hs h).due ≤ top_of l = omega (arith, (i.heads h c).due_to, mark_inside n es l h (hs h) i.chain (i.heads h c)) in
        ap (map (λ (m : Message). m.name)) s ∙ (i.told h c ∙ (sym (listing_same (tape k) (tape l) ((hs h).due - 1) 1 (λ u p q. ap named (o.grows.same u (omega arith)))) ∙ ap (λ (x : Head). listing (tape k) (x.due - 1) 1) (sym (put_other hs e.who y h z))))
  ]

  new_told_sub : (h : ℕ) (m : Message) → Memᴰ m (deliveries h (e ∷ es)) → Submitted m (e ∷ es)
  new_told_sub h m c = elim (mathlib.Core.List.Memᴰ.append_cases (deliveries h es) c) [
    | inl z ↦ later (i.told_sub h m z)
    | inr z ↦ elim (cases_Bool (eqb e.who h)) [
      | inl q ↦ o.told_sub m (subst (λ (xs : List Message). Memᴰ m xs) (cond-true (eqb e.who h) (message_of e.answer) [] q) z)
      | inr q ↦ absurd (mathlib.Core.List.Memᴰ.not-nil (subst (λ (xs : List Message). Memᴰ m xs) (cond-false (eqb e.who h) (message_of e.answer) [] q) z))
    ]
  ]

  new_counted : (h : ℕ) (m : Message) (t : ℕ) → Happened (Delivers h m t) (e ∷ es) → Counted n (e ∷ es) k (put_head hs e.who y) h m t
  new_counted h m t c = elim (split_happened c) [
    | inl z ↦
        let q : Counted n (e ∷ es) k hs h m t = o.counted h m t z in
        record { submitted = q.submitted; ordered = q.ordered; within = q.within; others = q.others; apart = q.apart; enough = q.enough; hold = λ g p. ((q.hold g p).0, omega (arith, (q.hold g p).1, marks_up g)) }
    | inr z ↦
        let q : Counted n es l hs h m t = i.counted h m t z in
        record { submitted = later q.submitted; ordered = ap named (o.grows.same t q.within) ∙ q.ordered; within = omega (arith, q.within, o.grows.top); others = q.others; apart = q.apart; enough = q.enough; hold = λ g p. ((q.hold g p).0, omega (arith, (q.hold g p).1, marks_up g)) }
  ]

  pub advance : (u : Waits) → ((h : ℕ) (p : List ℕ) → Memᴰ p (u h) → Waiting n (e ∷ es) k p) → Inv n (e ∷ es) k (put_head hs e.who y) u
  advance u f = record {
    same = o.same;
    chain = o.grows.chain;
    turned = o.turned;
    sources = o.sources;
    unique = new_unique;
    made = new_made;
    subs = new_subs;
    subs_sub = new_subs_sub;
    heads = new_heads;
    issuers = new_issuers;
    bases = new_bases;
    told = new_told;
    told_sub = new_told_sub;
    counted = new_counted;
    waiting = f;
  }
