-- A call that issues no ACK: what its head must show.
use Rattle.std.proofs.Common.{◌≡◌, ℕ, suc, ◌-◌, ◌<◌, ◌≤◌, Bool, true, false, cond, eqb, List, [], ◌∷◌, ◌++◌, map, Some, None, Option, sym, refl, ap, ◌∙◌, subst, inl, inr, append-nil, arith}
use mathlib.Core.List.Memᴰ
use mathlib.Core.List.{Memᴰ}
use Rattle.std.proofs.lemmas.Bool.{cases_Bool, cases_eq, both_ways, cond-true, cond-false}
use Rattle.frames.specs.Values.{Ack, Frame, Message}
use Rattle.frames.specs.Written.{written}
use Rattle.frames.specs.declared.refusal.Refusal.{Refusal}
use Rattle.links.specs.Meaning.{Waits}
use Rattle.head.specs.Answers.{Answer, Done, done, refuse}
use Rattle.head.specs.Head.{Head, mark}
use Rattle.head.specs.Upkeep.{give_up, settled}
use Rattle.head.proofs.Names.{listing}
use Rattle.ring.specs.Record.{Delivers, Submits, Submitted, all_names, and_issued, deliveries, issued, message_of, submission_of}
use Rattle.ring.specs.Ring.{Call, Event}
use Rattle.ring.proofs.Advance.{Moved, Sourced, put_other, put_same}
use Rattle.ring.proofs.GivingUp.{Settled, settle}
use Rattle.ring.proofs.Invariant.{Counted, HeadInv, Inv, Sane, grows_none, head_later, later}
use Rattle.ring.proofs.Log.{tape}

-- the event of a call
abbrev pub event_of : ℕ → ℕ → Call → Option (List ℕ) → Done → Event
event_of n w c t d = record { who = w; call = c; taken = t; answer = d.answer; put = map (written n) d.puts; issued = d.issued }

abbrev pub Good : ℕ → List Event → List Ack → (ℕ → Head) → ℕ → Call → Option (List ℕ) → Done → Type 0
Good n es l hs w c t d = (k : List Ack) × Moved n es l hs (event_of n w c t d) k d.head × ((f : Frame) → Memᴰ f d.puts → Sane (event_of n w c t d ∷ es) k f)

-- answers that neither make nor deliver
abbrev pub plain : Answer → Bool
plain (Answer.refused k) = true
plain (Answer.made_it k) = false
plain Answer.quiet = true
plain Answer.repeat = true
plain Answer.filled = true
plain Answer.far = true
plain Answer.kept = true
plain Answer.crowded = true
plain Answer.placed = true
plain Answer.resent = true
plain Answer.nothing = true
plain Answer.not_yours = true
plain (Answer.ordered t m) = true
plain Answer.idle = true
plain (Answer.fired k) = true
plain Answer.waiting = true
plain (Answer.delivered m t) = false

pub plain_silent : (a : Answer) → plain a ≡ true → message_of a ≡ []
plain_silent (Answer.refused k) e = refl
plain_silent (Answer.made_it k) e = refl
plain_silent Answer.quiet e = refl
plain_silent Answer.repeat e = refl
plain_silent Answer.filled e = refl
plain_silent Answer.far e = refl
plain_silent Answer.kept e = refl
plain_silent Answer.crowded e = refl
plain_silent Answer.placed e = refl
plain_silent Answer.resent e = refl
plain_silent Answer.nothing e = refl
plain_silent Answer.not_yours e = refl
plain_silent (Answer.ordered t m) e = refl
plain_silent Answer.idle e = refl
plain_silent (Answer.fired k) e = refl
plain_silent Answer.waiting e = refl
plain_silent (Answer.delivered m t) e = let z : ◌≡◌ {A = ℕ} 0 1 = cc in absurd (omega arith)

pub record Unissued (n : ℕ) (es : List Event) (l : List Ack) (hs : ℕ → Head) (e : Event) (y : Head) : Type 0 where
  pub inv : HeadInv n (e ∷ es) l e.who y
  pub mark_up : mark (hs e.who) ≤ mark y
  pub base_same : y.base ≡ (hs e.who).base
  pub made_up : (hs e.who).made ≤ y.made
  pub fresh : (m : Message) → Submits m.name.source m e → (m.name.number ≡ suc (hs e.who).made) × (y.made ≡ suc (hs e.who).made)
  pub made_still : submission_of e.who e.call e.answer ≡ [] → y.made ≡ (hs e.who).made
  pub told : map (λ (m : Message). m.name) (deliveries e.who (e ∷ es)) ≡ listing (tape l) (y.due - 1) 1
  pub told_sub : (m : Message) → Memᴰ m (message_of e.answer) → Submitted m (e ∷ es)
  pub counted : (h : ℕ) (m : Message) (t : ℕ) → Delivers h m t e → Counted n (e ∷ es) l hs h m t

-- nothing delivered
pub silent_told : (es : List Event) (e : Event) (h : ℕ) → message_of e.answer ≡ [] → deliveries h (e ∷ es) ≡ deliveries h es
silent_told es e h s =
    let f : cond (eqb e.who h) (message_of e.answer) [] ≡ [] = elim (cases_Bool (eqb e.who h)) [ inl o ↦ cond-true (eqb e.who h) (message_of e.answer) [] o ∙ s | inr o ↦ cond-false (eqb e.who h) (message_of e.answer) [] o ] in
    ap (λ (xs : List Message). deliveries h es ++ xs) f ∙ append-nil (deliveries h es)

module _ (n : ℕ) (es : List Event) (l : List Ack) (hs : ℕ → Head) (v : Waits) (i : Inv n es l hs v) (e : Event) (b : e.who < n) where
  pub silent_sub : message_of e.answer ≡ [] → (m : Message) → Memᴰ m (message_of e.answer) → Submitted m (e ∷ es)
  silent_sub s m o = absurd (Memᴰ.not-nil (subst (λ (xs : List Message). Memᴰ m xs) s o))

  pub silent_counted : message_of e.answer ≡ [] → (h : ℕ) (m : Message) (t : ℕ) → Delivers h m t e → Counted n (e ∷ es) l hs h m t
  silent_counted s h m t d = let f : message_of e.answer ≡ m ∷ [] = ap message_of d.answer in let z : ◌≡◌ {A = ℕ} 0 1 = cc (f, s) in absurd (omega arith)

  pub plain_unissued : (y : Head) → plain e.answer ≡ true → HeadInv n (e ∷ es) l e.who y → mark (hs e.who) ≤ mark y → y.base ≡ (hs e.who).base → y.due ≡ (hs e.who).due → y.made ≡ (hs e.who).made → Unissued n es l hs e y
  plain_unissued y p q m bs du ma =
      let s : message_of e.answer ≡ [] = plain_silent e.answer p in
      record {
        inv = q;
        mark_up = m;
        base_same = bs;
        made_up = omega arith;
        fresh = λ k o. absurd (both_ways (plain e.answer) (ap plain o.answer) p);
        made_still = λ _. ma;
        told = ap (map (λ (k : Message). k.name)) (silent_told es e e.who s) ∙ (i.told e.who b ∙ ap (λ (d : ℕ). listing (tape l) (d - 1) 1) (sym du));
        told_sub = silent_sub s;
        counted = silent_counted s;
      }

  later_sources : Sourced (e ∷ es) (all_names l)
  later_sources y o = let r : (m : Message) × (m.name ≡ y) × Submitted m es = i.sources y o in (r.0, r.1, later r.2)

  -- a head that is not looked over again, as after a refusal
  pub unissued_stays : (y : Head) → e.issued ≡ None → Unissued n es l hs e y → Moved n es l hs e l y
  unissued_stays y none' s = record {
    grows = grows_none n l i.chain;
    same = i.same ∙ same_issued e.issued none';
    turned = i.turned;
    sources = later_sources;
    inv = s.inv;
    mark_up = s.mark_up;
    bases = λ g c. elim (cases_eq g e.who) [
      | inl z ↦ omega (arith, s.base_same, i.bases e.who e.who b b, s.mark_up, ap mark (put_same hs e.who y g z))
      | inr z ↦ omega (arith, s.base_same, i.bases e.who g b c, ap mark (put_other hs e.who y g z))
    ];
    issuers = λ a m. inl m;
    made_up = s.made_up;
    fresh = s.fresh;
    made_still = s.made_still;
    told = s.told;
    told_sub = s.told_sub;
    counted = s.counted;
  }
    where
      same_issued : (m : Option Ack) → m ≡ None → issued es ≡ and_issued m (issued es)
      same_issued None o = refl
      same_issued (Some a) o = let z : ◌≡◌ {A = ℕ} 0 1 = cc in absurd (omega arith)

  -- a head that then gives up what it can
  pub unissued_settles : (y : Head) → 2 ≤ n → e.issued ≡ None → Unissued n es l hs e y → Moved n es l hs e l (settled n y)
  unissued_settles y two none' s =
      let t : Settled n (e ∷ es) l e.who (λ g. mark (hs g)) y (give_up 96 n y) = settle 96 n (e ∷ es) l e.who (λ g. mark (hs g)) y two i.chain s.inv (λ a m. (i.issuers a m).1) (λ g c. omega (arith, s.base_same, i.bases e.who g b c)) in
      let m : Moved n es l hs e l y = unissued_stays y none' s in
      record {
        grows = m.grows;
        same = m.same;
        turned = m.turned;
        sources = m.sources;
        inv = t.inv;
        mark_up = omega (arith, s.mark_up, t.mark_up);
        bases = λ g c. elim (cases_eq g e.who) [
          | inl z ↦ omega (arith, t.bases e.who b, t.mark_up, s.mark_up, ap mark (put_same hs e.who (give_up 96 n y) g z))
          | inr z ↦ omega (arith, t.bases g c, ap mark (put_other hs e.who (give_up 96 n y) g z))
        ];
        issuers = λ a o. inl o;
        made_up = omega (arith, s.made_up, t.made_same);
        fresh = λ k o. ((s.fresh k o).0, t.made_same ∙ (s.fresh k o).1);
        made_still = λ z. t.made_same ∙ s.made_still z;
        told = s.told ∙ ap (λ (d : ℕ). listing (tape l) (d - 1) 1) (sym t.due_same);
        told_sub = m.told_sub;
        counted = m.counted;
      }

-- refusals, and answers that change nothing that counts

module _ (n : ℕ) (es : List Event) (l : List Ack) (hs : ℕ → Head) (v : Waits) (two : 2 ≤ n) (i : Inv n es l hs v) (w : ℕ) (b : w < n) (c : Call) (t : Option (List ℕ)) where
  abbrev pub Fine : Done → Type 0
  Fine d = Good n es l hs w c t d

  pub refuses : (k : Refusal) → Fine (refuse k (hs w))
  refuses k =
      let e : Event = event_of n w c t (refuse k (hs w)) in
      (l, unissued_stays n es l hs v i e b (hs w) refl (plain_unissued n es l hs v i e b (hs w) refl (head_later n e es l w (hs w) (i.heads w b)) (omega arith) refl refl refl), λ f o. absurd (Memᴰ.not-nil o))

  -- a plain answer, over a head that shows what it must
  pub answers : (a : Answer) (y : Head) (fs : List Frame) → plain a ≡ true → HeadInv n (event_of n w c t (done n a y fs) ∷ es) l w y → mark (hs w) ≤ mark y → y.base ≡ (hs w).base → y.due ≡ (hs w).due → y.made ≡ (hs w).made → ((f : Frame) → Memᴰ f fs → Sane (event_of n w c t (done n a y fs) ∷ es) l f) → Fine (done n a y fs)
  answers a y fs p q m bs du ma f =
      let e : Event = event_of n w c t (done n a y fs) in
      (l, unissued_settles n es l hs v i e b y two refl (plain_unissued n es l hs v i e b y p q m bs du ma), f)

  -- the head itself
  pub stays : (a : Answer) → plain a ≡ true → Fine (done n a (hs w) [])
  stays a p = answers a (hs w) [] p (head_later n (event_of n w c t (done n a (hs w) [])) es l w (hs w) (i.heads w b)) (omega arith) refl refl refl (λ f o. absurd (Memᴰ.not-nil o))
