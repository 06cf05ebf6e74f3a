-- Every trip keeps n it, from the cleared start on.
use Rattle.std.proofs.Common.{◌≡◌, ℕ, ◌<◌, ◌≤◌, ◌⊎◌, List, [], ◌∷◌, map, length, Some, None, Option, sym, refl, ap, ◌∙◌, subst, inl, inr, arith}
use mathlib.Core.List.Memᴰ
use mathlib.Core.List.{Memᴰ}
use Rattle.std.proofs.lemmas.Bool.{both_ways, cases_eq}
use Rattle.frames.specs.Values.{Ack, Frame, Message, Name, ack_frame, data_frame, nack_frame}
use Rattle.frames.specs.Written.{written}
use Rattle.frames.specs.declared.refusal.Refusal.TheVariants.{NoSuchHead}
use Rattle.links.specs.Meaning.{Cleared, Waits}
use Rattle.head.specs.Answers.{Answer, Done, refused}
use Rattle.head.specs.Head.{Head, fresh, mark}
use Rattle.head.specs.Ranges.{InRange, Writable}
use Rattle.head.proofs.Marks.{Window, mark_is}
use Rattle.head.proofs.Names.{listing, listing_zero, raise_all, raise_all_nil}
use Rattle.head.proofs.Ranges.{stays_in_range}
use Rattle.ring.specs.Law.{Law}
use Rattle.ring.specs.Record.{Happened, Submitted, and_issued, issued, message_of, submission_of, submissions}
use Rattle.ring.specs.Ring.{AfterPuts, Call, Event, Missed, Ring, Step, Takes, Trip, delivers, hears, perform, put_head, started, submits, then_call, then_miss, ticks, turns}
use Rattle.ring.proofs.Advance.{advance, put_other, put_same, quiet_subs, split_happened}
use Rattle.ring.proofs.Conclusion.{sound}
use Rattle.ring.proofs.Deliver.{deliver_good}
use Rattle.ring.proofs.Hear.{packet_good, quiet_good}
use Rattle.ring.proofs.Invariant.{Agrees, Counted, Grows, HeadInv, Inv, Numbered, Sane, Waiting, head_later, later}
use Rattle.ring.proofs.Log.{tape}
use Rattle.ring.proofs.Submit.{submit_good}
use Rattle.ring.proofs.Turn.{tick_good, turn_good}
use Rattle.ring.proofs.Unissued.{Good, event_of, plain, silent_told}

-- the start

fresh_window : (h : ℕ) → Window (fresh h).queue (fresh h).base
unfolding fresh
fresh_window h s b = refl

fresh_agrees : (h : ℕ) → Agrees [] (fresh h).queue (fresh h).base
unfolding fresh
fresh_agrees h = record {
  inside = omega arith;
  positive = omega arith;
  border = λ a m. absurd (Memᴰ.not-nil m);
  window = λ s b. refl;
  fits = λ s b e. refl;
  blocks = λ a m b s y z. absurd (Memᴰ.not-nil m);
  anchored = inl refl;
}

nothing_none : (s : ℕ) → 0 ≡ raise_all s (listing (tape []) 0 1) 0
nothing_none s = sym (ap (λ (xs : List Name). raise_all s xs 0) (listing_zero (tape []) 1) ∙ raise_all_nil s 0)

fresh_mark : (h : ℕ) → 1 ≤ mark (fresh h)
fresh_mark h = omega (arith, (mark_is (fresh h) (fresh_window h)).from, one)
  where
    one : 1 ≤ (fresh h).base
    one = (fresh_agrees h).positive

fresh_inv : (n h : ℕ) → HeadInv n [] [] h (fresh h)
unfolding fresh
fresh_inv n h = record {
  is_me = refl;
  agrees = fresh_agrees h;
  bodies = λ s m b e. (let z : ◌≡◌ {A = ℕ} 0 1 = cc e in absurd (omega arith));
  pends = λ s k p e. (let z : ◌≡◌ {A = ℕ} 0 1 = cc e in absurd (omega arith));
  gone_is = nothing_none;
  due_from = omega arith;
  due_to = fresh_mark h;
  got = λ s y b e. (let z : ◌≡◌ {A = ℕ} 0 1 = cc e in absurd (omega arith));
}

nobody : {P : Event → Type 0} → Happened P [] → ⊥
nobody s = Memᴰ.not-nil s.1

start_inv : (n : ℕ) (w : Waits) → Cleared w → Inv n [] [] fresh w
unfolding fresh
start_inv n w c = record {
  same = refl;
  chain = tt;
  turned = tt;
  sources = λ y m. absurd (Memᴰ.not-nil m);
  unique = λ m k s t a b. absurd (nobody s);
  made = λ m s. absurd (nobody s);
  subs = λ h b. (tt, refl);
  subs_sub = λ h m o. absurd (Memᴰ.not-nil o);
  heads = λ h b. fresh_inv n h;
  issuers = λ a m. absurd (Memᴰ.not-nil m);
  bases = λ g h a b. fresh_mark h;
  told = λ h b. sym (listing_zero (tape []) 1);
  told_sub = λ h m o. absurd (Memᴰ.not-nil o);
  counted = λ h m t s. absurd (nobody s);
  waiting = λ h p o. absurd (c h p o);
}

-- a call

-- what a call takes waited, and so is a frame that may be on its way
perform_good : (n : ℕ) (es : List Event) (l : List Ack) (hs : ℕ → Head) (v u : Waits) → 2 ≤ n → n ≤ 8 → Inv n es l hs v → (w : ℕ) → w < n → (c : Call) (t : Option (List ℕ)) → Takes c w t v u → Good n es l hs w c t (perform n c t (hs w))
unfolding perform
perform_good n es l hs v u two eight i w b (submits lv bd) t k = subst (λ (j : Option (List ℕ)). Good n es l hs w (submits lv bd) j (perform n (submits lv bd) j (hs w))) (sym k.0) (submit_good n es l hs v two i w b lv bd)
perform_good n es l hs v u two eight i w b hears None k = (quiet_good n es l hs v two i w b).0
perform_good n es l hs v u two eight i w b hears (Some p) k = (packet_good n es l hs v two i w b (omega arith) p (i.waiting w p k.waited)).0
perform_good n es l hs v u two eight i w b turns t k = subst (λ (j : Option (List ℕ)). Good n es l hs w turns j (perform n turns j (hs w))) (sym k.0) (turn_good n es l hs v two i w b)
perform_good n es l hs v u two eight i w b ticks t k = subst (λ (j : Option (List ℕ)). Good n es l hs w ticks j (perform n ticks j (hs w))) (sym k.0) (tick_good n es l hs v two i w b)
perform_good n es l hs v u two eight i w b delivers t k = subst (λ (j : Option (List ℕ)). Good n es l hs w delivers j (perform n delivers j (hs w))) (sym k.0) (deliver_good n es l hs v two i w b)

taken_left : (c : Call) (w : ℕ) (t : Option (List ℕ)) (v u : Waits) → Takes c w t v u → (h : ℕ) (f : List ℕ) → Memᴰ f (u h) → Memᴰ f (v h)
taken_left (submits lv bd) w t v u k h f o = subst (λ (x : Waits). Memᴰ f (x h)) (sym k.1) o
taken_left hears w t v u k h f o = k.left h f o
taken_left turns w t v u k h f o = subst (λ (x : Waits). Memᴰ f (x h)) (sym k.1) o
taken_left ticks w t v u k h f o = subst (λ (x : Waits). Memᴰ f (x h)) (sym k.1) o
taken_left delivers w t v u k h f o = subst (λ (x : Waits). Memᴰ f (x h)) (sym k.1) o

put_from : (ps : List (List ℕ)) (v u : Waits) → AfterPuts ps v u → (h : ℕ) (f : List ℕ) → Memᴰ f (u h) → Memᴰ f (v h) ⊎ Memᴰ f ps
put_from [] v u k h f o = inl (subst (λ (x : Waits). Memᴰ f (x h)) (sym k) o)
put_from (p ∷ ps) v u k h f o = elim (put_from ps k.0 u k.2 h f o) [
  | inl z ↦ elim (k.1 h f z) [ inl q ↦ inl q | inr q ↦ inr (Memᴰ.head q) ]
  | inr z ↦ inr (Memᴰ.tail z)
]

sane_grows : (n : ℕ) (ev : Event) (es : List Event) (l k : List Ack) → Grows n l k → (f : Frame) → Sane es l f → Sane (ev ∷ es) k f
sane_grows n ev es l k g (data_frame m) s = later s
sane_grows n ev es l k g (ack_frame a) s = g.kept a s
sane_grows n ev es l k g (nack_frame x y z) s = tt

-- a packet of those that were written is one of the frames, written
written_from : (n : ℕ) (fs : List Frame) (p : List ℕ) → Memᴰ p (map (written n) fs) → (f : Frame) × (p ≡ written n f) × Memᴰ f fs
written_from n [] p o = absurd (Memᴰ.not-nil o)
written_from n (f ∷ fs) p o = elim (Memᴰ.cases_cons o) [
  | inl e ↦ (f, e, Memᴰ.head refl)
  | inr z ↦ (let r : (g : Frame) × (p ≡ written n g) × Memᴰ g fs = written_from n fs p z in (r.0, r.1, Memᴰ.tail r.2))
]

-- each head is in its ranges
abbrev pub Ranged : ℕ → (ℕ → Head) → Type 0
Ranged n hs = (h : ℕ) → h < n → InRange n (hs h)

pub perform_writable : (n : ℕ) (c : Call) (t : Option (List ℕ)) (x : Head) → InRange n x → Writable n (perform n c t x)
unfolding perform
perform_writable n (submits l b) t x r = ((stays_in_range n).1 x r).submitting l b
perform_writable n hears t x r = ((stays_in_range n).1 x r).hearing t
perform_writable n turns t x r = ((stays_in_range n).1 x r).turning
perform_writable n ticks t x r = ((stays_in_range n).1 x r).ticking
perform_writable n delivers t x r = ((stays_in_range n).1 x r).delivering

abbrev pub KeptBy : ℕ → List Event → Ring → Type 0
KeptBy n es r = (l : List Ack) × Inv n es l r.heads r.waits × Ranged n r.heads

call_inv : (n : ℕ) (es : List Event) (r : Ring) (e : Event) (s : Ring) → 2 ≤ n → n ≤ 8 → KeptBy n es r → Step n r e s → KeptBy n (e ∷ es) s
call_inv n es r e s two eight kb st =
    let l : List Ack = kb.0 in
    let i : Inv n es l r.heads r.waits = kb.1 in
    let d : Done = perform n e.call e.taken (r.heads e.who) in
    let ev : Event = event_of n e.who e.call e.taken d in
    let eq : ev ≡ e = λ j. record { who = e.who; call = e.call; taken = e.taken; answer = sym st.answers j; put = sym st.puts j; issued = sym st.issues j } in
    let g : Good n es l r.heads e.who e.call e.taken d = perform_good n es l r.heads r.waits st.between two eight i e.who st.within e.call e.taken st.takes in
    let k : List Ack = g.0 in
    let wr : Writable n d = perform_writable n e.call e.taken (r.heads e.who) (kb.2 e.who st.within) in
    let rs : Ranged n (put_head r.heads e.who d.head) = λ h b. elim (cases_eq h e.who) [ inl z ↦ subst (λ (x : Head). InRange n x) (sym (put_same r.heads e.who d.head h z)) wr.after | inr z ↦ subst (λ (x : Head). InRange n x) (sym (put_other r.heads e.who d.head h z)) (kb.2 h b) ] in
    let fr : (h : ℕ) (p : List ℕ) → Memᴰ p (s.waits h) → Waiting n (ev ∷ es) k p = λ h p o. elim (put_from e.put st.between s.waits st.linked h p o) [
      | inl z ↦ (let q : Waiting n es l p = i.waiting h p (taken_left e.call e.who e.taken r.waits st.between st.takes h p z) in (q.0, q.1, q.2, sane_grows n ev es l k g.1.grows q.0 q.3))
      | inr z ↦ (let q : (f : Frame) × (p ≡ written n f) × Memᴰ f d.puts = written_from n d.puts p (subst (λ (ps : List (List ℕ)). Memᴰ p ps) st.puts z) in (q.0, q.1, wr.frames_ok q.0 q.2, g.2 q.0 q.2))
    ] in
    let a : Inv n (ev ∷ es) k (put_head r.heads e.who d.head) s.waits = advance n es l r.heads r.waits ev k d.head st.within i g.1 s.waits fr in
    let b : Inv n (ev ∷ es) k s.heads s.waits = subst (λ (hs : ℕ → Head). Inv n (ev ∷ es) k hs s.waits) (sym st.heads) a in
    (k, subst (λ (x : Event). Inv n (x ∷ es) k s.heads s.waits) eq b, subst (λ (hs : ℕ → Head). Ranged n hs) (sym st.heads) rs)

-- a call on a head that is not there

same_issued : (m : Option Ack) (ls : List Ack) → m ≡ None → ls ≡ and_issued m ls
same_issued None ls o = refl
same_issued (Some a) ls o = let z : ◌≡◌ {A = ℕ} 0 1 = cc in absurd (omega arith)

miss_inv : (n : ℕ) (es : List Event) (r : Ring) (e : Event) (s : Ring) → KeptBy n es r → Missed n r e s → KeptBy n (e ∷ es) s
miss_inv n es r e s kb st =
    let l : List Ack = kb.0 in
    let i : Inv n es l r.heads r.waits = kb.1 in
    let ans : e.answer ≡ refused NoSuchHead = st.answers in
    let silent : message_of e.answer ≡ [] = ap message_of ans in
    let nosub : (h : ℕ) → submissions h (e ∷ es) ≡ submissions h es = λ h. quiet_subs es e h (λ _. ap (λ (a : Answer). submission_of h e.call a) ans) in
    let old : (m : Message) → Submitted m (e ∷ es) → Submitted m es = λ m o. elim (split_happened o) [ inl z ↦ absurd (both_ways (plain e.answer) (ap plain z.answer) (ap plain ans)) | inr z ↦ z ] in
    let a : Inv n (e ∷ es) l r.heads r.waits = record {
      same = i.same ∙ same_issued e.issued (issued es) st.issues;
      chain = i.chain;
      turned = i.turned;
      sources = λ y o. (let q : (m : Message) × (m.name ≡ y) × Submitted m es = i.sources y o in (q.0, q.1, later q.2));
      unique = λ m k x y p q. i.unique m k (old m x) (old k y) p q;
      made = λ m x. i.made m (old m x);
      subs = λ h b. (subst (λ (xs : List Message). Numbered 1 xs) (sym (nosub h)) (i.subs h b).0, ap length (nosub h) ∙ (i.subs h b).1);
      subs_sub = λ h m o. (let q : Submitted m es × (m.name.source ≡ h) = i.subs_sub h m (subst (λ (ms : List Message). Memᴰ m ms) (nosub h) o) in (later q.0, q.1));
      heads = λ h b. head_later n e es l h (r.heads h) (i.heads h b);
      issuers = i.issuers;
      bases = i.bases;
      told = λ h b. ap (map (λ (m : Message). m.name)) (silent_told es e h silent) ∙ i.told h b;
      told_sub = λ h m o. later (i.told_sub h m (subst (λ (ms : List Message). Memᴰ m ms) (silent_told es e h silent) o));
      counted = λ h m t o. elim (split_happened o) [
        | inl z ↦ absurd (both_ways (plain e.answer) (ap plain z.answer) (ap plain ans))
        | inr z ↦ (let q : Counted n es l r.heads h m t = i.counted h m t z in record { submitted = later q.submitted; ordered = q.ordered; within = q.within; others = q.others; apart = q.apart; enough = q.enough; hold = q.hold })
      ];
      waiting = λ h p o. (let q : Waiting n es l p = i.waiting h p o in (q.0, q.1, q.2, sane_later e es l q.0 q.3));
    } in
    (l, subst (λ (x : Ring). Inv n (e ∷ es) l x.heads x.waits) (sym st.same) a, subst (λ (x : Ring). Ranged n x.heads) (sym st.same) kb.2)
  where
    sane_later : (ev : Event) (es : List Event) (l : List Ack) (f : Frame) → Sane es l f → Sane (ev ∷ es) l f
    sane_later ev es l (data_frame m) s = later s
    sane_later ev es l (ack_frame a) s = s
    sane_later ev es l (nack_frame x y z) s = tt

pub trip_inv : (n : ℕ) → 2 ≤ n → n ≤ 8 → {es : List Event} {r : Ring} → Trip n es r → KeptBy n es r
trip_inv n two eight (started w c) = ([], start_inv n w c, (stays_in_range n).0)
trip_inv n two eight (then_call {es} {r} {e} {s} t st) = call_inv n es r e s two eight (trip_inv n two eight t) st
trip_inv n two eight (then_miss {es} {r} {e} {s} t st) = miss_inv n es r e s (trip_inv n two eight t) st

pub law : Law
law n two eight es r t = let k : KeptBy n es r = trip_inv n two eight t in sound n es k.0 r k.1
