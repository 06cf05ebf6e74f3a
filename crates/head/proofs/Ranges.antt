-- What a head keeps stays in its ranges, and every frame that it puts can be written.
use Rattle.std.proofs.Common.{◌≡◌, ℕ, zero, suc, ◌+◌, ◌-◌, ◌%◌, ◌<◌, ◌≤◌, min, Bool, true, false, cond, not, ◌&&◌, eqb, ltb, leb, List, [], ◌∷◌, ◌++◌, length, get_or, Some, None, Ok, Err, Option, Result, sym, refl, ap, ◌∙◌, subst, inl, inr, mod-lt, arith}
use mathlib.Core.List.Memᴰ
use mathlib.Core.List.{Memᴰ}
use Rattle.std.proofs.lemmas.Bool.{cases_Bool, cases_lt, cases_eq, cond-true, cond-false, eq-eqb, ne_eqb, and_parts, lt-ltb, leb-true, le-leb, ltb-true, and_from}
use Rattle.frames.specs.Bounds.{after, body_length_ok, count_ok, level_ok, needs, number_ok, stamp_ok}
use Rattle.frames.specs.Reading.{ack_in, counted, data_in, nack_in, ranged, read}
use Rattle.frames.specs.Values.{Ack, Asked, Frame, Message, Name, ack_frame, asked_ok, data_frame, everyone, frame_ok, nack_frame, name_ok, names_ok, one}
use Rattle.frames.specs.declared.refusal.Refusal.{Refusal}
use Rattle.frames.specs.declared.refusal.Refusal.TheVariants.{FieldOutOfRange, NotAFrame}
use Rattle.head.specs.Answers.{Answer, delivered, done, fired, made_it, ordered, refuse}
use Rattle.head.specs.Deliver.{deliver, hand_over, holders, past_acks}
use Rattle.head.specs.Head.{Head, Kept, end, fill, fill_in, filled_by, fresh, holds, keep, low, mark, place, room, set_slots, stamps_left, sweep, top, with_clock, with_due, with_made}
use Rattle.head.specs.Hear.{asks, contradicts, frames_of, hear, hear_ack, hear_at, hear_data, hear_known, hear_nack, hear_new, hear_pending, hear_read, hear_slot, own_above, resend, same_kept}
use Rattle.head.specs.Queue.{place_of}
use Rattle.head.specs.Ranges.{InRange, StaysInRange, Writable, kept_message, slot_ok}
use Rattle.head.specs.Slots.{Slot, ack, bare, cells, full, known, nth_slot, over, same_bytes, same_names, size, unknown, whole}
use Rattle.head.specs.Submit.{new_message, submit}
use Rattle.head.specs.Tick.{another, asked, busy, fire, issuer_or, lowest_own, own_again, own_message, tick, tick_with, wait}
use Rattle.head.specs.Turn.{gather, issue, new_ack, run_of, to_order, turn, turn_with}
use Rattle.head.specs.Upkeep.{give_up, give_up_one, ready}
use Rattle.head.proofs.Pending.{keep_pending, place_pending}
use Rattle.head.proofs.Placing.{fill_at, fill_off}
use Rattle.head.proofs.Rising.{order_few}
use Rattle.head.proofs.Slots.{cells_above, cells_after, cells_at, cells_below, cells_in}
use Rattle.head.proofs.Upkeep.{give_up_none, give_up_some, give_up-zero, up_drop, up_keep}
use Rattle.head.proofs.Walk.{Ends, Last, Stops, first_not_stops, last_ack_last, past_last_ends}
use Rattle.head.proofs.Ways.{by_bool}

-- what was read is in its ranges

ranged_in : (n : ℕ) (ok : Bool) (f g : Frame) → ranged n ok f ≡ Ok g → frame_ok n g ≡ true
ranged_in n ok f g e = elim (cases_Bool (ok && frame_ok n f)) [
  | inl t ↦
      let r : Ok f ≡ Ok g = sym (cond-true (ok && frame_ok n f) (Ok f) (Err FieldOutOfRange) t) ∙ e in
      let same : f ≡ g = cc r in
      subst (λ (x : Frame). frame_ok n x ≡ true) same (and_parts ok (frame_ok n f) t).1
  | inr t ↦ (let r : Err FieldOutOfRange ≡ Ok g = sym (cond-false (ok && frame_ok n f) (Ok f) (Err FieldOutOfRange) t) ∙ e in let z : ◌≡◌ {A = ℕ} 0 1 = cc r in absurd (omega arith))
]

-- a test before it
tested_in : (n : ℕ) (b : Bool) (x y : Result Frame Refusal) (g : Frame) → (x ≡ Ok g → frame_ok n g ≡ true) → (y ≡ Ok g → frame_ok n g ≡ true) → cond b x y ≡ Ok g → frame_ok n g ≡ true
tested_in n true x y g f h e = f e
tested_in n false x y g f h e = h e

not_ok : (n : ℕ) (e : Refusal) (g : Frame) → ◌≡◌ {A = Result Frame Refusal} (Err e) (Ok g) → frame_ok n g ≡ true
not_ok n e g p = let z : ◌≡◌ {A = ℕ} 0 1 = cc p in absurd (omega arith)

pub read_in : (n : ℕ) (bs : List ℕ) (g : Frame) → read n bs ≡ Ok g → frame_ok n g ≡ true
read_in n bs g =
    tested_in n (eqb (get_or bs 0 0) 1) _ _ g (tested_in n (counted 1 bs) _ _ g (ranged_in n true (data_in bs) g) (not_ok n NotAFrame g))
    (tested_in n (eqb (get_or bs 0 0) 2) _ _ g (tested_in n (counted 6 bs) _ _ g (ranged_in n (eqb (get_or bs 6 0) (after n (get_or bs 5 0))) (ack_in bs) g) (not_ok n NotAFrame g))
    (tested_in n (eqb (get_or bs 0 0) 3) _ _ g (tested_in n (eqb (length bs) 7) _ _ g (ranged_in n true (nack_in bs) g) (not_ok n NotAFrame g)) (not_ok n NotAFrame g)))

-- parts of a frame in its ranges

pub record AckParts (n : ℕ) (a : Ack) : Type 0 where
  pub from_one : 1 ≤ a.stamp
  pub to_most : a.stamp + size a ≤ 1000000
  pub names_fit : names_ok n a.names ≡ true

pub ack_parts : (n : ℕ) (a : Ack) → frame_ok n (ack_frame a) ≡ true → AckParts n a
ack_parts n a h =
    let p : (leb 1 a.stamp ≡ true) × ((leb (a.stamp + length a.names) 1000000 && (ltb a.issuer n && (count_ok (length a.names) && names_ok n a.names))) ≡ true) = and_parts _ _ h in
    let q : (leb (a.stamp + length a.names) 1000000 ≡ true) × ((ltb a.issuer n && (count_ok (length a.names) && names_ok n a.names)) ≡ true) = and_parts _ _ p.1 in
    let r : (ltb a.issuer n ≡ true) × ((count_ok (length a.names) && names_ok n a.names) ≡ true) = and_parts _ _ q.1 in
    record { from_one = leb-true 1 a.stamp p.0; to_most = leb-true (a.stamp + length a.names) 1000000 q.0; names_fit = (and_parts (count_ok (length a.names)) (names_ok n a.names) r.1).1 }

names_each : (n : ℕ) (xs : List Name) (i : ℕ) (x : Name) → names_ok n xs ≡ true → nth_slot xs i ≡ bare x → name_ok n x ≡ true
names_each n [] i x h e = let z : ◌≡◌ {A = ℕ} 0 1 = cc e in absurd (omega arith)
names_each n (y ∷ ys) i x h e =
    let p : (name_ok n y ≡ true) × (names_ok n ys ≡ true) = and_parts (name_ok n y) (names_ok n ys) h in
    elim (cases_eq i 0) [
      | inl o ↦ (let f : bare y ≡ bare x = sym (cond-true (eqb i 0) (bare y) (nth_slot ys (i - 1)) (eq-eqb i 0 o)) ∙ e in let g : y ≡ x = cc f in subst (λ (k : Name). name_ok n k ≡ true) g p.0)
      | inr o ↦ names_each n ys (i - 1) x p.1 (sym (cond-false (eqb i 0) (bare y) (nth_slot ys (i - 1)) (ne_eqb i 0 o)) ∙ e)
    ]

names_join : (n : ℕ) (xs ys : List Name) → names_ok n xs ≡ true → names_ok n ys ≡ true → names_ok n (xs ++ ys) ≡ true
names_join n [] ys a b = b
names_join n (x ∷ xs) ys a b = let p : (name_ok n x ≡ true) × (names_ok n xs ≡ true) = and_parts (name_ok n x) (names_ok n xs) a in and_from _ _ p.0 (names_join n xs ys p.1 b)

stamped : (t : ℕ) → 1 ≤ t → t ≤ 1000000 → stamp_ok t ≡ true
stamped t a b = and_from _ _ (le-leb 1 t a) (le-leb t 1000000 b)

-- a known slot has a stamp in its range
stamp_known : (n t : ℕ) (s : Slot) → slot_ok n t s ≡ true → known s ≡ true → t ≤ 1000000
stamp_known n t unknown h k = let z : ◌≡◌ {A = ℕ} 0 1 = cc k in absurd (omega arith)
stamp_known n t (ack i ns) h k = omega (arith, (ack_parts n (record { stamp = t; issuer = i; names = ns }) h).to_most)
stamp_known n t (bare x) h k = leb-true t 1000000 (and_parts (leb 1 t) (leb t 1000000) (and_parts (stamp_ok t) (name_ok n x) h).0).1
stamp_known n t (whole m) h k = leb-true t 1000000 (and_parts (leb 1 t) (leb t 1000000) (and_parts (stamp_ok t) (frame_ok n (data_frame m)) h).0).1

over_ok : (n t : ℕ) (x y : Slot) → slot_ok n t x ≡ true → slot_ok n t y ≡ true → slot_ok n t (over x y) ≡ true
over_ok n t unknown y a b = b
over_ok n t (ack i ns) y a b = a
over_ok n t (bare x) y a b = a
over_ok n t (whole m) y a b = a

module _ (n : ℕ) (x : Head) (r : InRange n x) where
  -- a slot that takes a pending body
  filled_ok : (t : ℕ) (y : Name) (k : Option Kept) → x.pending y.source y.number ≡ k → stamp_ok t ≡ true → name_ok n y ≡ true → slot_ok n t (filled_by y k) ≡ true
  filled_ok t y None e s o = and_from _ _ s o
  filled_ok t y (Some k) e s o = and_from _ _ s (and_from _ _ o (and_parts (name_ok n (kept_message y.source y.number k).name) (body_length_ok (length k.body)) (r.pending_ok y.source y.number k e)).1)

  -- the slots that an ACK sets
  cells_ok : (a : Ack) → frame_ok n (ack_frame a) ≡ true → (t : ℕ) → slot_ok n t (fill_in x.pending (cells a t)) ≡ true
  cells_ok a ok t =
      let p : AckParts n a = ack_parts n a ok in
      elim (cases_lt t a.stamp) [
        | inl o ↦ ap (λ (s : Slot). slot_ok n t (fill_in x.pending s)) (cells_below a t o)
        | inr o ↦ elim (cases_eq t a.stamp) [
          | inl e ↦ ap (λ (s : Slot). slot_ok n t (fill_in x.pending s)) (cells_at a t e) ∙ (ap (λ (u : ℕ). frame_ok n (ack_frame (record { stamp = u; issuer = a.issuer; names = a.names }))) e ∙ ok)
          | inr e ↦ elim (cases_lt (a.stamp + size a) t) [
            | inl g ↦ ap (λ (s : Slot). slot_ok n t (fill_in x.pending s)) (cells_above a t g)
            | inr g ↦
                let c : (y : Name) × (cells a t ≡ bare y) = cells_in a t (omega arith) g in
                let y : Name = c.0 in
                ap (λ (s : Slot). slot_ok n t (fill_in x.pending s)) c.1 ∙ filled_ok t y (x.pending y.source y.number) refl (stamped t (omega (arith, p.from_one)) (omega (arith, p.to_most))) (names_each n a.names (t - a.stamp - 1) y p.names_fit (sym (cells_after a t (omega arith)) ∙ c.1))
          ]
        ]
      ]

  pub place_ranged : (a : Ack) → frame_ok n (ack_frame a) ≡ true → InRange n (place x a)
  unfolding place sweep set_slots
  place_ranged a ok = record {
    one_of_n = r.one_of_n;
    from_one = r.from_one;
    pending_ok = λ s k p e. r.pending_ok s k p (place_pending x a s k p e);
    slots_ok = λ t. over_ok n t (fill_in x.pending (cells a t)) (x.queue t) (cells_ok a ok t) (r.slots_ok t);
  }

  keep_ranged : (m : Message) → frame_ok n (data_frame m) ≡ true → InRange n (keep x m)
  unfolding keep
  keep_ranged m ok = record {
    one_of_n = r.one_of_n;
    from_one = r.from_one;
    pending_ok = λ s k p e. elim (keep_pending x m s k p e) [ inl o ↦ subst (λ (y : Message). frame_ok n (data_frame y) ≡ true) o ok | inr o ↦ r.pending_ok s k p o ];
    slots_ok = r.slots_ok;
  }

  fill_ranged : (t : ℕ) (m : Message) → stamp_ok t ≡ true → frame_ok n (data_frame m) ≡ true → InRange n (fill x t m)
  unfolding fill
  fill_ranged t m s ok = record {
    one_of_n = r.one_of_n;
    from_one = r.from_one;
    pending_ok = r.pending_ok;
    slots_ok = λ u. elim (cases_eq u t) [
      | inl e ↦ ap (slot_ok n u) (fill_at x t m u e) ∙ and_from _ _ (ap stamp_ok e ∙ s) ok
      | inr e ↦ ap (slot_ok n u) (fill_off x t m u e) ∙ r.slots_ok u
    ];
  }

  gone_ranged : (m : ℕ) → InRange n (give_up_one x m)
  unfolding give_up_one
  gone_ranged m = record {
    one_of_n = r.one_of_n;
    from_one = omega (arith, r.from_one);
    pending_ok = r.pending_ok;
    slots_ok = λ t. elim (cases_lt t (give_up_one x m).base) [ inl e ↦ ap (slot_ok n t) (up_drop x m t e) | inr e ↦ ap (slot_ok n t) (up_keep x m t e) ∙ r.slots_ok t ];
  }

  pub clock_ranged : (t u : ℕ) → InRange n (with_clock x t u)
  clock_ranged t u = record { one_of_n = r.one_of_n; from_one = r.from_one; pending_ok = r.pending_ok; slots_ok = r.slots_ok }

  due_ranged : (d : ℕ) → InRange n (with_due x d)
  due_ranged d = record { one_of_n = r.one_of_n; from_one = r.from_one; pending_ok = r.pending_ok; slots_ok = r.slots_ok }

  made_ranged : (k : ℕ) → InRange n (with_made x k)
  made_ranged k = record { one_of_n = r.one_of_n; from_one = r.from_one; pending_ok = r.pending_ok; slots_ok = r.slots_ok }

pub settled_ranged : (k n : ℕ) (x : Head) → InRange n x → InRange n (give_up k n x)
settled_ranged zero n x r = subst (λ (y : Head). InRange n y) (sym (give_up-zero n x)) r
settled_ranged (suc k) n x r = go (ready n x (x.queue x.base)) refl (λ y. settled_ranged k n y)
  where
    go : (o : Option ℕ) → ready n x (x.queue x.base) ≡ o → ((y : Head) → InRange n y → InRange n (give_up k n y)) → InRange n (give_up (suc k) n x)
    go None e rec = subst (λ (y : Head). InRange n y) (sym (give_up_none k n x e)) r
    go (Some m) e rec = subst (λ (y : Head). InRange n y) (sym (give_up_some k n m x e)) (rec (give_up_one x m) (gone_ranged n x r m))

-- frames

abbrev FramesOk : ℕ → List Frame → Type 0
FramesOk n fs = (f : Frame) → Memᴰ f fs → frame_ok n f ≡ true

no_frames : (n : ℕ) → FramesOk n []
no_frames n f o = absurd (Memᴰ.not-nil o)

one_frame : (n : ℕ) (f : Frame) → frame_ok n f ≡ true → FramesOk n (f ∷ [])
one_frame n f ok g o = subst (λ (h : Frame). frame_ok n h ≡ true) (sym (Memᴰ.eq_of_singleton o)) ok

more_frames : (n : ℕ) (fs gs : List Frame) → FramesOk n fs → FramesOk n gs → FramesOk n (fs ++ gs)
more_frames n fs gs a b f o = elim (Memᴰ.append_cases fs o) [ inl z ↦ a f z | inr z ↦ b f z ]

another_below : (n me g : ℕ) → 0 < n → g < n → another n me g < n
another_below n me g z h = elim (cases_Bool (eqb g me)) [
  | inl e ↦ omega (arith, cond-true (eqb g me) (after n g) g e, mod-lt (g + 1) z)
  | inr e ↦ omega (arith, cond-false (eqb g me) (after n g) g e)
]

-- whom a NACK asks is a head of the ring, or everyone
asked_is_ok : (n : ℕ) (x : Head) → 0 < n → asked_ok n (asked n x) ≡ true
asked_is_ok n x z =
    let g : ℕ = another n x.me ((issuer_or 0 (top x) + x.tries) % n) in
    elim (cases_Bool (leb n x.tries)) [
      | inl e ↦ ap (asked_ok n) (cond-true (leb n x.tries) everyone (one g) e)
      | inr e ↦ ap (asked_ok n) (cond-false (leb n x.tries) everyone (one g) e) ∙ lt-ltb g n (another_below n x.me ((issuer_or 0 (top x) + x.tries) % n) z (mod-lt (issuer_or 0 (top x) + x.tries) z))
    ]

-- what is ordered was pending

run_ok : (n : ℕ) (x : Head) (s b k : ℕ) → InRange n x → names_ok n (run_of x.pending s b k) ≡ true
unfolding run_of
run_ok n x s zero k r = refl
run_ok n x s (suc b) k r = go (x.pending s k) refl (run_ok n x s b (suc k) r)
  where
    go : (o : Option Kept) → x.pending s k ≡ o → names_ok n (run_of x.pending s b (suc k)) ≡ true → names_ok n (elim o [ None ↦ [] | Some m ↦ record { source = s; number = k; level = m.level } ∷ run_of x.pending s b (suc k) ]) ≡ true
    go None e i = refl
    go (Some m) e i = and_from _ _ (and_parts (name_ok n (kept_message s k m).name) (body_length_ok (length m.body)) (r.pending_ok s k m e)).0 i

gather_ok : (n : ℕ) (x : Head) (j s b : ℕ) → InRange n x → names_ok n (gather n x j s b) ≡ true
unfolding gather
gather_ok n x zero s b r = refl
gather_ok n x (suc j) s b r = names_join n (run_of x.pending s b (suc (low x s))) (gather n x j (after n s) (b - length (run_of x.pending s b (suc (low x s))))) (run_ok n x s b (suc (low x s)) r) (gather_ok n x j (after n s) (b - length (run_of x.pending s b (suc (low x s)))) r)

pub order_ok : (n : ℕ) (x : Head) → InRange n x → names_ok n (to_order n x) ≡ true
unfolding to_order
order_ok n x r = gather_ok n x n x.me 4 r

-- the own message that is put again
own_ok : (n : ℕ) (x : Head) (j k : ℕ) → InRange n x → FramesOk n (lowest_own x j k)
unfolding lowest_own
own_ok n x zero k r = no_frames n
own_ok n x (suc j) k r = go (x.pending x.me k) refl (own_ok n x j (suc k) r)
  where
    go : (o : Option Kept) → x.pending x.me k ≡ o → FramesOk n (lowest_own x j (suc k)) → FramesOk n (elim o [ None ↦ lowest_own x j (suc k) | Some m ↦ data_frame (record { name = record { source = x.me; number = k; level = m.level }; body = m.body }) ∷ [] ])
    go None e i = i
    go (Some m) e i = one_frame n (data_frame (kept_message x.me k m)) (r.pending_ok x.me k m e)

-- the calls

module _ (n : ℕ) (x : Head) (r : InRange n x) where
  refuses : (e : Refusal) → Writable n (refuse e x)
  refuses e = record { after = r; frames_ok = no_frames n }

  settles : (a : Answer) (y : Head) (fs : List Frame) → InRange n y → FramesOk n fs → Writable n (done n a y fs)
  settles a y fs s f = record { after = settled_ranged 96 n y s; frames_ok = f }

  stands : (a : Answer) → Writable n (done n a x [])
  stands a = settles a x [] r (no_frames n)

  submit_writable : (l : ℕ) (b : List ℕ) → Writable n (submit n l b x)
  unfolding submit
  submit_writable l b =
      by_bool (Writable n) (level_ok n l) _ _ (λ e1. by_bool (Writable n) (body_length_ok (length b)) _ _ (λ e2. by_bool (Writable n) (leb 4 (x.made - low x x.me)) _ _ (λ e3. record { after = r; frames_ok = no_frames n }) (λ e3. by_bool (Writable n) (number_ok (suc x.made)) _ _ (λ e4. makes (and_from _ _ (and_from _ _ (lt-ltb x.me n r.one_of_n) (and_from _ _ e4 e1)) e2)) (λ e4. record { after = r; frames_ok = no_frames n }))) (λ e2. record { after = r; frames_ok = no_frames n })) (λ e1. record { after = r; frames_ok = no_frames n })
    where
      makes : frame_ok n (data_frame (new_message x l b)) ≡ true → Writable n (done n (made_it (suc x.made)) (with_made (keep x (new_message x l b)) (suc x.made)) (data_frame (new_message x l b) ∷ []))
      makes ok = settles (made_it (suc x.made)) (with_made (keep x (new_message x l b)) (suc x.made)) (data_frame (new_message x l b) ∷ []) (made_ranged n (keep x (new_message x l b)) (keep_ranged n x r (new_message x l b) ok) (suc x.made)) (one_frame n (data_frame (new_message x l b)) ok)

  slot_writable : (m : Message) (t : ℕ) (s : Slot) → frame_ok n (data_frame m) ≡ true → slot_ok n t s ≡ true → Writable n (hear_slot n x m t s)
  slot_writable m t unknown ok s = record { after = r; frames_ok = no_frames n }
  slot_writable m t (ack i ns) ok s = record { after = r; frames_ok = no_frames n }
  slot_writable m t (bare y) ok s = by_bool (Writable n) (eqb m.name.level y.level) _ _ (λ z. settles Answer.filled (fill x t m) [] (fill_ranged n x r t m (and_parts (stamp_ok t) (name_ok n y) s).0 ok) (no_frames n)) (λ z. record { after = r; frames_ok = no_frames n })
  slot_writable m t (whole k) ok s = by_bool (Writable n) (eqb m.name.level k.name.level && same_bytes m.body k.body) _ _ (λ z. stands Answer.repeat) (λ z. record { after = r; frames_ok = no_frames n })

  pending_writable : (m : Message) (k : Option Kept) → frame_ok n (data_frame m) ≡ true → Writable n (hear_pending n x m k)
  pending_writable m None ok = settles Answer.kept (keep x m) [] (keep_ranged n x r m ok) (no_frames n)
  pending_writable m (Some k) ok = by_bool (Writable n) (same_kept m k) _ _ (λ z. stands Answer.repeat) (λ z. record { after = r; frames_ok = no_frames n })

  known_writable : (m : Message) (o : Option ℕ) → frame_ok n (data_frame m) ≡ true → Writable n (hear_known n x m o)
  known_writable m None ok = by_bool (Writable n) (leb m.name.number (low x m.name.source)) _ _ (λ z. stands Answer.repeat) (λ z. by_bool (Writable n) (ltb (low x m.name.source + 4) m.name.number) _ _ (λ y. stands Answer.far) (λ y. pending_writable m (x.pending m.name.source m.name.number) ok))
  known_writable m (Some t) ok = slot_writable m t (x.queue t) ok (r.slots_ok t)

  data_writable : (m : Message) → frame_ok n (data_frame m) ≡ true → Writable n (hear_data n m x)
  unfolding hear_data
  data_writable m ok = by_bool (Writable n) (own_above x m.name) _ _ (λ z. record { after = r; frames_ok = no_frames n }) (λ z. known_writable m (place_of x.queue m.name 96 x.base) ok)

  new_writable : (a : Ack) → frame_ok n (ack_frame a) ≡ true → Writable n (hear_new n x a)
  new_writable a ok = by_bool (Writable n) (contradicts x a) _ _ (λ z. record { after = r; frames_ok = no_frames n }) (λ z. settles Answer.placed (place x a) [] (place_ranged n x r a ok) (no_frames n))

  at_writable : (a : Ack) (s : Slot) → frame_ok n (ack_frame a) ≡ true → Writable n (hear_at n x a s)
  at_writable a unknown ok = new_writable a ok
  at_writable a (ack i ns) ok = by_bool (Writable n) (eqb i a.issuer && same_names ns a.names) _ _ (λ z. stands Answer.repeat) (λ z. record { after = r; frames_ok = no_frames n })
  at_writable a (bare y) ok = new_writable a ok
  at_writable a (whole m) ok = new_writable a ok

  ack_writable : (a : Ack) → frame_ok n (ack_frame a) ≡ true → Writable n (hear_ack n a x)
  unfolding hear_ack
  ack_writable a ok = by_bool (Writable n) (ltb a.stamp x.base) _ _ (λ z. stands Answer.repeat) (λ z. by_bool (Writable n) (ltb (x.base + 95) (a.stamp + size a)) _ _ (λ y. stands Answer.crowded) (λ y. at_writable a (x.queue a.stamp) ok))

  slot_frames : (t : ℕ) (s : Slot) → slot_ok n t s ≡ true → FramesOk n (frames_of s t)
  slot_frames t unknown h = no_frames n
  slot_frames t (ack i ns) h = one_frame n (ack_frame (record { stamp = t; issuer = i; names = ns })) h
  slot_frames t (bare y) h = no_frames n
  slot_frames t (whole m) h = one_frame n (data_frame m) (and_parts (stamp_ok t) (frame_ok n (data_frame m)) h).1

  resend_writable : (fs : List Frame) → FramesOk n fs → Writable n (resend n x fs)
  resend_writable [] h = stands Answer.nothing
  resend_writable (f ∷ fs) h = settles Answer.resent x (f ∷ fs) r h

  nack_writable : (from : ℕ) (to : Asked) (t : ℕ) → Writable n (hear_nack n from to t x)
  unfolding hear_nack
  nack_writable from to t = by_bool (Writable n) (asks to x.me && (not (eqb from x.me) && leb x.base t)) _ _ (λ z. resend_writable (frames_of (x.queue t) t) (slot_frames t (x.queue t) (r.slots_ok t))) (λ z. stands Answer.nothing)

  read_writable : (o : Result Frame Refusal) → ((f : Frame) → o ≡ Ok f → frame_ok n f ≡ true) → Writable n (hear_read n x o)
  read_writable (Ok (data_frame m)) h = data_writable m (h (data_frame m) refl)
  read_writable (Ok (ack_frame a)) h = ack_writable a (h (ack_frame a) refl)
  read_writable (Ok (nack_frame f o t)) h = nack_writable f o t
  read_writable (Err e) h = record { after = r; frames_ok = no_frames n }

  hear_writable : (t : Option (List ℕ)) → Writable n (hear n t x)
  unfolding hear
  hear_writable None = stands Answer.quiet
  hear_writable (Some p) = read_writable (read n p) (read_in n p)

  -- a new ACK can be written

  end_from : 1 ≤ end x
  unfolding end
  end_from = omega (arith, (past_last_ends known x.queue 96 x.base).from, r.from_one)

  pub new_ok : (xs : List Name) → length xs ≤ 4 → names_ok n xs ≡ true → stamps_left x ≡ true → frame_ok n (ack_frame (new_ack x xs)) ≡ true
  new_ok xs few ok left =
      let top : end x + 4 ≤ 1000000 = leb-true (end x + 4) 1000000 (and_parts (leb 1 (end x + 4)) (leb (end x + 4) 1000000) left).1 in
      and_from _ _ (le-leb 1 (end x) end_from) (and_from _ _ (le-leb (end x + length xs) 1000000 (omega arith)) (and_from _ _ (lt-ltb x.me n r.one_of_n) (and_from _ _ (le-leb (length xs) 4 few) ok)))

  issue_writable : (xs : List Name) (a : Answer) (fs : List Frame) → length xs ≤ 4 → names_ok n xs ≡ true → stamps_left x ≡ true → (InRange n (place x (new_ack x xs)) → FramesOk n fs) → Writable n (issue n x xs a fs)
  issue_writable xs a fs few ok left f =
      let o : frame_ok n (ack_frame (new_ack x xs)) ≡ true = new_ok xs few ok left in
      let p : InRange n (place x (new_ack x xs)) = place_ranged n x r (new_ack x xs) o in
      record { after = settled_ranged 96 n (place x (new_ack x xs)) p; frames_ok = λ g q. elim (Memᴰ.cases_cons q) [ inl z ↦ subst (λ (h : Frame). frame_ok n h ≡ true) (sym z) o | inr z ↦ f p g z ] }

  turn_fits : (xs : List Name) → length xs ≤ 4 → names_ok n xs ≡ true → Writable n (turn_with n x xs)
  turn_fits [] few ok = stands Answer.nothing
  turn_fits (y ∷ ys) few ok = by_bool (Writable n) (room x) _ _ (λ q. by_bool (Writable n) (stamps_left x) _ _ (λ s. issue_writable (y ∷ ys) (ordered (end x) (length (y ∷ ys))) [] few ok s (λ _. no_frames n)) (λ s. record { after = r; frames_ok = no_frames n })) (λ q. stands Answer.crowded)

  turn_writable : Writable n (turn n x)
  unfolding turn
  turn_writable = by_bool (Writable n) (holds n x) _ _ (λ h. turn_fits (to_order n x) (order_few n x) (order_ok n x r)) (λ h. stands Answer.not_yours)

  -- tick

  again_ok : (o : Option Ack) → Last x.queue 96 x.base o → FramesOk n (own_again x o)
  again_ok None q = no_frames n
  again_ok (Some a) q = elim (cases_Bool (eqb a.issuer x.me)) [
    | inl z ↦ subst (λ (fs : List Frame). FramesOk n fs) (sym (cond-true (eqb a.issuer x.me) (ack_frame a ∷ []) [] z)) (one_frame n (ack_frame a) (sym (ap (slot_ok n a.stamp) q.2) ∙ r.slots_ok a.stamp))
    | inr z ↦ subst (λ (fs : List Frame). FramesOk n fs) (sym (cond-false (eqb a.issuer x.me) (ack_frame a ∷ []) [] z)) (no_frames n)
  ]

  fire_writable : (fs : List Frame) → FramesOk n fs → Writable n (fire n x fs)
  unfolding top
  fire_writable fs f =
      let gs : List Frame = fs ++ (own_again x (top x) ++ own_message x) in
      settles (fired (length gs)) (with_clock x 0 (min 15 (suc x.tries))) gs (clock_ranged n x r 0 (min 15 (suc x.tries))) (more_frames n fs (own_again x (top x) ++ own_message x) f (more_frames n (own_again x (top x)) (own_message x) (again_ok (top x) (last_ack_last x.queue 96 x.base)) (own_ok n x 4 (suc (low x x.me)) r)))

  -- what is missing below end has a stamp in its range
  mark_stamped : mark x < end x → stamp_ok (mark x) ≡ true
  unfolding mark end
  mark_stamped h =
      let m : Stops full x.queue 96 x.base (mark x) = first_not_stops full x.queue 96 x.base in
      let e : Ends known x.queue 96 x.base (end x) = past_last_ends known x.queue 96 x.base in
      elim e.last [
        | inl o ↦ absurd (omega (arith, m.from))
        | inr o ↦ stamped (mark x) (omega (arith, m.from, r.from_one)) (omega (arith, o.1, stamp_known n o.0 (x.queue o.0) (r.slots_ok o.0) o.3))
      ]

  nack_ok : mark x < end x → frame_ok n (nack_frame x.me (asked n x) (mark x)) ≡ true
  nack_ok h = and_from _ _ (lt-ltb x.me n r.one_of_n) (and_from _ _ (asked_is_ok n x (omega (arith, r.one_of_n))) (mark_stamped h))

  fire_ack_writable : (xs : List Name) → length xs ≤ 4 → names_ok n xs ≡ true → stamps_left x ≡ true → Writable n (issue n x xs (fired (suc (length (own_message (place x (new_ack x xs)))))) (own_message (place x (new_ack x xs))))
  fire_ack_writable xs few ok s =
      let y : Head = place x (new_ack x xs) in
      issue_writable xs (fired (suc (length (own_message y)))) (own_message y) few ok s (λ p. own_ok n y 4 (suc (low y y.me)) p)

  tick_fits : (xs : List Name) → length xs ≤ 4 → names_ok n xs ≡ true → stamps_left x ≡ true → Writable n (tick_with n x xs)
  tick_fits [] few ok s = by_bool (Writable n) (busy x.queue 96 x.base n) _ _ (λ z. fire_ack_writable [] few ok s) (λ z. fire_writable [] (no_frames n))
  tick_fits (y ∷ ys) few ok s = fire_ack_writable (y ∷ ys) few ok s

  tick_writable : Writable n (tick n x)
  unfolding tick
  tick_writable =
      by_bool (Writable n) (ltb (suc x.ticks) (wait x.tries)) _ _
      (λ z. settles Answer.idle (with_clock x (suc x.ticks) x.tries) [] (clock_ranged n x r (suc x.ticks) x.tries) (no_frames n))
      (λ z. by_bool (Writable n) (ltb (mark x) (end x)) _ _ (λ y. fire_writable (nack_frame x.me (asked n x) (mark x) ∷ []) (one_frame n (nack_frame x.me (asked n x) (mark x)) (nack_ok (ltb-true (mark x) (end x) y)))) (λ y. by_bool (Writable n) (holds n x && (room x && stamps_left x)) _ _ (λ h. tick_fits (to_order n x) (order_few n x) (order_ok n x r) (and_parts (room x) (stamps_left x) (and_parts (holds n x) (room x && stamps_left x) h).1).1) (λ h. fire_writable [] (no_frames n))))

  -- deliver

  hand_writable : (y : Head) (s : Slot) → InRange n y → Writable n (hand_over n y s)
  hand_writable y unknown q = settles Answer.waiting y [] q (no_frames n)
  hand_writable y (ack i ns) q = settles Answer.waiting y [] q (no_frames n)
  hand_writable y (bare k) q = settles Answer.waiting y [] q (no_frames n)
  hand_writable y (whole m) q = by_bool (Writable n) (leb (needs n m.name.level) (holders n y y.due)) _ _ (λ z. settles (delivered m y.due) (with_due y (suc y.due)) [] (due_ranged n y q (suc y.due)) (no_frames n)) (λ z. settles Answer.waiting y [] q (no_frames n))

  deliver_writable : Writable n (deliver n x)
  unfolding deliver
  deliver_writable = hand_writable (past_acks x) ((past_acks x).queue (past_acks x).due) (due_ranged n x r (past_acks x).due)

fresh_ranged : (n h : ℕ) → h < n → InRange n (fresh h)
unfolding fresh
fresh_ranged n h b = record { one_of_n = b; from_one = omega arith; pending_ok = λ s k p e. (let z : ◌≡◌ {A = ℕ} 0 1 = cc e in absurd (omega arith)); slots_ok = λ t. refl }

pub stays_in_range : StaysInRange
stays_in_range n = (fresh_ranged n, λ h r. record { submitting = submit_writable n h r; hearing = hear_writable n h r; turning = turn_writable n h r; ticking = tick_writable n h r; delivering = deliver_writable n h r })
