-- hear keeps what holds of the ring, and is never refused.
use Rattle.std.proofs.Common.{◌≡◌, ℕ, ◌+◌, ◌<◌, ◌≤◌, Bool, true, false, not, ◌&&◌, eqb, ltb, leb, List, [], ◌∷◌, Some, None, Ok, Option, Result, sym, refl, ap, ◌∙◌, subst, inl, inr, arith}
use mathlib.Core.List.Memᴰ
use mathlib.Core.List.{Memᴰ}
use Rattle.std.proofs.lemmas.Bool.{both_ways, eq-eqb, and_parts, leb-true, ltb-false}
use Rattle.frames.specs.Reading.{read}
use Rattle.frames.specs.Refusals.{number_of}
use Rattle.frames.specs.Values.{Ack, Asked, Frame, Message, Name, ack_frame, data_frame, nack_frame}
use Rattle.frames.specs.Written.{written}
use Rattle.frames.specs.declared.refusal.Refusal.{Refusal}
use Rattle.frames.proofs.Laws.{reads_back}
use Rattle.links.specs.Meaning.{Waits}
use Rattle.head.specs.Answers.{Answer, Done, done}
use Rattle.head.specs.Head.{Head, Kept, fill, keep, low, place}
use Rattle.head.specs.Hear.{asks, contradicts, frames_of, hear, hear_ack, hear_at, hear_data, hear_frame, hear_known, hear_nack, hear_pending, hear_read, hear_slot, hear_window, own_above, resend, same_kept}
use Rattle.head.specs.Queue.{names_it, place_of}
use Rattle.head.specs.Slots.{Slot, ack, bare, known, named, same_bytes, same_names, size, unknown, whole}
use Rattle.head.proofs.Names.{place_found}
use Rattle.head.proofs.Placing.{place_same}
use Rattle.head.proofs.Slots.{stripped}
use Rattle.head.proofs.Ways.{by_bool}
use Rattle.ring.specs.Record.{Submitted}
use Rattle.ring.specs.Ring.{Event, hears}
use Rattle.ring.proofs.Changes.{Levels, fill_mark, fills, keep_mark, keeps, place_mark, places}
use Rattle.ring.proofs.Consistent.{bare_level, block_unknown, consistent, no_data, not_above, pending_same, same_ack, same_levels, whole_same}
use Rattle.ring.proofs.Invariant.{HeadInv, Held, Inv, Sane, Waiting, head_later, later}
use Rattle.ring.proofs.Token.{Logged, ack_logged}
use Rattle.ring.proofs.Unissued.{Good, answers, event_of, plain, stays}

-- an answer that refuses for what the radio brought
abbrev pub by_radio : Answer → Bool
by_radio (Answer.refused e) = leb 11 (number_of e) && leb (number_of e) 13
by_radio (Answer.made_it k) = false
by_radio Answer.quiet = false
by_radio Answer.repeat = false
by_radio Answer.filled = false
by_radio Answer.far = false
by_radio Answer.kept = false
by_radio Answer.crowded = false
by_radio Answer.placed = false
by_radio Answer.resent = false
by_radio Answer.nothing = false
by_radio Answer.not_yours = false
by_radio (Answer.ordered t m) = false
by_radio Answer.idle = false
by_radio (Answer.fired k) = false
by_radio Answer.waiting = false
by_radio (Answer.delivered m t) = false

-- what hear must show of what it does with a packet
abbrev pub Heard : ℕ → List Event → List Ack → (ℕ → Head) → ℕ → Option (List ℕ) → Done → Type 0
Heard n es l hs w t d = Good n es l hs w hears t d × (by_radio d.answer ≡ false)

module _ (n : ℕ) (es : List Event) (l : List Ack) (hs : ℕ → Head) (v : Waits) (two : 2 ≤ n) (i : Inv n es l hs v) (w : ℕ) (b : w < n) where
  -- Data

  module _ (m : Message) (sub : Submitted m es) where
    abbrev taken : Option (List ℕ)
    taken = Some (written n (data_frame m))

    abbrev Fits : Done → Type 0
    Fits = Heard n es l hs w taken

    again : Fits (done n Answer.repeat (hs w) [])
    again = (stays n es l hs v two i w b hears taken Answer.repeat refl, refl)

    keep_done : Fits (done n Answer.kept (keep (hs w) m) [])
    unfolding keep
    keep_done =
        let d : Done = done n Answer.kept (keep (hs w) m) [] in
        let e : Event = event_of n w hears taken d in
        let u : Held n (e ∷ es) w m = record { submitted = later sub; came = inr (e, Memᴰ.head refl, record { who = refl; call = refl; frame = refl; answer = inl refl }) } in
        (answers n es l hs v two i w b hears taken Answer.kept (keep (hs w) m) [] refl (keeps n (e ∷ es) l w (hs w) m u (head_later n e es l w (hs w) (i.heads w b))) (omega (arith, keep_mark (hs w) m)) refl refl refl (λ f o. absurd (Memᴰ.not-nil o)), refl)

    fill_done : (t : ℕ) → (hs w).base ≤ t → (hs w).queue t ≡ bare m.name → Fits (done n Answer.filled (fill (hs w) t m) [])
    unfolding fill
    fill_done t from was =
        let d : Done = done n Answer.filled (fill (hs w) t m) [] in
        let e : Event = event_of n w hears taken d in
        let u : Held n (e ∷ es) w m = record { submitted = later sub; came = inr (e, Memᴰ.head refl, record { who = refl; call = refl; frame = refl; answer = inr refl }) } in
        let g : HeadInv n (e ∷ es) l w (hs w) = head_later n e es l w (hs w) (i.heads w b) in
        (answers n es l hs v two i w b hears taken Answer.filled (fill (hs w) t m) [] refl (fills n (e ∷ es) l w (hs w) t m g from was u) (fill_mark n (e ∷ es) l w (hs w) t m g from was u) refl refl refl (λ f o. absurd (Memᴰ.not-nil o)), refl)

    slot_fits : (t : ℕ) (s : Slot) → (hs w).queue t ≡ s → (hs w).base ≤ t → names_it m.name (named s) ≡ true → Fits (hear_slot n (hs w) m t s)
    slot_fits t unknown e f q = let z : ◌≡◌ {A = ℕ} 0 1 = cc q in absurd (omega arith)
    slot_fits t (ack o ns) e f q = let z : ◌≡◌ {A = ℕ} 0 1 = cc q in absurd (omega arith)
    slot_fits t (bare x) e f q =
        let same : m.name ≡ x = bare_level n es l hs v i w b m t x sub f e q in
        by_bool Fits (eqb m.name.level x.level) _ _ (λ z. fill_done t f (e ∙ ap bare (sym same))) (λ z. absurd (both_ways (eqb m.name.level x.level) z (eq-eqb m.name.level x.level (ap (λ (y : Name). y.level) same))))
    slot_fits t (whole k) e f q = by_bool Fits (eqb m.name.level k.name.level && same_bytes m.body k.body) _ _ (λ z. again) (λ z. absurd (both_ways (eqb m.name.level k.name.level && same_bytes m.body k.body) z (whole_same n es l hs v i w b m k t sub f e q)))

    pending_fits : (r : Option Kept) → (hs w).pending m.name.source m.name.number ≡ r → Fits (hear_pending n (hs w) m r)
    pending_fits None e = keep_done
    pending_fits (Some k) e = by_bool Fits (same_kept m k) _ _ (λ z. again) (λ z. absurd (both_ways (same_kept m k) z (pending_same n es l hs v i w b m k sub e)))

    window_fits : Fits (hear_window n (hs w) m)
    window_fits = by_bool Fits (ltb (low (hs w) m.name.source + 4) m.name.number) _ _ (λ y. (stays n es l hs v two i w b hears taken Answer.far refl, refl)) (λ y. pending_fits ((hs w).pending m.name.source m.name.number) refl)

    known_fits : (r : Option ℕ) → place_of (hs w).queue m.name 96 (hs w).base ≡ r → Fits (hear_known n (hs w) m r)
    known_fits None e = by_bool Fits (leb m.name.number (low (hs w) m.name.source)) _ _ (λ z. again) (λ z. window_fits)
    known_fits (Some t) e =
        let p : ((hs w).base ≤ t) × (t < (hs w).base + 96) × (names_it m.name (named ((hs w).queue t)) ≡ true) = place_found (hs w).queue m.name 96 (hs w).base t e in
        slot_fits t ((hs w).queue t) refl p.0 p.2

    data_good : Fits (hear_data n m (hs w))
    unfolding hear_data
    data_good = by_bool Fits (own_above (hs w) m.name) _ _ (λ z. absurd (both_ways (own_above (hs w) m.name) (not_above n es l hs v i w b m.name (m, refl, sub)) z)) (λ z. known_fits (place_of (hs w).queue m.name 96 (hs w).base) refl)

  -- ACK

  module _ (a : Ack) (log : Memᴰ a l) where
    abbrev brought : Option (List ℕ)
    brought = Some (written n (ack_frame a))

    abbrev Suits : Done → Type 0
    Suits = Heard n es l hs w brought

    stands : (an : Answer) → plain an ≡ true → by_radio an ≡ false → Suits (done n an (hs w) [])
    stands an p q = (stays n es l hs v two i w b hears brought an p, q)

    module _ (from : (hs w).base ≤ a.stamp) (to : a.stamp + size a ≤ (hs w).base + 95) where
      place_done : (hs w).queue a.stamp ≡ unknown → Suits (done n Answer.placed (place (hs w) a) [])
      place_done none =
          let d : Done = done n Answer.placed (place (hs w) a) [] in
          let e : Event = event_of n w hears brought d in
          let g : HeadInv n (e ∷ es) l w (hs w) = head_later n e es l w (hs w) (i.heads w b) in
          let free : (s : ℕ) → a.stamp ≤ s → s ≤ a.stamp + size a → known ((hs w).queue s) ≡ false = block_unknown n es l hs v i w b a log from to none in
          let levels : Levels (hs w) a = same_levels n es l hs v i w b a log from to none in
          (answers n es l hs v two i w b hears brought Answer.placed (place (hs w) a) [] refl (places n (e ∷ es) l w (hs w) a i.chain g log from to free levels) (place_mark n (e ∷ es) l w (hs w) a i.chain g log from to free levels) (place_same (hs w) a).0 (place_same (hs w) a).1 (place_same (hs w) a).2 (λ f o. absurd (Memᴰ.not-nil o)), refl)

      at_suits : (s : Slot) → (hs w).queue a.stamp ≡ s → Suits (hear_at n (hs w) a s)
      at_suits unknown e = by_bool Suits (contradicts (hs w) a) _ _ (λ z. absurd (both_ways (contradicts (hs w) a) (consistent n es l hs v i w b a log from to e) z)) (λ z. place_done e)
      at_suits (ack o ns) e = by_bool Suits (eqb o a.issuer && same_names ns a.names) _ _ (λ z. stands Answer.repeat refl refl) (λ z. absurd (both_ways (eqb o a.issuer && same_names ns a.names) z (same_ack n es l hs v i w b a log from o ns e)))
      at_suits (bare x) e = absurd (no_data n es l hs v i w b a log from x (ap stripped e) (ap known e))
      at_suits (whole m) e = absurd (no_data n es l hs v i w b a log from m.name (ap stripped e) (ap known e))

    ack_good : Suits (hear_ack n a (hs w))
    unfolding hear_ack
    ack_good = by_bool Suits (ltb a.stamp (hs w).base) _ _ (λ z. stands Answer.repeat refl refl) (λ z. by_bool Suits (ltb ((hs w).base + 95) (a.stamp + size a)) _ _ (λ y. stands Answer.crowded refl refl) (λ y. at_suits (ltb-false a.stamp (hs w).base z) (ltb-false ((hs w).base + 95) (a.stamp + size a) y) ((hs w).queue a.stamp) refl))

  -- NACK

  pub logged_mem : (t o : ℕ) (ns : List Name) → (hs w).base ≤ t → (hs w).queue t ≡ ack o ns → Memᴰ (record { stamp = t; issuer = o; names = ns }) l
  logged_mem t o ns f e =
      let g : (d : Ack) × Logged l t o ns d = ack_logged n l (hs w).queue (hs w).base t o ns i.chain (i.heads w b).agrees f e in
      let d : Ack = g.0 in
      let eq : d ≡ record { stamp = t; issuer = o; names = ns } = λ j. record { stamp = g.1.1 j; issuer = g.1.2 j; names = g.1.3 j } in
      subst (λ (y : Ack). Memᴰ y l) eq g.1.0

  -- what a slot is sent as is sane
  pub sent : (ev : Event) (t : ℕ) (s : Slot) → (hs w).base ≤ t → (hs w).queue t ≡ s → (f : Frame) → Memᴰ f (frames_of s t) → Sane (ev ∷ es) l f
  sent ev t unknown b' e f o = absurd (Memᴰ.not-nil o)
  sent ev t (ack k ns) b' e f o = subst (λ (g : Frame). Sane (ev ∷ es) l g) (sym (Memᴰ.eq_of_singleton o)) (logged_mem t k ns b' e)
  sent ev t (bare x) b' e f o = absurd (Memᴰ.not-nil o)
  sent ev t (whole m) b' e f o = subst (λ (g : Frame). Sane (ev ∷ es) l g) (sym (Memᴰ.eq_of_singleton o)) (later ((i.heads w b).bodies t m b' e).submitted)

  module _ (from : ℕ) (to : Asked) (t : ℕ) where
    abbrev asking : Option (List ℕ)
    asking = Some (written n (nack_frame from to t))

    abbrev Lets : Done → Type 0
    Lets = Heard n es l hs w asking

    nothing_done : Lets (done n Answer.nothing (hs w) [])
    nothing_done = (stays n es l hs v two i w b hears asking Answer.nothing refl, refl)

    resend_lets : (fs : List Frame) → ((ev : Event) (f : Frame) → Memᴰ f fs → Sane (ev ∷ es) l f) → Lets (resend n (hs w) fs)
    resend_lets [] h = nothing_done
    resend_lets (f ∷ fs) h =
        let d : Done = done n Answer.resent (hs w) (f ∷ fs) in
        let e : Event = event_of n w hears asking d in
        (answers n es l hs v two i w b hears asking Answer.resent (hs w) (f ∷ fs) refl (head_later n e es l w (hs w) (i.heads w b)) (omega arith) refl refl refl (h e), refl)

    nack_good : Lets (hear_nack n from to t (hs w))
    unfolding hear_nack
    nack_good = by_bool Lets (asks to (hs w).me && (not (eqb from (hs w).me) && leb (hs w).base t)) _ _
        (λ z.
        let p : (asks to (hs w).me ≡ true) × ((not (eqb from (hs w).me) && leb (hs w).base t) ≡ true) = and_parts (asks to (hs w).me) (not (eqb from (hs w).me) && leb (hs w).base t) z in
        let q : (not (eqb from (hs w).me) ≡ true) × (leb (hs w).base t ≡ true) = and_parts (not (eqb from (hs w).me)) (leb (hs w).base t) p.1 in
        resend_lets (frames_of ((hs w).queue t) t) (λ ev. sent ev t ((hs w).queue t) (leb-true (hs w).base t q.1) refl))
        (λ z. nothing_done)

  -- packets

  frame_good : (f : Frame) → Sane es l f → Heard n es l hs w (Some (written n f)) (hear_frame n f (hs w))
  frame_good (data_frame m) s = data_good m s
  frame_good (ack_frame a) s = ack_good a s
  frame_good (nack_frame f o t) s = nack_good f o t

  -- what waits reads back as the frame that was written
  pub packet_good : n ≤ 255 → (p : List ℕ) → Waiting n es l p → Heard n es l hs w (Some p) (hear n (Some p) (hs w))
  unfolding hear
  packet_good small p k =
      let f : Frame = k.0 in
      let r : read n (written n f) ≡ Ok f = reads_back n f small k.2 in
      subst (λ (q : List ℕ). Heard n es l hs w (Some q) (hear n (Some q) (hs w))) (sym k.1) (subst (λ (x : Result Frame Refusal). Heard n es l hs w (Some (written n f)) (hear_read n (hs w) x)) (sym r) (frame_good f k.3))

  pub quiet_good : Heard n es l hs w None (hear n None (hs w))
  unfolding hear
  quiet_good = (stays n es l hs v two i w b hears None Answer.quiet refl, refl)
