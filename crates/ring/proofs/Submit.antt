-- submit
use Rattle.std.proofs.Common.{◌≡◌, ℕ, suc, ◌-◌, ◌<◌, ◌≤◌, leb, List, [], ◌∷◌, map, length, None, sym, refl, ap, ◌∙◌, subst, inl, arith}
use mathlib.Core.List.Memᴰ
use Rattle.frames.specs.Bounds.{body_length_ok, level_ok, number_ok}
use Rattle.frames.specs.Values.{Ack, Frame, Message, data_frame}
use Rattle.frames.specs.declared.refusal.Refusal.{Refusal}
use Rattle.frames.specs.declared.refusal.Refusal.TheVariants.{BadBodyLength, BadLevel, NumbersUsedUp, TooManyUnordered}
use Rattle.links.specs.Meaning.{Waits}
use Rattle.head.specs.Answers.{Done, done, made_it, refuse}
use Rattle.head.specs.Head.{Head, keep, low, with_made}
use Rattle.head.specs.Submit.{new_message, submit}
use Rattle.head.proofs.Ways.{by_bool}
use Rattle.ring.specs.Record.{Happened, Submits, Submitted}
use Rattle.ring.specs.Ring.{Event, submits}
use Rattle.ring.proofs.Changes.{counted_made, keep_mark, keeps, made_mark}
use Rattle.ring.proofs.Invariant.{Held, Inv, Sane, head_later}
use Rattle.ring.proofs.Unissued.{Good, Unissued, event_of, refuses, silent_counted, silent_sub, silent_told, unissued_settles}

module _ (n : ℕ) (es : List Event) (l : List Ack) (hs : ℕ → Head) (v : Waits) (two : 2 ≤ n) (i : Inv n es l hs v) (w : ℕ) (b : w < n) (lv : ℕ) (bd : List ℕ) where
  made_done : Done
  made_done = done n (made_it (suc (hs w).made)) (with_made (keep (hs w) (new_message (hs w) lv bd)) (suc (hs w).made)) (data_frame (new_message (hs w) lv bd) ∷ [])

  made_event : Event
  made_event = event_of n w (submits lv bd) None made_done

  made_submits : Submits (hs w).me (new_message (hs w) lv bd) made_event
  unfolding made_event made_done
  made_submits = record { who = sym (i.heads w b).is_me; call = refl; source = refl; answer = refl }

  made_submitted : Submitted (new_message (hs w) lv bd) (made_event ∷ es)
  made_submitted = (made_event, Memᴰ.head refl, made_submits)

  made_held : Held n (made_event ∷ es) w (new_message (hs w) lv bd)
  made_held = record { submitted = made_submitted; came = inl (subst (λ (g : ℕ). Happened (Submits g (new_message (hs w) lv bd)) (made_event ∷ es)) (i.heads w b).is_me made_submitted) }

  made_unissued : Unissued n es l hs made_event (with_made (keep (hs w) (new_message (hs w) lv bd)) (suc (hs w).made))
  unfolding made_event made_done keep
  made_unissued = record {
    inv = counted_made n (made_event ∷ es) l w (suc (hs w).made) (keep (hs w) (new_message (hs w) lv bd)) (keeps n (made_event ∷ es) l w (hs w) (new_message (hs w) lv bd) made_held (head_later n made_event es l w (hs w) (i.heads w b)));
    mark_up = omega (arith, made_mark (suc (hs w).made) (keep (hs w) (new_message (hs w) lv bd)), keep_mark (hs w) (new_message (hs w) lv bd));
    base_same = refl;
    made_up = omega arith;
    fresh = λ m o. (let f : made_it (suc (hs w).made) ≡ made_it m.name.number = o.answer in let g : m.name.number ≡ suc (hs w).made = cc f in g, refl);
    made_still = λ z. (let q : ◌≡◌ {A = ℕ} 0 1 = cc z in absurd (omega arith));
    told = ap (map (λ (m : Message). m.name)) (silent_told es made_event w refl) ∙ i.told w b;
    told_sub = silent_sub n es l hs v i made_event b refl;
    counted = silent_counted n es l hs v i made_event b refl;
  }

  made_good : Good n es l hs w (submits lv bd) None made_done
  unfolding made_event made_done
  made_good = (l, unissued_settles n es l hs v i made_event b (with_made (keep (hs w) (new_message (hs w) lv bd)) (suc (hs w).made)) two refl made_unissued, λ f o. subst (λ (g : Frame). Sane (made_event ∷ es) l g) (sym (Memᴰ.eq_of_singleton o)) made_submitted)

  pub submit_good : Good n es l hs w (submits lv bd) None (submit n lv bd (hs w))
  unfolding submit made_done
  submit_good =
      let P : Done → Type 0 = Good n es l hs w (submits lv bd) None in
      let no' : (k : Refusal) → P (refuse k (hs w)) = refuses n es l hs v two i w b (submits lv bd) None in
      by_bool P (level_ok n lv) _ _ (λ e1. by_bool P (body_length_ok (length bd)) _ _ (λ e2. by_bool P (leb 4 ((hs w).made - low (hs w) (hs w).me)) _ _ (λ e3. no' TooManyUnordered) (λ e3. by_bool P (number_ok (suc (hs w).made)) _ _ (λ e4. made_good) (λ e4. no' NumbersUsedUp))) (λ e2. no' BadBodyLength)) (λ e1. no' BadLevel)
