-- What each call leaves of a head as it was.
use Rattle.std.proofs.Common.{false, ◌≡◌, ℕ, suc, ◌+◌, ◌-◌, ◌<◌, ◌≤◌, min, true, not, ◌&&◌, eqb, ltb, leb, List, [], ◌∷◌, ◌++◌, length, Some, None, Ok, Err, Option, Result, sym, refl, ap, ◌∙◌, subst, inl, inr, arith}
use mathlib.Core.List.Memᴰ
use Rattle.std.proofs.lemmas.Bool.{and_parts, leb-true, ltb-true, ltb-false}
use Rattle.frames.specs.Bounds.{body_length_ok, level_ok, needs, number_ok}
use Rattle.frames.specs.Reading.{read}
use Rattle.frames.specs.Values.{Ack, Asked, Frame, Message, Name, ack_frame, data_frame, nack_frame}
use Rattle.frames.specs.declared.refusal.Refusal.{Refusal}
use Rattle.frames.specs.declared.refusal.Refusal.TheVariants.{BadLevel, BadBodyLength, TooManyUnordered, NumbersUsedUp, Contradiction}
use Rattle.head.specs.Answers.{Answer, Done, done, refuse}
use Rattle.head.specs.Deliver.{deliver, hand_over, holders}
use Rattle.head.specs.Head.{Head, Kept, end, fill, fill_in, holds, keep, low, mark, place, room, set_slots, stamps_left, sweep, top, with_clock, with_due, with_pending, with_queue}
use Rattle.head.specs.Hear.{asks, contradicts, frames_of, hear, hear_ack, hear_at, hear_data, hear_known, hear_nack, hear_new, hear_pending, hear_read, hear_slot, own_above, resend, same_kept}
use Rattle.head.specs.Leaves.{Leaves, SameCounts, with_placed, FilledAt, Places, Issues, ComeTo, SubmitLeaves, HearLeaves, TurnLeaves, TickLeaves, DeliverLeaves}
use Rattle.head.specs.Queue.{first_not, names_it, place_of}
use Rattle.head.specs.Slots.{Slot, ack, bare, is_ack, known, named, same_bytes, same_names, size, unknown, whole}
use Rattle.head.specs.Submit.{new_message, submit}
use Rattle.head.specs.Tick.{asked, busy, fire, fire_ack, own_again, own_message, tick, tick_with, wait}
use Rattle.head.specs.Turn.{new_ack, to_order, turn, turn_with}
use Rattle.head.specs.Upkeep.{settled}
use Rattle.head.proofs.Names.{place_found}
use Rattle.head.proofs.Pending.{keep_one, place_left}
use Rattle.head.proofs.Placing.{Free, fill_at, fill_off, free_block, place_in, place_off}
use Rattle.head.proofs.Rising.{order_few}
use Rattle.head.proofs.Settled.{settled_leaves}
use Rattle.head.proofs.Slots.{cells_above, cells_at, cells_below, cells_known, same_name_is, unknown_is}
use Rattle.head.proofs.Walk.{Ends, Stops, first_not_stops, past_last_ends}
use Rattle.head.proofs.Ways.{by_bool}

abbrev pub head_of : Done → Head
head_of d = d.head

-- a body is filled in
fill_leaves : (x : Head) (t : ℕ) (m : Message) → x.base ≤ t → t < x.base + 96 → x.queue t ≡ bare m.name → FilledAt x t m (fill x t m).queue
fill_leaves x t m from to was = record { from_base = from; in_queue = to; was_bare = was; is_whole = fill_at x t m t refl; others = fill_off x t m }

-- an ACK is placed
place_leaves : (x : Head) (a : Ack) → x.base ≤ a.stamp → a.stamp + size a ≤ x.base + 95 → Free x.queue a → Places x a (place x a).queue (place x a).pending
place_leaves x a from to free = record {
  placed_at = record {
    from_base = from;
    in_queue = omega arith;
    were_unknown = λ u b c. unknown_is (x.queue u) (free u b c);
    the_ack = place_in x a a.stamp (cells_known a a.stamp (omega arith) (omega arith)) ∙ ap (fill_in x.pending) (cells_at a a.stamp refl);
    others = λ u o. place_off x a u (elim o [ inl l ↦ ap known (cells_below a u l) | inr l ↦ ap known (cells_above a u l) ]);
  };
  left_by = place_left x a;
}

module _ (n : ℕ) (x : Head) where
  pub submit_leaves : (l : ℕ) (b : List ℕ) → SubmitLeaves n l b x (submit n l b x)
  unfolding submit keep
  submit_leaves l b =
      by_bool (SubmitLeaves n l b x) (level_ok n l) _ _
      (λ e1. by_bool (SubmitLeaves n l b x) (body_length_ok (length b)) _ _
      (λ e2. by_bool (SubmitLeaves n l b x) (leb 4 (x.made - low x x.me)) _ _
      (λ e3. SubmitLeaves.refuses TooManyUnordered refl)
      (λ e3. by_bool (SubmitLeaves n l b x) (number_ok (suc x.made)) _ _
      (λ e4. SubmitLeaves.makes (keep x (new_message x l b)).pending e4 (keep_one x (new_message x l b)) refl)
      (λ e4. SubmitLeaves.refuses NumbersUsedUp refl)))
      (λ e2. SubmitLeaves.refuses BadBodyLength refl))
      (λ e1. SubmitLeaves.refuses BadLevel refl)

  -- hear

  abbrev Hears : Done → Type 0
  Hears = HearLeaves n x

  contradicted : Hears (refuse Contradiction x)
  contradicted = HearLeaves.refuses Contradiction refl

  is_repeat : Hears (done n Answer.repeat x [])
  is_repeat = HearLeaves.stays Answer.repeat (Memᴰ.tail (Memᴰ.head refl)) refl

  is_nothing : Hears (done n Answer.nothing x [])
  is_nothing = HearLeaves.stays Answer.nothing (Memᴰ.tail (Memᴰ.tail (Memᴰ.tail (Memᴰ.tail (Memᴰ.head refl))))) refl

  slot_leaves : (m : Message) (t : ℕ) (s : Slot) → x.base ≤ t → t < x.base + 96 → x.queue t ≡ s → names_it m.name (named s) ≡ true → Hears (hear_slot n x m t s)
  unfolding fill
  slot_leaves m t unknown f o e q = contradicted
  slot_leaves m t (ack i ns) f o e q = contradicted
  slot_leaves m t (bare y) f o e q = by_bool Hears (eqb m.name.level y.level) _ _ (λ z. HearLeaves.fills t m (fill x t m).queue (fill_leaves x t m f o (e ∙ ap bare (sym (same_name_is m.name y q z)))) refl) (λ z. contradicted)
  slot_leaves m t (whole k) f o e q = by_bool Hears (eqb m.name.level k.name.level && same_bytes m.body k.body) _ _ (λ z. is_repeat) (λ z. contradicted)

  pending_leaves : (m : Message) (r : Option Kept) → own_above x m.name ≡ false → x.pending m.name.source m.name.number ≡ r → Hears (hear_pending n x m r)
  unfolding keep
  pending_leaves m None o e = HearLeaves.keeps m (keep x m).pending o e (keep_one x m) refl
  pending_leaves m (Some k) o e = by_bool Hears (same_kept m k) _ _ (λ z. is_repeat) (λ z. contradicted)

  known_leaves : (m : Message) (r : Option ℕ) → own_above x m.name ≡ false → place_of x.queue m.name 96 x.base ≡ r → Hears (hear_known n x m r)
  known_leaves m None o e = by_bool Hears (leb m.name.number (low x m.name.source)) _ _ (λ z. is_repeat) (λ z. by_bool Hears (ltb (low x m.name.source + 4) m.name.number) _ _ (λ y. HearLeaves.stays Answer.far (Memᴰ.tail (Memᴰ.tail (Memᴰ.head refl))) refl) (λ y. pending_leaves m (x.pending m.name.source m.name.number) o refl))
  known_leaves m (Some t) o e = let f : (x.base ≤ t) × (t < x.base + 96) × (names_it m.name (named (x.queue t)) ≡ true) = place_found x.queue m.name 96 x.base t e in slot_leaves m t (x.queue t) f.0 f.1 refl f.2

  data_leaves : (m : Message) → Hears (hear_data n m x)
  unfolding hear_data
  data_leaves m = by_bool Hears (own_above x m.name) _ _ (λ z. contradicted) (λ z. known_leaves m (place_of x.queue m.name 96 x.base) z refl)

  new_leaves : (a : Ack) → x.base ≤ a.stamp → a.stamp + size a ≤ x.base + 95 → Hears (hear_new n x a)
  unfolding place sweep set_slots
  new_leaves a from to = by_bool Hears (contradicts x a) _ _ (λ z. contradicted) (λ z. HearLeaves.places a (place x a).queue (place x a).pending (place_leaves x a from to (free_block x a z)) refl)

  at_leaves : (a : Ack) (s : Slot) → x.base ≤ a.stamp → a.stamp + size a ≤ x.base + 95 → Hears (hear_at n x a s)
  at_leaves a unknown f t = new_leaves a f t
  at_leaves a (ack i ns) f t = by_bool Hears (eqb i a.issuer && same_names ns a.names) _ _ (λ z. is_repeat) (λ z. contradicted)
  at_leaves a (bare y) f t = new_leaves a f t
  at_leaves a (whole m) f t = new_leaves a f t

  ack_leaves : (a : Ack) → Hears (hear_ack n a x)
  unfolding hear_ack
  ack_leaves a = by_bool Hears (ltb a.stamp x.base) _ _ (λ z. is_repeat) (λ z. by_bool Hears (ltb (x.base + 95) (a.stamp + size a)) _ _ (λ y. HearLeaves.stays Answer.crowded (Memᴰ.tail (Memᴰ.tail (Memᴰ.tail (Memᴰ.head refl)))) refl) (λ y. at_leaves a (x.queue a.stamp) (ltb-false a.stamp x.base z) (ltb-false (x.base + 95) (a.stamp + size a) y)))

  resend_leaves : (s : Slot) (t : ℕ) → Hears (resend n x (frames_of s t))
  resend_leaves unknown t = is_nothing
  resend_leaves (ack i ns) t = HearLeaves.resends (ack_frame (record { stamp = t; issuer = i; names = ns })) refl
  resend_leaves (bare y) t = is_nothing
  resend_leaves (whole m) t = HearLeaves.resends (data_frame m) refl

  nack_leaves : (from : ℕ) (to : Asked) (t : ℕ) → Hears (hear_nack n from to t x)
  unfolding hear_nack
  nack_leaves from to t = by_bool Hears (asks to x.me && (not (eqb from x.me) && leb x.base t)) _ _ (λ z. resend_leaves (x.queue t) t) (λ z. is_nothing)

  read_leaves : (r : Result Frame Refusal) → Hears (hear_read n x r)
  read_leaves (Ok (data_frame m)) = data_leaves m
  read_leaves (Ok (ack_frame a)) = ack_leaves a
  read_leaves (Ok (nack_frame f o t)) = nack_leaves f o t
  read_leaves (Err e) = HearLeaves.refuses e refl

  pub hear_leaves : (t : Option (List ℕ)) → Hears (hear n t x)
  unfolding hear
  hear_leaves None = HearLeaves.stays Answer.quiet (Memᴰ.head refl) refl
  hear_leaves (Some p) = read_leaves (read n p)

  -- turn and tick

  issue_leaves : (xs : List Name) → length xs ≤ 4 → room x ≡ true → Issues x (new_ack x xs) (place x (new_ack x xs)).queue (place x (new_ack x xs)).pending
  unfolding end
  issue_leaves xs few r =
      let e : Ends known x.queue 96 x.base (end x) = past_last_ends known x.queue 96 x.base in
      let rm : end x + 4 ≤ x.base + 95 = leb-true (end x + 4) (x.base + 95) r in
      record { own = refl; at_end = refl; places = place_leaves x (new_ack x xs) e.from (omega arith) (λ s u v. e.beyond s u (omega arith)) }

  turn_with_leaves : (xs : List Name) → length xs ≤ 4 → TurnLeaves n x (turn_with n x xs)
  unfolding place sweep set_slots
  turn_with_leaves [] few = TurnLeaves.stays Answer.nothing (Memᴰ.tail (Memᴰ.head refl)) refl
  turn_with_leaves (y ∷ ys) few =
      by_bool (TurnLeaves n x) (room x) _ _
      (λ r. by_bool (TurnLeaves n x) (stamps_left x) _ _
      (λ s. TurnLeaves.orders (new_ack x (y ∷ ys)) (place x (new_ack x (y ∷ ys))).queue (place x (new_ack x (y ∷ ys))).pending (issue_leaves (y ∷ ys) few r) refl)
      (λ s. TurnLeaves.refuses refl))
      (λ r. TurnLeaves.stays Answer.crowded (Memᴰ.tail (Memᴰ.tail (Memᴰ.head refl))) refl)

  pub turn_leaves : TurnLeaves n x (turn n x)
  unfolding turn
  turn_leaves = by_bool (TurnLeaves n x) (holds n x) _ _ (λ h. turn_with_leaves (to_order n x) (order_few n x)) (λ h. TurnLeaves.stays Answer.not_yours (Memᴰ.head refl) refl)

  fire_leaves : (fs : List Frame) → TickLeaves n x (fire n x fs)
  fire_leaves fs = TickLeaves.fires (fs ++ (own_again x (top x) ++ own_message x)) refl

  fire_ack_leaves : (xs : List Name) → length xs ≤ 4 → room x ≡ true → TickLeaves n x (fire_ack n x xs)
  unfolding place sweep set_slots
  fire_ack_leaves xs few r = let a : Ack = new_ack x xs in TickLeaves.issues (new_ack x xs) (place x (new_ack x xs)).queue (place x (new_ack x xs)).pending (own_message (place x (new_ack x xs))) (issue_leaves xs few r) refl

  tick_with_leaves : (xs : List Name) → length xs ≤ 4 → room x ≡ true → TickLeaves n x (tick_with n x xs)
  tick_with_leaves [] few r = by_bool (TickLeaves n x) (busy x.queue 96 x.base n) _ _ (λ z. fire_ack_leaves [] few r) (λ z. fire_leaves [])
  tick_with_leaves (y ∷ ys) few r = fire_ack_leaves (y ∷ ys) few r

  pub tick_leaves : TickLeaves n x (tick n x)
  unfolding tick
  tick_leaves =
      by_bool (TickLeaves n x) (ltb (suc x.ticks) (wait x.tries)) _ _
      (λ z. TickLeaves.idles (ltb-true (suc x.ticks) (wait x.tries) z) refl)
      (λ z. by_bool (TickLeaves n x) (ltb (mark x) (end x)) _ _
      (λ y. fire_leaves (nack_frame x.me (asked n x) (mark x) ∷ []))
      (λ y. by_bool (TickLeaves n x) (holds n x && (room x && stamps_left x)) _ _
      (λ h. tick_with_leaves (to_order n x) (order_few n x) (and_parts (room x) (stamps_left x) (and_parts (holds n x) (room x && stamps_left x) h).1).0)
      (λ h. fire_leaves [])))

  -- deliver

  hand_leaves : (t : ℕ) (s : Slot) → x.queue t ≡ s → ComeTo x t → DeliverLeaves n x (hand_over n (with_due x t) s)
  hand_leaves t unknown e c = DeliverLeaves.waits t c refl
  hand_leaves t (ack i ns) e c = DeliverLeaves.waits t c refl
  hand_leaves t (bare y) e c = DeliverLeaves.waits t c refl
  hand_leaves t (whole m) e c = by_bool (DeliverLeaves n x) (leb (needs n m.name.level) (holders n (with_due x t) t)) _ _ (λ z. DeliverLeaves.delivers m t c e refl) (λ z. DeliverLeaves.waits t c refl)

  pub deliver_leaves : DeliverLeaves n x (deliver n x)
  unfolding deliver
  deliver_leaves =
      let t : ℕ = first_not is_ack x.queue (x.base + 96 - x.due) x.due in
      let s : Stops is_ack x.queue (x.base + 96 - x.due) x.due (first_not is_ack x.queue (x.base + 96 - x.due) x.due) = first_not_stops is_ack x.queue (x.base + 96 - x.due) x.due in
      hand_leaves (first_not is_ack x.queue (x.base + 96 - x.due) x.due) (x.queue (first_not is_ack x.queue (x.base + 96 - x.due) x.due)) refl (record { from_due = s.from; past_acks = s.before })

  -- me, made and due, where only the upkeep could change them

  kept_counts : (d : Done) (y : Head) → d.head ≡ settled n y → SameCounts x y → SameCounts x d.head
  kept_counts d y e c =
      let l : SameCounts y (settled n y) = (settled_leaves 96 n y).counts_same in
      subst (λ (z : Head). SameCounts x z) (sym e) (record { me_same = l.me_same ∙ c.me_same; made_same = l.made_same ∙ c.made_same; due_same = l.due_same ∙ c.due_same })

  same_counts : SameCounts x x
  same_counts = record { me_same = refl; made_same = refl; due_same = refl }

  hear_counts : (d : Done) → Hears d → SameCounts x d.head
  hear_counts d (HearLeaves.refuses e q) = subst (λ (z : Head). SameCounts x z) (sym (ap head_of q)) same_counts
  hear_counts d (HearLeaves.stays w m q) = kept_counts d x (ap head_of q) same_counts
  hear_counts d (HearLeaves.resends f q) = kept_counts d x (ap head_of q) same_counts
  hear_counts d (HearLeaves.keeps m p v w o q) = kept_counts d (with_pending x p) (ap head_of q) (record { me_same = refl; made_same = refl; due_same = refl })
  hear_counts d (HearLeaves.fills t m r f q) = kept_counts d (with_clock (with_queue x r) 0 0) (ap head_of q) (record { me_same = refl; made_same = refl; due_same = refl })
  hear_counts d (HearLeaves.places a r p o q) = kept_counts d (with_placed x r p) (ap head_of q) (record { me_same = refl; made_same = refl; due_same = refl })

  turn_counts : (d : Done) → TurnLeaves n x d → SameCounts x d.head
  turn_counts d (TurnLeaves.refuses q) = subst (λ (z : Head). SameCounts x z) (sym (ap head_of q)) same_counts
  turn_counts d (TurnLeaves.stays w m q) = kept_counts d x (ap head_of q) same_counts
  turn_counts d (TurnLeaves.orders a r p o q) = kept_counts d (with_placed x r p) (ap head_of q) (record { me_same = refl; made_same = refl; due_same = refl })

  tick_counts : (d : Done) → TickLeaves n x d → SameCounts x d.head
  tick_counts d (TickLeaves.idles l q) = kept_counts d (with_clock x (suc x.ticks) x.tries) (ap head_of q) (record { me_same = refl; made_same = refl; due_same = refl })
  tick_counts d (TickLeaves.fires fs q) = kept_counts d (with_clock x 0 (min 15 (suc x.tries))) (ap head_of q) (record { me_same = refl; made_same = refl; due_same = refl })
  tick_counts d (TickLeaves.issues a r p fs o q) = kept_counts d (with_placed x r p) (ap head_of q) (record { me_same = refl; made_same = refl; due_same = refl })

pub leaves : Leaves
leaves n x = record {
  submitting = submit_leaves n x;
  hearing = λ t. (hear_leaves n x t, hear_counts n x (hear n t x) (hear_leaves n x t));
  turning = (turn_leaves n x, turn_counts n x (turn n x) (turn_leaves n x));
  ticking = (tick_leaves n x, tick_counts n x (tick n x) (tick_leaves n x));
  delivering = deliver_leaves n x;
  keeping_up = settled_leaves 96 n x;
}
