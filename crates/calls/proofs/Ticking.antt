-- The rules of tick, one by one.
use Rattle.std.proofs.Common.{◌≡◌, ℕ, suc, ◌<◌, ◌≤◌, true, false, ◌&&◌, ltb, ◌⊎◌, List, [], ◌∷◌, length, Some, sym, refl, ap, ◌∙◌, inl, inr, arith}
use Rattle.std.proofs.lemmas.Bool.{lt-ltb, le-ltb}
use Rattle.frames.specs.Values.{Name, Ack, Frame, ack_frame, nack_frame}
use Rattle.head.specs.Head.{Head, mark, end, holds, room, stamps_left, with_clock, place}
use Rattle.head.specs.Upkeep.{settled}
use Rattle.head.specs.Answers.{done, idle, fired}
use Rattle.head.specs.Tick.{wait, asked, busy, own_message, fire, fire_ack, tick_with, tick_token, tick_due, tick}
use Rattle.head.specs.Turn.{to_order, new_ack}
use Rattle.frames.specs.declared.table.Table.{Table}
use Rattle.frames.specs.declared.types.Frame.{Frame as CFrame}
use Rattle.store.specs.Puts.{puts_of}
use Rattle.store.proofs.Looking.{length-puts_of}
use Rattle.calls.proofs.Choosing.{pick}

module _ (n : ℕ) (h : Head) where
  tick_fires : wait h.tries ≤ suc h.ticks → tick n h ≡ tick_due n h
  unfolding tick
  tick_fires l = pick (ltb (suc h.ticks) (wait h.tries)) false (done n idle (with_clock h (suc h.ticks) h.tries) []) (tick_due n h) (le-ltb (suc h.ticks) (wait h.tries) l)

  pub tick_lacks : wait h.tries ≤ suc h.ticks → mark h < end h → tick n h ≡ fire n h (nack_frame h.me (asked n h) (mark h) ∷ [])
  tick_lacks l m = tick_fires l ∙ pick (ltb (mark h) (end h)) true (fire n h (nack_frame h.me (asked n h) (mark h) ∷ [])) (tick_token n h) (lt-ltb (mark h) (end h) m)

  -- names to order, or traffic of late
  with_cause : (xs : List Name) → (0 < length xs) ⊎ (busy h.queue 96 h.base n ≡ true) → tick_with n h xs ≡ fire_ack n h xs
  with_cause [] (inl l) = absurd (omega arith)
  with_cause [] (inr b) = pick (busy h.queue 96 h.base n) true (fire_ack n h []) (fire n h []) b
  with_cause (x ∷ xs) c = refl

  pub token_issues : (xs : List Name) → (holds n h && (room h && stamps_left h)) ≡ true → xs ≡ to_order n h → (0 < length xs) ⊎ (busy h.queue 96 h.base n ≡ true) → tick_token n h ≡ fire_ack n h xs
  token_issues xs e c b = pick (holds n h && (room h && stamps_left h)) true (tick_with n h (to_order n h)) (fire n h []) e ∙ (ap (tick_with n h) (sym c) ∙ with_cause xs b)

  -- what fired, by its frames

  pub fire_ack_as : (ps : Table CFrame 3) (xs : List Name) (a : Ack) (g : Head) (ms : List Frame) → puts_of ps ≡ ack_frame a ∷ ms → a ≡ new_ack h xs → g ≡ place h (new_ack h xs) → ms ≡ own_message g
      → record { answer = fired ps.count; head = settled n g; puts = puts_of ps; issued = Some a } ≡ fire_ack n h xs
  fire_ack_as ps xs a g ms p e f m =
      let o : ms ≡ own_message (place h (new_ack h xs)) = m ∙ ap own_message f in
      let q : puts_of ps ≡ ack_frame (new_ack h xs) ∷ own_message (place h (new_ack h xs)) = p ∙ (λ j. ack_frame (e j) ∷ o j) in
      let l : ps.count ≡ suc (length (own_message (place h (new_ack h xs)))) = sym (length-puts_of ps) ∙ ap length q in
      λ j. record { answer = fired (l j); head = settled n (f j); puts = q j; issued = Some (e j) }
