-- The rules of submit, one by one.
use Rattle.std.proofs.Common.{◌≡◌, ℕ, suc, ◌-◌, ◌<◌, ◌≤◌, true, false, cond, ◌&&◌, eqb, leb, List, [], ◌∷◌, length, Some, Ok, sym, ◌∙◌, arith}
use Rattle.std.proofs.lemmas.Bool.{le-leb, lt-leb, and_from, and_right}
use Rattle.frames.specs.declared.refusal.Refusal.TheVariants.{BadLevel, BadBodyLength, TooManyUnordered, NumbersUsedUp}
use Rattle.frames.specs.Bounds.{level_ok, body_length_ok, number_ok}
use Rattle.frames.specs.Values.{data_frame}
use Rattle.frames.specs.Made.{level_for, body_for}
use Rattle.frames.proofs.Steps.{passed}
use Rattle.head.specs.Head.{Head, Pending, low, keep}
use Rattle.head.specs.Answers.{done, refuse, made_it}
use Rattle.head.specs.Submit.{submit, submit_body, submit_window, submit_number, make}
use Rattle.calls.proofs.Choosing.{pick}

module _ (n l : ℕ) (b : List ℕ) (h : Head) where
  leveled : level_ok n l ≡ true → submit n l b h ≡ submit_body n l b h
  unfolding submit
  leveled e = pick (level_ok n l) true (submit_body n l b h) (refuse BadLevel h) e

  sized : level_ok n l ≡ true → body_length_ok (length b) ≡ true → submit n l b h ≡ submit_window n l b h
  sized e f = leveled e ∙ pick (body_length_ok (length b)) true (submit_window n l b h) (refuse BadBodyLength h) f

  counted : level_ok n l ≡ true → body_length_ok (length b) ≡ true → h.made - low h h.me < 4 → submit n l b h ≡ submit_number n l b h
  counted e f g = sized e f ∙ pick (leb 4 (h.made - low h h.me)) false (refuse TooManyUnordered h) (submit_number n l b h) (lt-leb 4 (h.made - low h h.me) g)

  submit_makes : level_ok n l ≡ true → body_length_ok (length b) ≡ true → h.made - low h h.me < 4 → h.made < 500000 → submit n l b h ≡ make n l b h
  submit_makes e f g k = counted e f g ∙ pick (number_ok (suc h.made)) true (make n l b h) (refuse NumbersUsedUp h) (and_from (leb 1 (suc h.made)) (leb (suc h.made) 500000) (le-leb 1 (suc h.made) (omega arith)) (le-leb (suc h.made) 500000 (omega arith)))

  -- by what the level and the body of the code answer

  module _ (v : ℕ) (w : List ℕ) (e : Ok v ≡ level_for n l) (f : Ok w ≡ body_for b) where
    lv : (level_ok n l ≡ true) × (v ≡ l)
    lv = passed (level_ok n l) l v BadLevel e

    bd : (body_length_ok (length b) ≡ true) × (w ≡ b)
    bd = passed (body_length_ok (length b)) b w BadBodyLength f

    pub unordered_refused : 4 ≤ h.made - low h h.me → refuse TooManyUnordered h ≡ submit n l b h
    unordered_refused g = sym (sized lv.0 bd.0 ∙ pick (leb 4 (h.made - low h h.me)) true (refuse TooManyUnordered h) (submit_number n l b h) (le-leb 4 (h.made - low h h.me) g))

    pub used_up_refused : h.made - low h h.me < 4 → 500000 ≤ h.made → refuse NumbersUsedUp h ≡ submit n l b h
    used_up_refused g k = sym (counted lv.0 bd.0 g ∙ pick (number_ok (suc h.made)) false (make n l b h) (refuse NumbersUsedUp h) (and_right (leb 1 (suc h.made)) (leb (suc h.made) 500000) (lt-leb (suc h.made) 500000 (omega arith))))

    pub message_made : (k : ℕ) (p : Pending) → h.made - low h h.me < 4 → h.made < 500000 → k ≡ suc h.made → p ≡ (λ s i. cond (eqb s h.me && eqb i k) (Some (record { level = v; body = w })) (h.pending s i))
        → done n (made_it k) (record { me = h.me; made = k; base = h.base; queue = h.queue; gone = h.gone; pending = p; due = h.due; ticks = h.ticks; tries = h.tries }) (data_frame (record { name = record { source = h.me; number = k; level = v }; body = w }) ∷ []) ≡ submit n l b h
    unfolding keep
    message_made k p g t a c =
        let r : p ≡ (λ s i. cond (eqb s h.me && eqb i (suc h.made)) (Some (record { level = l; body = b })) (h.pending s i)) =
        c ∙ (λ j s i. cond (eqb s h.me && eqb i (a j)) (Some (record { level = lv.1 j; body = bd.1 j })) (h.pending s i)) in
        (λ j. done n (made_it (a j)) (record { me = h.me; made = a j; base = h.base; queue = h.queue; gone = h.gone; pending = r j; due = h.due; ticks = h.ticks; tries = h.tries }) (data_frame (record { name = record { source = h.me; number = a j; level = lv.1 j }; body = bd.1 j }) ∷ []))
        ∙ sym (submit_makes lv.0 bd.0 g t)
