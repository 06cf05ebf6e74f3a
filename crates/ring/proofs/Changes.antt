-- What a head does with one message, one ACK or its clock keeps n what holds of it.
use Rattle.std.proofs.Common.{◌≡◌, ℕ, ◌+◌, ◌<◌, ◌≤◌, true, false, ◌⊎◌, List, Some, sym, refl, ap, ◌∙◌, subst, inl, inr, arith}
use mathlib.Core.List.{Memᴰ}
use Rattle.std.proofs.lemmas.Bool.{cases_Bool, cases_eq, both_ways}
use Rattle.frames.specs.Values.{Ack, Message, Name}
use Rattle.head.specs.Head.{Head, Kept, fill, fill_in, filled_by, keep, mark, place, set_slots, sweep, with_clock, with_due, with_made}
use Rattle.head.specs.Ranges.{kept_message}
use Rattle.head.specs.Slots.{ack, bare, cells, full, is_ack, known, size, unknown, whole}
use Rattle.head.proofs.Marks.{Window, mark_grows, mark_is}
use Rattle.head.proofs.Pending.{keep_pending, place_pending}
use Rattle.head.proofs.Placing.{Free, fill_at, fill_off, place_in, place_off, place_stays}
use Rattle.head.proofs.Slots.{cells_above, cells_at, cells_below, cells_block, cells_known, cells_plain, fill_in_known, fill_in_stripped, filled_whole, full_known, stripped}
use Rattle.ring.specs.Ring.{Event}
use Rattle.ring.proofs.Invariant.{Agrees, HeadInv, Held, is_marked}
use Rattle.ring.proofs.Log.{Chain, apart, tape, tape_mem}

pub clocked : (n : ℕ) (es : List Event) (l : List Ack) (h t r : ℕ) (x : Head) → HeadInv n es l h x → HeadInv n es l h (with_clock x t r)
unfolding mark
clocked n es l h t r x i = record { is_me = i.is_me; agrees = i.agrees; bodies = i.bodies; pends = i.pends; gone_is = i.gone_is; due_from = i.due_from; due_to = i.due_to; got = i.got }

pub clocked_mark : (t r : ℕ) (x : Head) → mark (with_clock x t r) ≡ mark x
unfolding mark
clocked_mark t r x = refl

pub counted_made : (n : ℕ) (es : List Event) (l : List Ack) (h k : ℕ) (x : Head) → HeadInv n es l h x → HeadInv n es l h (with_made x k)
unfolding mark
counted_made n es l h k x i = record { is_me = i.is_me; agrees = i.agrees; bodies = i.bodies; pends = i.pends; gone_is = i.gone_is; due_from = i.due_from; due_to = i.due_to; got = i.got }

pub made_mark : (k : ℕ) (x : Head) → mark (with_made x k) ≡ mark x
unfolding mark
made_mark k x = refl

pub due_moved : (n : ℕ) (es : List Event) (l : List Ack) (h d : ℕ) (x : Head) → x.due ≤ d → d ≤ mark x → HeadInv n es l h x → HeadInv n es l h (with_due x d)
unfolding mark
due_moved n es l h d x a b i = record { is_me = i.is_me; agrees = i.agrees; bodies = i.bodies; pends = i.pends; gone_is = i.gone_is; due_from = omega (arith, i.due_from); due_to = b; got = i.got }

pub due_mark : (d : ℕ) (x : Head) → mark (with_due x d) ≡ mark x
unfolding mark
due_mark d x = refl

-- a message is kept

kept_pends : (n : ℕ) (es : List Event) (h : ℕ) (x : Head) (m : Message) → Held n es h m → ((s k : ℕ) (p : Kept) → x.pending s k ≡ Some p → Held n es h (kept_message s k p)) → (s k : ℕ) (p : Kept) → (keep x m).pending s k ≡ Some p → Held n es h (kept_message s k p)
kept_pends n es h x m u f s k p e = elim (keep_pending x m s k p e) [ inl o ↦ subst (λ (y : Message). Held n es h y) o u | inr o ↦ f s k p o ]

pub keeps : (n : ℕ) (es : List Event) (l : List Ack) (h : ℕ) (x : Head) (m : Message) → Held n es h m → HeadInv n es l h x → HeadInv n es l h (keep x m)
unfolding mark keep
keeps n es l h x m u i = record { is_me = i.is_me; agrees = i.agrees; bodies = i.bodies; pends = kept_pends n es h x m u i.pends; gone_is = i.gone_is; due_from = i.due_from; due_to = i.due_to; got = i.got }

pub keep_mark : (x : Head) (m : Message) → mark (keep x m) ≡ mark x
unfolding mark keep
keep_mark x m = refl

-- a body goes in

module _ (n : ℕ) (es : List Event) (l : List Ack) (h : ℕ) (x : Head) (t : ℕ) (m : Message) (i : HeadInv n es l h x) (from : x.base ≤ t) (was : x.queue t ≡ bare m.name) (u : Held n es h m) where
  fill_known : (s : ℕ) → known ((fill x t m).queue s) ≡ known (x.queue s)
  fill_known s = elim (cases_eq s t) [ inl e ↦ ap known (fill_at x t m s e) ∙ sym (ap known (ap x.queue e ∙ was)) | inr e ↦ ap known (fill_off x t m s e) ]

  fill_ack : (s : ℕ) → is_ack ((fill x t m).queue s) ≡ is_ack (x.queue s)
  fill_ack s = elim (cases_eq s t) [ inl e ↦ ap is_ack (fill_at x t m s e) ∙ sym (ap is_ack (ap x.queue e ∙ was)) | inr e ↦ ap is_ack (fill_off x t m s e) ]

  fill_full : (s : ℕ) → full (x.queue s) ≡ true → full ((fill x t m).queue s) ≡ true
  fill_full s f = elim (cases_eq s t) [ inl e ↦ ap full (fill_at x t m s e) | inr e ↦ ap full (fill_off x t m s e) ∙ f ]

  fill_stripped : (s : ℕ) → stripped ((fill x t m).queue s) ≡ stripped (x.queue s)
  fill_stripped s = elim (cases_eq s t) [ inl e ↦ ap stripped (fill_at x t m s e) ∙ sym (ap stripped (ap x.queue e ∙ was)) | inr e ↦ ap stripped (fill_off x t m s e) ]

  fill_window : Window (fill x t m).queue x.base
  fill_window s b = elim (cases_eq s t) [ inl e ↦ (let z : known (x.queue t) ≡ true = ap known was in absurd (both_ways (known (x.queue t)) (ap known (i.agrees.window t (omega arith))) z)) | inr e ↦ fill_off x t m s e ∙ i.agrees.window s b ]

  fill_agrees : Agrees l (fill x t m).queue x.base
  fill_agrees = record {
    inside = i.agrees.inside;
    positive = i.agrees.positive;
    border = i.agrees.border;
    window = fill_window;
    fits = λ s b k. fill_stripped s ∙ i.agrees.fits s b (sym (fill_known s) ∙ k);
    blocks = λ a o b s y z. fill_known s ∙ (i.agrees.blocks a o b s y z ∙ sym (fill_known a.stamp));
    anchored = elim i.agrees.anchored [ inl o ↦ inl o | inr o ↦ inr (o.0, o.1, fill_ack o.0 ∙ o.2) ];
  }

  fill_bodies : (s : ℕ) (k : Message) → x.base ≤ s → (fill x t m).queue s ≡ whole k → Held n es h k
  fill_bodies s k b e = elim (cases_eq s t) [
    | inl o ↦ let a : (fill x t m).queue s ≡ whole m = fill_at x t m s o in let same : m ≡ k = cc in subst (λ (y : Message). Held n es h y) same u
    | inr o ↦ i.bodies s k b (sym (fill_off x t m s o) ∙ e)
  ]

  pub fill_mark : mark x ≤ mark (fill x t m)
  unfolding fill
  fill_mark = mark_grows x.queue (fill x t m).queue x.base x.base (mark x) (mark (fill x t m)) (is_marked n es l h x i) (mark_is (fill x t m) fill_window) (omega arith) (λ v a b. fill_full v b)

  pub fills : HeadInv n es l h (fill x t m)
  unfolding fill
  fills = record { is_me = i.is_me; agrees = fill_agrees; bodies = fill_bodies; pends = i.pends; gone_is = i.gone_is; due_from = i.due_from; due_to = omega (arith, i.due_to, fill_mark); got = i.got }

-- an ACK of the log is placed

abbrev pub Levels : Head → Ack → Type 0
Levels x a = (s : ℕ) (y : Name) (p : Kept) → cells a s ≡ bare y → x.pending y.source y.number ≡ Some p → p.level ≡ y.level

module _ (n : ℕ) (es : List Event) (l : List Ack) (h : ℕ) (x : Head) (a : Ack) (c : Chain n l) (i : HeadInv n es l h x) (m : Memᴰ a l) (from : x.base ≤ a.stamp) (to : a.stamp + size a ≤ x.base + 95) (free : Free x.queue a) (levels : Levels x a) where
  off_block : (s : ℕ) → (s < a.stamp) ⊎ (a.stamp + size a < s) → known (cells a s) ≡ false
  off_block s o = elim o [ inl g ↦ ap known (cells_below a s g) | inr g ↦ ap known (cells_above a s g) ]

  place_window : Window (place x a).queue x.base
  place_window s b = place_off x a s (off_block s (inr (omega arith))) ∙ i.agrees.window s b

  place_fits : (s : ℕ) → x.base ≤ s → known ((place x a).queue s) ≡ true → stripped ((place x a).queue s) ≡ tape l s
  place_fits s b e = elim (cases_Bool (known (cells a s))) [
    | inl o ↦ ap stripped (place_in x a s o) ∙ (fill_in_stripped x.pending a s ∙ sym (tape_mem n l a s c m (cells_block a s o).0 (cells_block a s o).1))
    | inr o ↦ ap stripped (place_off x a s o) ∙ i.agrees.fits s b (sym (ap known (place_off x a s o)) ∙ e)
  ]

  place_block_known : (s : ℕ) → known (cells a s) ≡ true → known ((place x a).queue s) ≡ true
  place_block_known s o = ap known (place_in x a s o) ∙ (fill_in_known x.pending a s ∙ o)

  place_blocks : (b : Ack) → Memᴰ b l → x.base ≤ b.stamp → (s : ℕ) → b.stamp ≤ s → s ≤ b.stamp + size b → known ((place x a).queue s) ≡ known ((place x a).queue b.stamp)
  place_blocks b k f s y z = elim (apart n l a b c m k) [
    | inl e ↦
        let es1 : a.stamp ≡ b.stamp = ap (λ (w : Ack). w.stamp) e in
        let es2 : a.stamp + size a ≡ b.stamp + size b = ap (λ (w : Ack). w.stamp + size w) e in
        place_block_known s (cells_known a s (omega arith) (omega arith)) ∙ sym (place_block_known b.stamp (cells_known a b.stamp (omega arith) (omega arith)))
    | inr o ↦
        let p : (known (cells a s) ≡ false) × (known (cells a b.stamp) ≡ false) = elim o [
          | inl g ↦ (off_block s (inr (omega arith)), off_block b.stamp (inr (omega arith)))
          | inr g ↦ (off_block s (inl (omega arith)), off_block b.stamp (inl (omega arith)))
        ] in
        ap known (place_off x a s p.0) ∙ (i.agrees.blocks b k f s y z ∙ sym (ap known (place_off x a b.stamp p.1)))
  ]

  place_stamp : (place x a).queue a.stamp ≡ ack a.issuer a.names
  place_stamp = place_in x a a.stamp (cells_known a a.stamp (omega arith) (omega arith)) ∙ ap (fill_in x.pending) (cells_at a a.stamp refl)

  place_agrees : Agrees l (place x a).queue x.base
  place_agrees = record {
    inside = i.agrees.inside;
    positive = i.agrees.positive;
    border = i.agrees.border;
    window = place_window;
    fits = place_fits;
    blocks = place_blocks;
    anchored = inr (a.stamp, from, ap is_ack place_stamp);
  }

  place_body : (s : ℕ) (k : Message) → fill_in x.pending (cells a s) ≡ whole k → Held n es h k
  place_body s k e = elim (cells_plain a s) [
    | inl o ↦ (let f : fill_in x.pending (cells a s) ≡ unknown = ap (fill_in x.pending) o in let z : ◌≡◌ {A = ℕ} 0 1 = cc in absurd (omega arith))
    | inr o ↦ elim o [
      | inl o2 ↦ (let f : fill_in x.pending (cells a s) ≡ ack a.issuer a.names = ap (fill_in x.pending) o2 in let z : ◌≡◌ {A = ℕ} 0 1 = cc in absurd (omega arith))
      | inr o2 ↦
          let y : Name = o2.0 in
          let f : filled_by y (x.pending y.source y.number) ≡ whole k = sym (ap (fill_in x.pending) o2.1) ∙ e in
          let g : (p : Kept) × (x.pending y.source y.number ≡ Some p) × (k ≡ record { name = y; body = p.body }) = filled_whole y (x.pending y.source y.number) k f in
          let lv : g.0.level ≡ y.level = levels s y g.0 o2.1 g.1 in
          let held : Held n es h (kept_message y.source y.number g.0) = i.pends y.source y.number g.0 g.1 in
          let named' : kept_message y.source y.number g.0 ≡ k = (λ j. record { name = record { source = y.source; number = y.number; level = lv j }; body = g.0.body }) ∙ sym g.2 in
          subst (λ (w : Message). Held n es h w) named' held
    ]
  ]

  place_bodies : (s : ℕ) (k : Message) → x.base ≤ s → (place x a).queue s ≡ whole k → Held n es h k
  place_bodies s k b e = elim (cases_Bool (known (cells a s))) [
    | inl o ↦ place_body s k (sym (place_in x a s o) ∙ e)
    | inr o ↦ i.bodies s k b (sym (place_off x a s o) ∙ e)
  ]

  pub place_full : (s : ℕ) → full (x.queue s) ≡ true → full ((place x a).queue s) ≡ true
  place_full s f = ap full (place_stays x a free s (full_known (x.queue s) f)) ∙ f

  place_pends : (s k : ℕ) (p : Kept) → (place x a).pending s k ≡ Some p → Held n es h (kept_message s k p)
  place_pends s k p e = i.pends s k p (place_pending x a s k p e)

  pub place_mark : mark x ≤ mark (place x a)
  unfolding place sweep set_slots
  place_mark = mark_grows x.queue (place x a).queue x.base x.base (mark x) (mark (place x a)) (is_marked n es l h x i) (mark_is (place x a) place_window) (omega arith) (λ v p q. place_full v q)

  pub places : HeadInv n es l h (place x a)
  unfolding place sweep set_slots
  places = record { is_me = i.is_me; agrees = place_agrees; bodies = place_bodies; pends = place_pends; gone_is = i.gone_is; due_from = i.due_from; due_to = omega (arith, i.due_to, place_mark); got = i.got }
