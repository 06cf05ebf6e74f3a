-- The steps of the marks of a slot's holders.
use Rattle.std.proofs.Common.{◌≡◌, ℕ, zero, suc, ◌+◌, ◌-◌, ◌<◌, ◌≤◌, Bool, true, false, cond, not, ◌&&◌, ◌||◌, eqb, List, [], ◌∷◌, ◌++◌, length, get_or, take, drop, set, replicate, Some, None, sym, refl, ap, ◌∙◌, arith}
use Rattle.std.proofs.lemmas.Bool.{le-leb, lt-leb}
use Rattle.head.specs.Deliver.{among, orderer, stamp_of}
use Rattle.head.specs.Head.{Head}
use Rattle.head.specs.Questions.{counts, holder_mark, holder_marks, marks_from}
use Rattle.head.specs.Queue.{Queue, issuers, issuer_on, last_ack}
use Rattle.head.specs.Slots.{Slot, unknown, ack, bare, whole}
use Rattle.store.specs.declared.types.Queue.{Queue as CQueue}
use Rattle.store.specs.Holders.{Keeps, issued_by, new_mark}
use Rattle.store.specs.Parts.{queue_of}
use Rattle.store.proofs.Holding.{orderer_is}
use Rattle.store.proofs.Fronts.{front_more, front_all}

-- the issuers, with one stamp more at the end

on_append : (s : Slot) (xs ys : List ℕ) → issuer_on s (xs ++ ys) ≡ issuer_on s xs ++ ys
on_append unknown xs ys = refl
on_append (ack i ns) xs ys = refl
on_append (bare x) xs ys = refl
on_append (whole m) xs ys = refl

issuers_push : (q : Queue) (k a : ℕ) → issuers q (suc k) a ≡ issuers q k a ++ issuer_on (q (a + k)) []
unfolding issuers
issuers_push q zero a = let e : a ≡ a + 0 = omega arith in ap (λ t. issuer_on (q t) []) e
issuers_push q (suc k) a =
    let e : suc a + k ≡ a + suc k = omega arith in
    ap (issuer_on (q a)) (issuers_push q k (suc a)) ∙ (on_append (q a) (issuers q k (suc a)) (issuer_on (q (suc a + k)) []) ∙ ap (λ t. issuer_on (q a) (issuers q k (suc a)) ++ issuer_on (q t) []) e)

among_append : (g : ℕ) (xs ys : List ℕ) → among g (xs ++ ys) ≡ (among g xs || among g ys)
among_append g [] ys = refl
among_append g (x ∷ xs) ys = ap (λ b. eqb g x || b) (among_append g xs ys) ∙ or_assoc (eqb g x) (among g xs) (among g ys)
  where
    or_assoc : (a b c : Bool) → (a || (b || c)) ≡ ((a || b) || c)
    or_assoc true b c = refl
    or_assoc false b c = refl

-- the table of marked heads: the counted among the issuers so far

module _ (n me : ℕ) (q : Queue) (b f : ℕ) where
  abbrev pub Marked : List Bool → ℕ → Type 0
  Marked xs i = (g : ℕ) → get_or xs g false ≡ (counts n me g && among g (issuers q (i - f) (b + f)))

  pub marked_none : Marked (replicate 8 false) 0
  unfolding issuers
  marked_none g =
      let e : ◌≡◌ {A = ℕ} 0 (0 - f) = omega arith in
      falses 8 g ∙ (and_none (counts n me g) ∙ ap (λ k. counts n me g && among g (issuers q k (b + f))) e)
    where
      falses : (k g : ℕ) → get_or (replicate k false) g false ≡ false
      falses zero g = refl
      falses (suc k) zero = refl
      falses (suc k) (suc g) = falses k g

      and_none : (c : Bool) → false ≡ (c && false)
      and_none true = refl
      and_none false = refl

  pub marked_before : (xs : List Bool) (i : ℕ) → i < f → Marked xs i → Marked xs (i + 1)
  marked_before xs i h v g = let e : i - f ≡ i + 1 - f = omega arith in v g ∙ ap (λ k. counts n me g && among g (issuers q k (b + f))) e

  pub marked_more : (xs ys : List Bool) (i : ℕ) (s : Slot) → f ≤ i → q (b + i) ≡ s → ((g : ℕ) → get_or ys g false ≡ (get_or xs g false || (counts n me g && issued_by g s))) → Marked xs i → Marked ys (i + 1)
  marked_more xs ys i s h e t v g =
      let k : i + 1 - f ≡ suc (i - f) = omega arith in
      let u : b + f + (i - f) ≡ b + i = omega arith in
      t g ∙ (ap (λ c. c || (counts n me g && issued_by g s)) (v g)
      ∙ (both (counts n me g) (among g (issuers q (i - f) (b + f))) (issued_by g s)
      ∙ ap (λ c. counts n me g && c)
      (ap (λ (x : Slot). among g (issuers q (i - f) (b + f)) || issued_by g x) (sym (ap q u ∙ e))
      ∙ (sym (among_append g (issuers q (i - f) (b + f)) (issuer_on (q (b + f + (i - f))) [])) ∙ (ap (among g) (sym (issuers_push q (i - f) (b + f))) ∙ ap (λ m. among g (issuers q m (b + f))) (sym k))))))
    where
      both : (c x y : Bool) → ((c && x) || (c && y)) ≡ (c && (x || y))
      both true x y = refl
      both false x y = refl

-- one mark, and the marks to come

module _ (n : ℕ) (h : Head) (a : ℕ) where
  mark_before : (t : ℕ) (s : Slot) → t < a → 0 ≡ holder_mark n h a t s
  mark_before t unknown l = refl
  mark_before t (ack i ns) l = sym (ap (λ b. cond (b && (counts n h.me i && not (among i (issuers h.queue (t - a) a)))) (suc i) 0) (lt-leb a t l))
  mark_before t (bare x) l = refl
  mark_before t (whole m) l = refl

  mark_new : (xs : List Bool) (t : ℕ) (s : Slot) → a ≤ t → ((g : ℕ) → get_or xs g false ≡ (counts n h.me g && among g (issuers h.queue (t - a) a))) → new_mark n h.me xs s ≡ holder_mark n h a t s
  mark_new xs t unknown l v = refl
  mark_new xs t (ack i ns) l v =
      ap (λ b. cond b (suc i) 0)
      (ap (λ b. counts n h.me i && not b) (v i) ∙ (once (counts n h.me i) (among i (issuers h.queue (t - a) a)) ∙ ap (λ b. b && (counts n h.me i && not (among i (issuers h.queue (t - a) a)))) (sym (le-leb a t l))))
    where
      once : (c x : Bool) → (c && not (c && x)) ≡ (c && not x)
      once true x = refl
      once false x = refl
  mark_new xs t (bare x) l v = refl
  mark_new xs t (whole m) l v = refl

  marks_step : (N b i : ℕ) → i < N → holder_marks n h a (N - i) (b + i) ≡ holder_mark n h a (b + i) (h.queue (b + i)) ∷ holder_marks n h a (N - (i + 1)) (b + (i + 1))
  unfolding holder_marks
  marks_step N b i l =
      let e : N - i ≡ suc (N - (i + 1)) = omega arith in
      let f : suc (b + i) ≡ b + (i + 1) = omega arith in
      ap (λ k. holder_marks n h a k (b + i)) e ∙ ap (λ t. holder_mark n h a (b + i) (h.queue (b + i)) ∷ holder_marks n h a (N - (i + 1)) t) f

  marks_end : (N b i : ℕ) → N ≤ i → holder_marks n h a (N - i) (b + i) ≡ []
  unfolding holder_marks
  marks_end N b i l = let e : N - i ≡ 0 = omega arith in ap (λ k. holder_marks n h a k (b + i)) e

-- the marks of a head with this number and queue, from the place f on

module _ (n me : ℕ) (x : CQueue) (f : ℕ) (h : Head) (k : Keeps h me x) where
  pub mark_none : (i : ℕ) → i < f → 0 ≡ holder_mark n h (x.base + f) (x.base + i) (h.queue (x.base + i))
  mark_none i l = mark_before n h (x.base + f) (x.base + i) (h.queue (x.base + i)) (omega arith)

  pub mark_after : (xs : List Bool) (i : ℕ) (s : Slot) → f ≤ i → queue_of x.base x.slots (x.base + i) ≡ s → Marked n me (queue_of x.base x.slots) x.base f xs i → new_mark n me xs s ≡ holder_mark n h (x.base + f) (x.base + i) (h.queue (x.base + i))
  mark_after xs i s l e v =
      let m = sym k.number in
      let q = sym k.queue in
      let d : i - f ≡ x.base + i - (x.base + f) = omega arith in
      ap (λ g. new_mark n g xs s) m
      ∙ (mark_new n h (x.base + f) xs (x.base + i) s (omega arith) (λ g. v g ∙ (λ j. counts n (m j) g && among g (issuers (q j) (d j) (x.base + f))))
      ∙ ap (holder_mark n h (x.base + f) (x.base + i)) (sym e ∙ ap (λ (r : Queue). r (x.base + i)) q))

  pub marks_more : (i m : ℕ) (zs all : List ℕ) → i < 96 → i < length zs → m ≡ holder_mark n h (x.base + f) (x.base + i) (h.queue (x.base + i))
      → take i zs ++ holder_marks n h (x.base + f) (96 - i) (x.base + i) ≡ all → take (i + 1) (set zs i m) ++ holder_marks n h (x.base + f) (96 - (i + 1)) (x.base + (i + 1)) ≡ all
  marks_more i m zs all l g e v =
      let rest : List ℕ = holder_marks n h (x.base + f) (96 - (i + 1)) (x.base + (i + 1)) in
      front_more zs i m rest all g (ap (λ (ys : List ℕ). take i zs ++ ys) (ap (λ y. y ∷ rest) e ∙ sym (marks_step n h (x.base + f) 96 x.base i l)) ∙ v)

  pub marks_all : (i : ℕ) (zs es all : List ℕ) → i ≡ 96 → take i zs ++ holder_marks n h (x.base + f) (96 - i) (x.base + i) ≡ all → drop i zs ≡ drop i es → zs ≡ all ++ drop 96 es
  marks_all i zs es all e v d = front_all zs es all i (ap (λ (ys : List ℕ). take i zs ++ ys) (sym (marks_end n h (x.base + f) 96 x.base i (omega arith))) ∙ v) d ∙ ap (λ j. all ++ drop j es) e

  -- from the ACK that ordered the slot at s on, if there is one

  pub marks_nowhere : (s : ℕ) → f ≡ 96 → None ≡ stamp_of (last_ack (queue_of x.base x.slots) (suc s - x.base) x.base) → holder_marks n h (x.base + f) 96 x.base ≡ marks_from n h (orderer h s)
  marks_nowhere s e o = let b = sym k.base in (λ j. holder_marks n h (b j + e j) 96 (b j)) ∙ ap (marks_from n h) (o ∙ sym (orderer_is n me x s h k))

  pub marks_since : (s t : ℕ) → x.base + f ≡ t → Some t ≡ stamp_of (last_ack (queue_of x.base x.slots) (suc s - x.base) x.base) → holder_marks n h (x.base + f) 96 x.base ≡ marks_from n h (orderer h s)
  marks_since s t e o = let b = sym k.base in (λ j. holder_marks n h (e j) 96 (b j)) ∙ ap (marks_from n h) (o ∙ sym (orderer_is n me x s h k))
