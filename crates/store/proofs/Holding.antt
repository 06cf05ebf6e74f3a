-- The steps of what is read off the ACKs of a queue: past ACKs, the ACK that ordered a slot, and the issuers from it on.
use Rattle.std.proofs.Common.{◌≡◌, ℕ, zero, suc, ◌+◌, ◌-◌, ◌<◌, ◌≤◌, max, min, Bool, cond, true, false, not, ◌&&◌, ◌||◌, eqb, List, [], ◌∷◌, length, get_or, set, Some, None, Option, MatchOption, unwrap_or, sym, refl, ap, ◌∙◌, inl, inr, arith, get_or-set_other, get_or-set_same}
use Rattle.std.proofs.lemmas.Bool.{both_ways, cases_lt, cases_eq, eq-eqb, ne_eqb, or_left, or_right, and_left}
use Rattle.std.specs.List.{filter, range_with_len}
use Rattle.frames.specs.Values.{Name}
use Rattle.head.specs.Slots.{Slot, unknown, ack, bare, whole, known, is_ack}
use Rattle.head.specs.Deliver.{stamp_of, among, orderer, others, holders, holders_from}
use Rattle.head.specs.Head.{Head}
use Rattle.head.specs.Queue.{Queue, first_not, last_ack, issuers, issuer_on, one_if}
use Rattle.head.proofs.Walk.{first_not_stops}
use Rattle.store.specs.declared.types.Queue.{Queue as CQueue}
use Rattle.store.specs.Holders.{Keeps}
use Rattle.store.specs.Parts.{queue_of, Passed, Ends}
use Rattle.store.proofs.View.{queue_past}
use Rattle.store.proofs.Looking.{last_before}

ack_known : (s : Slot) → is_ack s ≡ true → known s ≡ true
ack_known unknown e = absurd (both_ways true (sym e) refl)
ack_known (ack i ns) e = refl
ack_known (bare x) e = refl
ack_known (whole m) e = refl

-- past ACKs

-- a walk stops at the first stamp where the test fails
first_not_at : (p : Slot → Bool) (q : Queue) (k t u : ℕ) → t ≤ u → u ≤ t + k → ((v : ℕ) → t ≤ v → v < u → p (q v) ≡ true) → (u < t + k → p (q u) ≡ false) → u ≡ first_not p q k t
first_not_at p q k t u a b f g =
    let i = first_not_stops p q k t in
    let r : ℕ = first_not p q k t in
    elim (cases_lt u r) [
      | inl l ↦ absurd (both_ways (p (q u)) (g (omega (arith, i.to))) (i.before u a l))
      | inr l ↦ elim (cases_lt r u) [
        | inl m ↦ absurd (both_ways (p (q r)) (i.at (omega arith)) (f r i.from m))
        | inr m ↦ omega arith
      ]
    ]

module _ (x : CQueue) where
  abbrev q : Queue
  q = queue_of x.base x.slots

  -- the first of the stamps from d on that has no ACK, or what comes after the queue
  pub skip_is : (d : ℕ) (o : Option ℕ) → MatchOption o ((u : ℕ) → d ≤ u → u < x.base + 96 → is_ack (q u) ≡ true) (λ i. (d ≤ i) × (i < x.base + 96) × (is_ack (q i) ≡ false) × ((u : ℕ) → d ≤ u → u < i → is_ack (q u) ≡ true)) → unwrap_or o (max d (x.base + 96)) ≡ first_not is_ack q (x.base + 96 - d) d
  skip_is d None h = first_not_at is_ack q (x.base + 96 - d) d (max d (x.base + 96)) (omega arith) (omega arith) (λ u a b. h u a (omega arith)) (λ l. absurd (omega arith))
  skip_is d (Some i) h = first_not_at is_ack q (x.base + 96 - d) d i h.0 (omega (arith, h.1)) h.3 (λ _. h.2)

  module _ (d r k : ℕ) (e : r ≡ first_not is_ack q k d) where
    between : (u : ℕ) → d ≤ u → u < r → known (q u) ≡ true
    between u h l = ack_known (q u) ((first_not_stops is_ack q k d).before u h (omega arith))

    pub skip_from : d ≤ r
    skip_from = omega (arith, (first_not_stops is_ack q k d).from)

    pub skip_passed : Passed x d → Passed x r
    skip_passed p u a l = elim (cases_lt u d) [ inl h ↦ p u a h | inr h ↦ between u h l ]

    pub skip_bound : Ends x → d ≤ 1000001 → r ≤ 1000001
    skip_bound en h = elim (cases_lt 1000001 r) [ inl l ↦ absurd (both_ways (known (q 1000001)) (en 1000001 (omega arith)) (between 1000001 h l)) | inr l ↦ l ]

-- the ACK that ordered a slot

-- past the queue there is no ACK
pub last_far : (x : CQueue) (k : ℕ) → last_ack (queue_of x.base x.slots) 96 x.base ≡ last_ack (queue_of x.base x.slots) (k + 96) x.base
last_far x zero = refl
last_far x (suc k) =
    let l = x.places in
    last_far x k ∙ last_before (queue_of x.base x.slots) (suc k + 96) (k + 96) x.base (omega arith) (ap is_ack (queue_past x.base x.slots (x.base + (k + 96)) (omega arith)))

-- the places of k stamps
pub last_upto : (x : CQueue) (n k : ℕ) → n ≡ min k 96 → last_ack (queue_of x.base x.slots) n x.base ≡ last_ack (queue_of x.base x.slots) k x.base
last_upto x n k e = elim (cases_lt k 96) [
  | inl h ↦ let f : n ≡ k = omega arith in ap (λ m. last_ack (queue_of x.base x.slots) m x.base) f
  | inr h ↦
      let f : n ≡ 96 = omega arith in
      let g : k - 96 + 96 ≡ k = omega arith in
      ap (λ m. last_ack (queue_of x.base x.slots) m x.base) f ∙ (last_far x (k - 96) ∙ ap (λ m. last_ack (queue_of x.base x.slots) m x.base) g)
]

-- the issuers from a stamp on

module _ (q : Queue) (e u v : ℕ) (h : u < e) (next : v ≡ suc u) where
  issuers_step : issuers q (e - u) u ≡ issuer_on (q u) (issuers q (e - v) v)
  unfolding issuers
  issuers_step =
      let k : e - u ≡ suc (e - v) = omega arith in
      ap (λ n. issuers q n u) k ∙ ap (λ t. issuer_on (q u) (issuers q (e - v) t)) (sym next)

  pub issuers_ack : (g : ℕ) (ns : List Name) → q u ≡ ack g ns → issuers q (e - u) u ≡ g ∷ issuers q (e - v) v
  issuers_ack g ns f = issuers_step ∙ ap (λ s. issuer_on s (issuers q (e - v) v)) f

  pub issuers_other : is_ack (q u) ≡ false → issuers q (e - u) u ≡ issuers q (e - v) v
  issuers_other f = issuers_step ∙ go (q u) f
    where
      go : (s : Slot) → is_ack s ≡ false → issuer_on s (issuers q (e - v) v) ≡ issuers q (e - v) v
      go unknown n = refl
      go (ack j ns) n = absurd (both_ways true n refl)
      go (bare x) n = refl
      go (whole m) n = refl

pub issuers_end : (q : Queue) (e u : ℕ) → e ≤ u → issuers q (e - u) u ≡ []
unfolding issuers
issuers_end q e u h = let k : e - u ≡ 0 = omega arith in ap (λ n. issuers q n u) k

-- a table of the issuers so far, with the issuers to come

pub told_more : (xs : List Bool) (j g : ℕ) (is : List ℕ) → j < length xs → (get_or (set xs j true) g false || among g is) ≡ (get_or xs g false || among g (j ∷ is))
told_more xs j g is h = elim (cases_eq g j) [
  | inl e ↦ ap (λ b. b || among g is) (ap (λ k. get_or (set xs j true) k false) e ∙ get_or-set_same xs j true false h) ∙ sym (or_right (get_or xs g false) (eqb g j || among g is) (or_left (eqb g j) (among g is) (eq-eqb g j e)))
  | inr e ↦ ap (λ b. b || among g is) (get_or-set_other xs j g true false e) ∙ ap (λ b. get_or xs g false || (b || among g is)) (sym (ne_eqb g j e))
]

pub told_far : (xs : List Bool) (j g : ℕ) (is : List ℕ) → g < j → (get_or xs g false || among g is) ≡ (get_or xs g false || among g (j ∷ is))
told_far xs j g is h = ap (λ b. get_or xs g false || (b || among g is)) (sym (ne_eqb g j (λ e. omega arith)))

-- counting the others

-- a range with one number more
filter_more : (p : ℕ → Bool) (n a : ℕ) → length (filter p (range_with_len a (suc n))) ≡ one_if (p (a + n)) + length (filter p (range_with_len a n))
filter_more p zero a = let e : a ≡ a + 0 = omega arith in go (p a) ∙ ap (λ k. one_if (p k) + 0) e
  where
    go : (b : Bool) → length (cond b (a ∷ []) []) ≡ one_if b + 0
    go true = refl
    go false = refl
filter_more p (suc n) a =
    let e : a + 1 + n ≡ a + suc n = omega arith in
    go (p a) (filter p (range_with_len (a + 1) (suc n))) (filter p (range_with_len (a + 1) n)) (filter_more p n (a + 1) ∙ ap (λ k. one_if (p k) + length (filter p (range_with_len (a + 1) n))) e)
  where
    go : (b : Bool) (xs ys : List ℕ) → length xs ≡ one_if (p (a + suc n)) + length ys → length (cond b (a ∷ xs) xs) ≡ one_if (p (a + suc n)) + length (cond b (a ∷ ys) ys)
    go true xs ys h = omega (arith, h)
    go false xs ys h = h

heads_more : (p : ℕ → Bool) (n : ℕ) → length (filter p (range_with_len 0 (suc n))) ≡ one_if (p n) + length (filter p (range_with_len 0 n))
heads_more p n = let e : 0 + n ≡ n = omega arith in filter_more p n 0 ∙ ap (λ k. one_if (p k) + length (filter p (range_with_len 0 n))) e

pub one_if-le : (b : Bool) → one_if b ≤ 1
one_if-le true = omega arith
one_if-le false = omega arith

module _ (me : ℕ) (xs : List Bool) where
  abbrev pub other : ℕ → Bool
  other g = not (eqb g me) && get_or xs g false

  -- the others in a table
  pub others_list : (n : ℕ) (is : List ℕ) → n ≤ 8 → ((g : ℕ) → g < 8 → get_or xs g false ≡ among g is) → length (filter other (range_with_len 0 n)) ≡ others n me is
  unfolding others
  others_list zero is h t = refl
  others_list (suc n) is h t = heads_more other n ∙ (ap (λ b. one_if (not (eqb n me) && b) + length (filter other (range_with_len 0 n))) (t n (omega arith)) ∙ ap (λ k. one_if (not (eqb n me) && among n is) + k) (others_list n is (omega arith) t))

  others_few : (n : ℕ) → length (filter other (range_with_len 0 n)) ≤ n
  others_few zero = omega arith
  others_few (suc n) = omega (arith, heads_more other n, others_few n, one_if-le (other n))

  -- this head is none of them
  pub others_fewer : (n : ℕ) → me < n → length (filter other (range_with_len 0 n)) < n
  others_fewer zero h = absurd (omega arith)
  others_fewer (suc n) h = elim (cases_eq n me) [
    | inl e ↦ omega (arith, heads_more other n, ap one_if (and_left (not (eqb n me)) (get_or xs n false) (ap not (eq-eqb n me e))), others_few n)
    | inr ne ↦ omega (arith, heads_more other n, one_if-le (other n), others_fewer n (omega arith))
  ]

pub or_none : (b : Bool) → b ≡ (b || false)
or_none true = refl
or_none false = refl

-- the holders of a slot

module _ (n me : ℕ) (x : CQueue) (s : ℕ) (h : Head) (k : Keeps h me x) where
  abbrev found : Option ℕ
  found = stamp_of (last_ack (queue_of x.base x.slots) (suc s - x.base) x.base)

  -- the ACK that ordered the slot
  pub orderer_is : orderer h s ≡ found
  unfolding orderer
  orderer_is = (λ j. stamp_of (last_ack (k.queue j) (suc s - k.base j) (k.base j)))

  pub holders_none : None ≡ found → holders n h s ≡ 0
  unfolding holders
  holders_none e = ap (holders_from n h) (orderer_is ∙ sym e)

  pub holders_some : (t : ℕ) → Some t ≡ found → holders n h s ≡ others n me (issuers (queue_of x.base x.slots) (x.base + 96 - t) t)
  unfolding holders
  holders_some t e = ap (holders_from n h) (orderer_is ∙ sym e) ∙ (λ j. others n (k.number j) (issuers (k.queue j) (k.base j + 96 - t) t))
