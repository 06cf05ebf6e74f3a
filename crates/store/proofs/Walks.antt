-- The steps of the walks over a queue.
use Rattle.std.proofs.Common.{◌≡◌, ℕ, zero, suc, ◌+◌, ◌-◌, ◌<◌, ◌≤◌, max, Bool, true, false, cond, eqb, Some, None, Option, sym, refl, ap, ◌∙◌, subst, inl, inr, add-zero, add-suc, suc-add, zero-add, arith}
use Rattle.std.proofs.lemmas.Bool.{cases_Bool}
use Rattle.frames.specs.Values.{Name}
use Rattle.head.specs.Slots.{Slot, known, named, is_ack}
use Rattle.head.proofs.Walk.{acks_suc}
use Rattle.head.proofs.Names.{highest_true, highest_false, highest_zero}
use Rattle.head.proofs.Rising.{highest_from}
use Rattle.head.specs.Queue.{Queue, first_not, past_last, highest, raise, names_it, place_of, acks, one_if}

module _ (p : Slot → Bool) (q : Queue) where
  pub first_more : (k t : ℕ) → p (q t) ≡ true → first_not p q (suc k) t ≡ first_not p q k (suc t)
  unfolding first_not
  first_more k t e = rw (e, first_not)

  pub first_stop : (k t : ℕ) → p (q t) ≡ false → first_not p q (suc k) t ≡ t
  unfolding first_not
  first_stop k t e = rw (e, first_not)

  pub first_end : (t : ℕ) → first_not p q 0 t ≡ t
  unfolding first_not
  first_end t = refl

  pub past_hit : (k t : ℕ) → p (q (t + k)) ≡ true → past_last p q (suc k) t ≡ suc (t + k)
  unfolding past_last
  past_hit k t e = rw (e, past_last)

  pub past_miss : (k t : ℕ) → p (q (t + k)) ≡ false → past_last p q (suc k) t ≡ past_last p q k t
  unfolding past_last
  past_miss k t e = rw (e, past_last)

  pub past_none : (t : ℕ) → past_last p q 0 t ≡ t
  unfolding past_last
  past_none t = refl

-- counting ACKs

module _ (q : Queue) where
  pub acks_step : (N b i : ℕ) (t : Bool) → i < N → is_ack (q (b + i)) ≡ t → acks q (N - i) (b + i) ≡ one_if t + acks q (N - (i + 1)) (b + (i + 1))
  acks_step N b i t h e =
      let f : b + (i + 1) ≡ suc (b + i) = omega arith in
      let g : N - i ≡ suc (N - (i + 1)) = omega arith in
      ap (λ k. acks q k (b + i)) g ∙ (acks_suc q (N - (i + 1)) (b + i) ∙ ap (λ x. one_if x + acks q (N - (i + 1)) (suc (b + i))) e ∙ ap (λ u. one_if t + acks q (N - (i + 1)) u) (sym f))

-- the highest numbers

module _ (q : Queue) (s : ℕ) where
  pub climb_more : (N b i l m : ℕ) → i < N → known (q (b + i)) ≡ true → m ≡ raise s (named (q (b + i))) l → highest q s (N - (i + 1)) (b + (i + 1)) m ≡ highest q s (N - i) (b + i) l
  climb_more N b i l m h e f =
      let g : b + (i + 1) ≡ suc (b + i) = omega arith in
      let n : N - i ≡ suc (N - (i + 1)) = omega arith in
      ap (highest q s (N - (i + 1)) (b + (i + 1))) f ∙ (ap (λ t. highest q s (N - (i + 1)) t (raise s (named (q (b + i))) l)) g ∙ (sym (highest_true q s (N - (i + 1)) (b + i) l e) ∙ sym (ap (λ k. highest q s k (b + i) l) n)))

  pub climb_stop : (N b i l : ℕ) → i < N → known (q (b + i)) ≡ false → l ≡ highest q s (N - i) (b + i) l
  climb_stop N b i l h e =
      let n : N - i ≡ suc (N - (i + 1)) = omega arith in
      sym (ap (λ k. highest q s k (b + i) l) n ∙ highest_false q s (N - (i + 1)) (b + i) l e)

  pub climb_end : (N b i l : ℕ) → N ≤ i → l ≡ highest q s (N - i) (b + i) l
  climb_end N b i l h = let n : N - i ≡ 0 = omega arith in sym (ap (λ k. highest q s k (b + i) l) n ∙ highest_zero q s (b + i) l)

raise_up : (s : ℕ) (x : Option Name) (b c : ℕ) → b ≤ c → raise s x b ≤ raise s x c
raise_up s None b c h = h
raise_up s (Some x) b c h = go (eqb x.source s)
  where
    go : (t : Bool) → cond t (max b x.number) b ≤ cond t (max c x.number) c
    go true = omega arith
    go false = h

-- more slots are known: no number falls
pub highest_grows : (q r : Queue) (s k t b c : ℕ) → b ≤ c → ((u : ℕ) → t ≤ u → u < t + k → known (q u) ≡ true → r u ≡ q u) → highest q s k t b ≤ highest r s k t c
highest_grows q r s zero t b c h f = omega (arith, highest_zero q s t b, highest_zero r s t c)
highest_grows q r s (suc k) t b c h f = elim (cases_Bool (known (q t))) [
  | inl e ↦
      let g : r t ≡ q t = f t (omega arith) (omega arith) e in
      let i : highest q s k (suc t) (raise s (named (q t)) b) ≤ highest r s k (suc t) (raise s (named (r t)) c) =
      highest_grows q r s k (suc t) (raise s (named (q t)) b) (raise s (named (r t)) c) (subst (λ (x : Slot). raise s (named (q t)) b ≤ raise s (named x) c) (sym g) (raise_up s (named (q t)) b c h)) (λ u a d. f u (omega arith) (omega arith)) in
      omega (arith, highest_true q s k t b e, highest_true r s k t c (ap known g ∙ e), i)
  | inr e ↦ omega (arith, highest_false q s k t b e, highest_from r s (suc k) t c)
]

-- the same names at the same stamps
pub highest_same : (q r : Queue) (s k t b : ℕ) → ((u : ℕ) → t ≤ u → u < t + k → (known (q u) ≡ known (r u)) × (named (q u) ≡ named (r u))) → highest q s k t b ≡ highest r s k t b
highest_same q r s zero t b f = highest_zero q s t b ∙ sym (highest_zero r s t b)
highest_same q r s (suc k) t b f =
    let g = f t (omega arith) (omega arith) in
    elim (cases_Bool (known (q t))) [
      | inl e ↦ highest_true q s k t b e ∙ (highest_same q r s k (suc t) (raise s (named (q t)) b) (λ u a d. f u (omega arith) (omega arith)) ∙ (ap (λ (x : Option Name). highest r s k (suc t) (raise s x b)) g.1 ∙ sym (highest_true r s k t b (sym g.0 ∙ e))))
      | inr e ↦ highest_false q s k t b e ∙ sym (highest_false r s k t b (sym g.0 ∙ e))
    ]

-- the place of a name

module _ (q : Queue) (x : Name) where
  pub place_hit : (k t : ℕ) → names_it x (named (q t)) ≡ true → place_of q x (suc k) t ≡ Some t
  unfolding place_of
  place_hit k t e = rw (e, place_of)

  pub place_miss : (k t : ℕ) → names_it x (named (q t)) ≡ false → place_of q x (suc k) t ≡ place_of q x k (suc t)
  unfolding place_of
  place_miss k t e = rw (e, place_of)

  pub place_none : (t : ℕ) → place_of q x 0 t ≡ None
  unfolding place_of
  place_none t = refl

-- a known front is walked first
pub highest_split : (q : Queue) (s a k t b : ℕ) → ((u : ℕ) → t ≤ u → u < t + a → known (q u) ≡ true) → highest q s (a + k) t b ≡ highest q s k (t + a) (highest q s a t b)
highest_split q s zero k t b h = rw (zero-add k, add-zero t) (ap (highest q s k t) (sym (highest_zero q s t b)))
highest_split q s (suc a) k t b h =
    let e : known (q t) ≡ true = h t (omega arith) (omega arith) in
    let r : ℕ = raise s (named (q t)) b in
    ap (λ n. highest q s n t b) (suc-add a k) ∙ (highest_true q s (a + k) t b e ∙ (highest_split q s a k (suc t) r (λ u x y. h u (omega arith) (omega arith))
    ∙ (ap (λ u. highest q s k u (highest q s a (suc t) r)) (suc-add t a ∙ sym (add-suc t a)) ∙ ap (highest q s k (t + suc a)) (sym (highest_true q s a t b e)))))

-- past the last known stamp nothing is found
pub highest_longer : (q : Queue) (s k j t b : ℕ) → ((u : ℕ) → t + k ≤ u → known (q u) ≡ false) → highest q s (k + j) t b ≡ highest q s k t b
highest_longer q s zero zero t b h = refl
highest_longer q s zero (suc j) t b h = ap (λ n. highest q s n t b) (zero-add (suc j)) ∙ (highest_false q s j t b (h t (omega arith)) ∙ sym (highest_zero q s t b))
highest_longer q s (suc k) j t b h = ap (λ n. highest q s n t b) (suc-add k j) ∙ elim (cases_Bool (known (q t))) [
  | inl e ↦ highest_true q s (k + j) t b e ∙ (highest_longer q s k j (suc t) (raise s (named (q t)) b) (λ u x. h u (omega arith)) ∙ sym (highest_true q s k t b e))
  | inr e ↦ highest_false q s (k + j) t b e ∙ sym (highest_false q s k t b e)
]

-- giving up a known front leaves the numbers
pub highest_forward : (q r : Queue) (s m t b : ℕ) → m < 96 → ((u : ℕ) → t ≤ u → u < suc (t + m) → known (q u) ≡ true) → ((u : ℕ) → t + 96 ≤ u → known (q u) ≡ false) → ((u : ℕ) → t + m < u → r u ≡ q u)
    → highest r s 96 (suc (t + m)) (highest q s (suc m) t b) ≡ highest q s 96 t b
highest_forward q r s m t b lt kn un same =
    let c : ℕ = highest q s (suc m) t b in
    let e1 : 96 ≡ suc m + (95 - m) = omega arith in
    let e2 : 96 ≡ (95 - m) + suc m = omega arith in
    let e3 : t + suc m ≡ suc (t + m) = omega arith in
    let a1 : highest q s 96 t b ≡ highest q s (95 - m) (suc (t + m)) c = ap (λ n. highest q s n t b) e1 ∙ (highest_split q s (suc m) (95 - m) t b (λ u x y. kn u x (omega arith)) ∙ ap (λ u. highest q s (95 - m) u c) e3) in
    let a2 : highest r s 96 (suc (t + m)) c ≡ highest r s (95 - m) (suc (t + m)) c = ap (λ n. highest r s n (suc (t + m)) c) e2 ∙ highest_longer r s (95 - m) (suc m) (suc (t + m)) c (λ u x. ap known (same u (omega arith)) ∙ un u (omega arith)) in
    let a3 : highest r s (95 - m) (suc (t + m)) c ≡ highest q s (95 - m) (suc (t + m)) c = highest_same r q s (95 - m) (suc (t + m)) c (λ u x y. (ap known (same u (omega arith)), ap named (same u (omega arith)))) in
    a2 ∙ (a3 ∙ sym a1)

-- no number above a bound is named
pub highest_cap : (q : Queue) (s k t b c : ℕ) → ((u : ℕ) → raise s (named (q u)) c ≡ c) → b ≤ c → highest q s k t b ≤ c
highest_cap q s zero t b c h l = omega (arith, highest_zero q s t b)
highest_cap q s (suc k) t b c h l = elim (cases_Bool (known (q t))) [
  | inl e ↦ omega (arith, highest_true q s k t b e, highest_cap q s k (suc t) (raise s (named (q t)) b) c h (omega (arith, raise_up s (named (q t)) b c l, h t)))
  | inr e ↦ omega (arith, highest_false q s k t b e)
]
