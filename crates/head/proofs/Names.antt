-- The names along a queue, and the highest numbers among them.
use Rattle.std.proofs.Common.{◌≡◌, ℕ, zero, suc, ◌+◌, ◌<◌, ◌≤◌, true, false, not, eqb, List, [], ◌∷◌, ◌++◌, Some, None, Option, sym, refl, ap, ◌∙◌, subst, inl, inr, add-zero, add-suc, suc-add, zero-add, arith}
use Rattle.std.proofs.lemmas.Bool.{cases_Bool, cases_eq, or_cases, eqb-true, not-true, and_parts}
use Rattle.frames.specs.Values.{Name}
use Rattle.head.specs.Deliver.{among}
use Rattle.head.specs.Queue.{Queue, all_unknown, highest, issuer_on, issuers, names_it, place_of, raise}
use Rattle.head.specs.Slots.{Slot, ack, bare, known, named, unknown, whole}
use Rattle.head.proofs.Walk.{IssuedAt}

issuer_step : (q : Queue) (k t g : ℕ) (s : Slot) → q t ≡ s → among g (issuer_on s (issuers q k (suc t))) ≡ true → (among g (issuers q k (suc t)) ≡ true → IssuedAt q k (suc t) g) → IssuedAt q (suc k) t g
issuer_step q k t g unknown e h i = let j : IssuedAt q k (suc t) g = i h in (j.0, omega (arith, j.1), omega (arith, j.2), j.3)
issuer_step q k t g (ack o ns) e h i =
    elim (or_cases (eqb g o) (among g (issuers q k (suc t))) h) [
      | inl same ↦ (t, omega arith, omega arith, (ns, e ∙ ap (λ (x : ℕ). ack x ns) (sym (eqb-true g o same))))
      | inr later ↦ let j : IssuedAt q k (suc t) g = i later in (j.0, omega (arith, j.1), omega (arith, j.2), j.3)
    ]
issuer_step q k t g (bare x) e h i = let j : IssuedAt q k (suc t) g = i h in (j.0, omega (arith, j.1), omega (arith, j.2), j.3)
issuer_step q k t g (whole m) e h i = let j : IssuedAt q k (suc t) g = i h in (j.0, omega (arith, j.1), omega (arith, j.2), j.3)

pub issuers_at : (q : Queue) (k t g : ℕ) → among g (issuers q k t) ≡ true → IssuedAt q k t g
unfolding issuers
issuers_at q zero t g h = let z : ◌≡◌ {A = ℕ} 0 1 = cc in absurd (omega arith)
issuers_at q (suc k) t g h = issuer_step q k t g (q t) refl h (issuers_at q k (suc t) g)

-- the names at the k stamps from t on

abbrev pub name_on : Option Name → List Name → List Name
name_on None xs = xs
name_on (Some x) xs = x ∷ xs

pub listing : Queue → ℕ → ℕ → List Name
listing q zero t = []
listing q (suc k) t = name_on (named (q t)) (listing q k (suc t))

pub listing_zero : (q : Queue) (t : ℕ) → listing q 0 t ≡ []
unfolding listing
listing_zero q t = refl

pub listing_suc : (q : Queue) (k t : ℕ) → listing q (suc k) t ≡ name_on (named (q t)) (listing q k (suc t))
unfolding listing
listing_suc q k t = refl

name_on_join : (x : Option Name) (xs ys : List Name) → name_on x (xs ++ ys) ≡ name_on x xs ++ ys
name_on_join None xs ys = refl
name_on_join (Some x) xs ys = refl

pub listing_join : (q : Queue) (j k t : ℕ) → listing q (j + k) t ≡ listing q j t ++ listing q k (t + j)
unfolding listing
listing_join q zero k t = rw (zero-add k, add-zero t)
listing_join q (suc j) k t =
    ap (λ (i : ℕ). listing q i t) (suc-add j k)
    ∙ ap (name_on (named (q t))) (listing_join q j k (suc t))
    ∙ name_on_join (named (q t)) (listing q j (suc t)) (listing q k (suc t + j))
    ∙ ap (λ (i : ℕ). name_on (named (q t)) (listing q j (suc t)) ++ listing q k i) (suc-add t j ∙ sym (add-suc t j))

pub listing_same : (q p : Queue) (k t : ℕ) → ((u : ℕ) → t ≤ u → u < t + k → named (q u) ≡ named (p u)) → listing q k t ≡ listing p k t
unfolding listing
listing_same q p zero t h = refl
listing_same q p (suc k) t h =
    let i : listing q k (suc t) ≡ listing p k (suc t) = listing_same q p k (suc t) (λ u a b. h u (omega arith) (omega arith)) in
    let e : named (q t) ≡ named (p t) = h t (omega arith) (omega arith) in
    cc

-- the highest number of a source in a list of names, at least b

pub raise_all : ℕ → List Name → ℕ → ℕ
raise_all s [] b = b
raise_all s (x ∷ xs) b = raise_all s xs (raise s (Some x) b)

pub raise_all_nil : (s b : ℕ) → raise_all s [] b ≡ b
unfolding raise_all
raise_all_nil s b = refl

pub raise_all_cons : (s : ℕ) (x : Name) (xs : List Name) (b : ℕ) → raise_all s (x ∷ xs) b ≡ raise_all s xs (raise s (Some x) b)
unfolding raise_all
raise_all_cons s x xs b = refl

pub raise_all_join : (s : ℕ) (xs ys : List Name) (b : ℕ) → raise_all s (xs ++ ys) b ≡ raise_all s ys (raise_all s xs b)
unfolding raise_all
raise_all_join s [] ys b = refl
raise_all_join s (x ∷ xs) ys b = raise_all_join s xs ys (raise s (Some x) b)

raise_on : (s : ℕ) (x : Option Name) (xs : List Name) (b : ℕ) → raise_all s (name_on x xs) b ≡ raise_all s xs (raise s x b)
unfolding raise_all
raise_on s None xs b = refl
raise_on s (Some x) xs b = refl

pub highest_true : (q : Queue) (s k t b : ℕ) → known (q t) ≡ true → highest q s (suc k) t b ≡ highest q s k (suc t) (raise s (named (q t)) b)
unfolding highest
highest_true q s k t b e = rw (e, highest)

pub highest_false : (q : Queue) (s k t b : ℕ) → known (q t) ≡ false → highest q s (suc k) t b ≡ b
unfolding highest
highest_false q s k t b e = rw (e, highest)

pub highest_zero : (q : Queue) (s t b : ℕ) → highest q s 0 t b ≡ b
unfolding highest
highest_zero q s t b = refl

-- j known stamps, and then an unknown one unless the walk ends
pub highest_is : (q : Queue) (s j k t b : ℕ) → j ≤ k → ((u : ℕ) → t ≤ u → u < t + j → known (q u) ≡ true) → (j < k → known (q (t + j)) ≡ false) → highest q s k t b ≡ raise_all s (listing q j t) b
highest_is q s zero zero t b h a e = highest_zero q s t b ∙ sym (ap (λ (xs : List Name). raise_all s xs b) (listing_zero q t) ∙ raise_all_nil s b)
highest_is q s zero (suc k) t b h a e = highest_false q s k t b (rw add-zero at (e (omega arith))) ∙ sym (ap (λ (xs : List Name). raise_all s xs b) (listing_zero q t) ∙ raise_all_nil s b)
highest_is q s (suc j) zero t b h a e = absurd (omega arith)
highest_is q s (suc j) (suc k) t b h a e =
    highest_true q s k t b (a t (omega arith) (omega arith))
    ∙ highest_is q s j k (suc t) (raise s (named (q t)) b) (omega arith) (λ u x y. a u (omega arith) (omega arith)) (λ l. subst (λ (u : ℕ). known (q u) ≡ false) (add-suc t j ∙ sym (suc-add t j)) (e (omega arith)))
    ∙ sym (ap (λ (xs : List Name). raise_all s xs b) (listing_suc q j t) ∙ raise_on s (named (q t)) (listing q j (suc t)) b)

-- after j known stamps the walk goes on from the next
pub highest_split : (q : Queue) (s j k t b : ℕ) → ((u : ℕ) → t ≤ u → u < t + j → known (q u) ≡ true) → highest q s (j + k) t b ≡ highest q s k (t + j) (highest q s j t b)
highest_split q s zero k t b h = rw (zero-add k, add-zero t, highest_zero q s t b)
highest_split q s (suc j) k t b h =
    let e : known (q t) ≡ true = h t (omega arith) (omega arith) in
    ap (λ (i : ℕ). highest q s i t b) (suc-add j k)
    ∙ (highest_true q s (j + k) t b e
    ∙ (highest_split q s j k (suc t) (raise s (named (q t)) b) (λ u x y. h u (omega arith) (omega arith))
    ∙ (ap (λ (i : ℕ). highest q s k i (highest q s j (suc t) (raise s (named (q t)) b))) (suc-add t j ∙ sym (add-suc t j)) ∙ ap (highest q s k (t + suc j)) (sym (highest_true q s j t b e)))))

-- past an unknown stamp it finds nothing more
pub highest_stop : (q : Queue) (s k i t b : ℕ) → known (q (t + k)) ≡ false → highest q s (k + i) t b ≡ highest q s k t b
highest_stop q s zero zero t b h = rw zero-add
highest_stop q s zero (suc i) t b h = ap (λ (j : ℕ). highest q s j t b) (zero-add (suc i)) ∙ (highest_false q s i t b (rw add-zero at h) ∙ sym (highest_zero q s t b))
highest_stop q s (suc k) i t b h = ap (λ (j : ℕ). highest q s j t b) (suc-add k i) ∙ (elim (cases_Bool (known (q t))) [
  | inl e ↦ highest_true q s (k + i) t b e ∙ (highest_stop q s k i (suc t) (raise s (named (q t)) b) (subst (λ (u : ℕ). known (q u) ≡ false) (add-suc t k ∙ sym (suc-add t k)) h) ∙ sym (highest_true q s k t b e))
  | inr e ↦ highest_false q s (k + i) t b e ∙ sym (highest_false q s k t b e)
])

-- the place of a name

place_true : (q : Queue) (x : Name) (k t : ℕ) → names_it x (named (q t)) ≡ true → place_of q x (suc k) t ≡ Some t
unfolding place_of
place_true q x k t e = rw (e, place_of)

place_false : (q : Queue) (x : Name) (k t : ℕ) → names_it x (named (q t)) ≡ false → place_of q x (suc k) t ≡ place_of q x k (suc t)
unfolding place_of
place_false q x k t e = rw (e, place_of)

place_zero : (q : Queue) (x : Name) (t : ℕ) → place_of q x 0 t ≡ None
unfolding place_of
place_zero q x t = refl

pub place_found : (q : Queue) (x : Name) (k t u : ℕ) → place_of q x k t ≡ Some u → (t ≤ u) × (u < t + k) × (names_it x (named (q u)) ≡ true)
place_found q x zero t u h = let e : place_of q x 0 t ≡ None = place_zero q x t in let z : ◌≡◌ {A = ℕ} 0 1 = cc in absurd (omega arith)
place_found q x (suc k) t u h =
    elim (cases_Bool (names_it x (named (q t)))) [
      | inl e ↦ let f : place_of q x (suc k) t ≡ Some t = place_true q x k t e in let same : t ≡ u = cc in (omega arith, omega arith, subst (λ (v : ℕ). names_it x (named (q v)) ≡ true) same e)
      | inr e ↦ let i : (suc t ≤ u) × (u < suc t + k) × (names_it x (named (q u)) ≡ true) = place_found q x k (suc t) u (sym (place_false q x k t e) ∙ h) in (omega (arith, i.0), omega (arith, i.1), i.2)
    ]

pub all_unknown_at : (q : Queue) (k t u : ℕ) → all_unknown q k t ≡ true → t ≤ u → u < t + k → known (q u) ≡ false
unfolding all_unknown
all_unknown_at q zero t u h a b = absurd (omega arith)
all_unknown_at q (suc k) t u h a b =
    let p : (not (known (q t)) ≡ true) × (all_unknown q k (suc t) ≡ true) = and_parts (not (known (q t))) (all_unknown q k (suc t)) h in
    elim (cases_eq t u) [ inl same ↦ subst (λ (v : ℕ). known (q v) ≡ false) same (not-true (known (q t)) p.0) | inr other ↦ all_unknown_at q k (suc t) u p.1 (omega arith) (omega arith) ]
