-- The names that a new ACK takes: pending, each the next of its source.
use Rattle.std.proofs.Common.{◌≡◌, ℕ, zero, suc, ◌+◌, ◌-◌, ◌<◌, ◌≤◌, eqb, ◌⊎◌, List, [], ◌∷◌, ◌++◌, length, Some, None, Option, sym, refl, ap, ◌∙◌, subst, inl, inr, add-zero, arith, length-append}
use mathlib.Core.List.Memᴰ
use mathlib.Core.List.{Memᴰ}
use Rattle.std.proofs.lemmas.Bool.{cases_lt, cond-false, ne_eqb}
use Rattle.frames.specs.Bounds.{after}
use Rattle.frames.specs.Values.{Name}
use Rattle.head.specs.Head.{Head, Kept, Pending, low}
use Rattle.head.specs.Turn.{gather, run_of, to_order}
use Rattle.ring.proofs.Invariant.{Turns, from_names}
use Rattle.ring.proofs.Numbers.{from_join, from_one_same, turns_join}
use Rattle.ring.proofs.Round.{after_below, after_last, after_small}

-- runs

run_zero : (p : Pending) (s k : ℕ) → run_of p s 0 k ≡ []
unfolding run_of
run_zero p s k = refl

run_none : (p : Pending) (s b k : ℕ) → p s k ≡ None → run_of p s (suc b) k ≡ []
unfolding run_of
run_none p s b k e = rw (e, run_of)

run_some : (p : Pending) (s b k : ℕ) (m : Kept) → p s k ≡ Some m → run_of p s (suc b) k ≡ record { source = s; number = k; level = m.level } ∷ run_of p s b (suc k)
unfolding run_of
run_some p s b k m e = rw (e, run_of)

abbrev pub Pends : Pending → Name → Type 0
Pends p y = (m : Kept) × (p y.source y.number ≡ Some m) × (m.level ≡ y.level)

-- all that is asked of a run
pub record Run (p : Pending) (s b k : ℕ) (xs : List Name) : Type 0 where
  pub pends : (y : Name) → Memᴰ y xs → Pends p y
  pub few : length xs ≤ b
  pub other : (t : ℕ) → (s ≡ t → ⊥) → from_names t xs ≡ 0
  pub turns : (ys : List Name) → k ≡ suc (from_names s ys) → Turns ys xs

run_empty : (p : Pending) (s b k : ℕ) → Run p s b k []
run_empty p s b k = record { pends = λ y m. absurd (Memᴰ.not-nil m); few = omega arith; other = λ t e. refl; turns = λ ys e. tt }

run_is : (p : Pending) (s b k : ℕ) → Run p s b k (run_of p s b k)
run_is p s zero k = subst (λ (xs : List Name). Run p s 0 k xs) (sym (run_zero p s k)) (run_empty p s 0 k)
run_is p s (suc b) k = go (p s k) refl (run_is p s b (suc k))
  where
    go : (r : Option Kept) → p s k ≡ r → Run p s b (suc k) (run_of p s b (suc k)) → Run p s (suc b) k (run_of p s (suc b) k)
    go None e i = subst (λ (xs : List Name). Run p s (suc b) k xs) (sym (run_none p s b k e)) (run_empty p s (suc b) k)
    go (Some m) e i =
        let x : Name = record { source = s; number = k; level = m.level } in
        subst (λ (xs : List Name). Run p s (suc b) k xs) (sym (run_some p s b k m e)) (record {
          pends = λ y o. elim (Memᴰ.cases_cons o) [ inl z ↦ subst (λ (w : Name). Pends p w) (sym z) (m, e, refl) | inr z ↦ i.pends y z ];
          few = omega (arith, i.few);
          other = λ t d. cond-false (eqb s t) (suc (from_names t (run_of p s b (suc k)))) (from_names t (run_of p s b (suc k))) (ne_eqb s t d) ∙ i.other t d;
          turns = λ ys d. (d, i.turns (ys ++ (x ∷ [])) (let f : from_names s (ys ++ (x ∷ [])) ≡ from_names s ys + 1 = from_join s ys (x ∷ []) ∙ ap (λ (j : ℕ). from_names s ys + j) (from_one_same s x refl) in omega arith));
        })

-- the sources that are still to come, j of them from s on around the ring
abbrev Ahead : ℕ → ℕ → ℕ → ℕ → Type 0
Ahead n s j t = ((s ≤ t) × (t < s + j)) ⊎ (t + n < s + j)

ahead_next : (n s j t : ℕ) → s < n → suc j ≤ n → t < n → Ahead n (after n s) j t → Ahead n s (suc j) t × (s ≡ t → ⊥)
ahead_next n s j t a b d o = elim (cases_lt (s + 1) n) [
  | inl z ↦
      let e : after n s ≡ s + 1 = after_small n s z in
      elim o [ inl q ↦ (inl (omega (arith, q.0), omega (arith, q.1)), λ f. omega (arith, q.0)) | inr q ↦ (inr (omega arith), λ f. omega arith) ]
  | inr z ↦
      let e : after n s ≡ 0 = after_last n s (omega arith) in
      elim o [ inl q ↦ (inr (omega (arith, q.1)), λ f. omega (arith, q.1)) | inr q ↦ absurd (omega arith) ]
]

gather_zero : (n : ℕ) (x : Head) (s b : ℕ) → gather n x 0 s b ≡ []
unfolding gather
gather_zero n x s b = refl

gather_suc : (n : ℕ) (x : Head) (j s b : ℕ) → gather n x (suc j) s b ≡ run_of x.pending s b (suc (low x s)) ++ gather n x j (after n s) (b - length (run_of x.pending s b (suc (low x s))))
unfolding gather
gather_suc n x j s b = refl

pub record Gathered (n : ℕ) (x : Head) (j s b : ℕ) (xs : List Name) : Type 0 where
  pub pends : (y : Name) → Memᴰ y xs → Pends x.pending y
  pub few : length xs ≤ b
  pub turns : (ys : List Name) → ((t : ℕ) → t < n → Ahead n s j t → from_names t ys ≡ low x t) → Turns ys xs

gather_is : (n : ℕ) (x : Head) (j s b : ℕ) → s < n → j ≤ n → Gathered n x j s b (gather n x j s b)
gather_is n x zero s b h g = subst (λ (xs : List Name). Gathered n x 0 s b xs) (sym (gather_zero n x s b)) (record { pends = λ y m. absurd (Memᴰ.not-nil m); few = omega arith; turns = λ ys f. tt })
gather_is n x (suc j) s b h g =
    let r : List Name = run_of x.pending s b (suc (low x s)) in
    let u : Run x.pending s b (suc (low x s)) r = run_is x.pending s b (suc (low x s)) in
    let i : Gathered n x j (after n s) (b - length r) (gather n x j (after n s) (b - length r)) = gather_is n x j (after n s) (b - length r) (after_below n s (omega arith)) (omega arith) in
    subst (λ (xs : List Name). Gathered n x (suc j) s b xs) (sym (gather_suc n x j s b)) (record {
      pends = λ y m. elim (Memᴰ.append_cases r m) [ inl z ↦ u.pends y z | inr z ↦ i.pends y z ];
      few = omega (arith, length-append r (gather n x j (after n s) (b - length r)), u.few, i.few);
      turns = λ ys f. turns_join ys r (gather n x j (after n s) (b - length r)) (u.turns ys (ap suc (sym (f s h (inl (omega arith, omega arith)))))) (i.turns (ys ++ r) (λ t d o.
          let q : Ahead n s (suc j) t × (s ≡ t → ⊥) = ahead_next n s j t h g d o in
          from_join t ys r ∙ (ap (λ (k : ℕ). from_names t ys + k) (u.other t q.1) ∙ (add-zero (from_names t ys) ∙ f t d q.0))));
    })

pub to_order_is : (n : ℕ) (x : Head) → x.me < n → Gathered n x n x.me 4 (to_order n x)
unfolding to_order
to_order_is n x h = gather_is n x n x.me 4 h (omega arith)
