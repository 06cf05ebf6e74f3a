-- The steps of the calls on an inbox.
use Rattle.std.proofs.Common.{◌≡◌, ℕ, zero, suc, ◌+◌, ◌-◌, ◌<◌, ◌≤◌, Bool, true, false, cond, ◌&&◌, ◌||◌, eqb, ltb, leb, List, [], ◌∷◌, length, map, get_or, drop, set, replicate, None, Option, sym, refl, ap, ◌∙◌, subst, inl, inr, arith}
use mathlib.Core.Path.{fun_ext}
use Rattle.std.proofs.lemmas.List.{get_or_default, at_drop_all, at_drop_more}
use Rattle.std.proofs.lemmas.Bool.{both_ways, cases_lt, cases_eq, lt-ltb, le-ltb, le-leb, lt-leb, and_from, cond-true, cond-false}
use Rattle.std.proofs.lemmas.Bool.Decides.{nat_tests}
use Rattle.frames.specs.declared.types.Name.{Name as CName}
use Rattle.frames.specs.Values.{Name}
use Rattle.frames.specs.Types.{name_of}
use Rattle.head.specs.Head.{Kept, Pending, numbered_in}
use Rattle.store.specs.declared.types.Kept.{Kept as CKept}
use Rattle.store.specs.declared.types.Source.{Source}
use Rattle.store.specs.Parts.{blank, in_window, kept_of, lows_in, pending_of, source_of, table_of, window_of, without}
use Rattle.store.proofs.View.{pending_at, pending_change, window_low, window_far, window_in, window_raise}

pub none_at : (j : ℕ) → get_or (replicate 4 None) j None ≡ (let n : Option CKept = None in n)
none_at zero = refl
none_at (suc zero) = refl
none_at (suc (suc zero)) = refl
none_at (suc (suc (suc zero))) = refl
none_at (suc (suc (suc (suc j)))) = refl

-- at a place of the window
pub inside : (x : Source) (k i : ℕ) (y : Option CKept) → k ≡ x.low + 1 + i → i < 4 → kept_of (get_or x.kept i y) ≡ source_of x k
inside x k i y e h = let four = x.places in ap kept_of (get_or_default x.kept i y None (omega arith)) ∙ sym (window_in x.low x.kept k i e)

-- outside the window there is nothing
pub outside : (x : Source) (k : ℕ) → in_window x.low k ≡ false → source_of x k ≡ None
outside x k e =
    let l : ℕ = x.low in
    let four = x.places in
    elim (cases_lt l k) [
      | inr h ↦ window_low l x.kept k h
      | inl h ↦ elim (cases_lt (l + 4) k) [
        | inl g ↦ window_far l x.kept k (omega arith)
        | inr g ↦ absurd (both_ways (in_window l k) e (and_from (ltb l k) (leb k (l + 4)) (lt-ltb l k h) (le-leb k (l + 4) g)))
      ]
    ]

pub outside_window : (xs : List Source) (s k : ℕ) → in_window (lows_in xs s) k ≡ false → pending_of xs s k ≡ None
unfolding lows_in
outside_window xs s k e = pending_at xs s k ∙ outside (get_or xs s blank) k e

-- clearing what is not there
pub without_none : (x : Name) (p : Pending) → p x.source x.number ≡ None → p ≡ without x p
without_none x p h = fun_ext (λ s. fun_ext (λ k. go s k))
  where
    go : (s k : ℕ) → p s k ≡ without x p s k
    go s k = elim (cases_eq s x.source) [
      | inl e ↦ elim (cases_eq k x.number) [
        | inl f ↦ subst (λ n. p n k ≡ without x p n k) (sym e) (subst (λ n. p x.source n ≡ without x p x.source n) (sym f) (h ∙ hit (eqb x.source x.source && eqb x.number x.number) (p x.source x.number) h))
        | inr f ↦ grind (arith, nat_tests)
      ]
      | inr e ↦ grind (arith, nat_tests)
    ]
      where
        hit : (b : Bool) (y : Option Kept) → y ≡ None → None ≡ cond b None y
        hit true y e = refl
        hit false y e = sym e

-- clearing one after another
pub clears : List Name → Pending → Pending
clears [] p = p
clears (x ∷ xs) p = clears xs (without x p)

pub clears_nil : (p : Pending) → clears [] p ≡ p
unfolding clears
clears_nil p = refl

pub clears_is : (xs : List Name) (p : Pending) → clears xs p ≡ (λ s k. cond (numbered_in s k xs) None (p s k))
unfolding clears
clears_is [] p = refl
clears_is (x ∷ xs) p = clears_is xs (without x p) ∙ fun_ext (λ s. fun_ext (λ k. go (numbered_in s k xs) (eqb s x.source && eqb k x.number) (p s k)))
  where
    go : (a b : Bool) (y : Option Kept) → cond a None (cond b None y) ≡ cond (b || a) None y
    go true true y = refl
    go true false y = refl
    go false true y = refl
    go false false y = refl

-- one more name is cleared
pub clears_more : (xs : List CName) (i : ℕ) (x : CName) (p r e : Pending) → i < length xs → x ≡ get_or xs i x → r ≡ without (name_of x) p → clears (map name_of (drop i xs)) p ≡ e → clears (map name_of (drop (i + 1) xs)) r ≡ e
unfolding clears
clears_more xs i x p r e h f g inv =
    ap (clears (map name_of (drop (i + 1) xs))) (g ∙ ap (λ y. without (name_of y) p) f) ∙ (sym (at_drop_more (λ ys. clears (map name_of ys) p) xs i x h) ∙ inv)

pub clears_end : (xs : List CName) (i : ℕ) (p : Pending) → length xs ≤ i → clears (map name_of (drop i xs)) p ≡ p
clears_end xs i p h = at_drop_all (λ ys. clears (map name_of ys) p) xs i h ∙ clears_nil p

-- a name with no place is cleared already
pub cleared : (xs : List Source) (x : Name) (p : Pending) (r : Bool) → r ≡ in_window (lows_in xs x.source) x.number → p ≡ cond r (λ s k. cond (eqb s x.source && eqb k x.number) None (pending_of xs s k)) (pending_of xs) → p ≡ without x (pending_of xs)
cleared xs x p true e f = f
cleared xs x p false e f = f ∙ without_none x (pending_of xs) (outside_window xs x.source x.number (sym e))

-- what is not above low is not pending
pub raised_low : (x : Source) (to : ℕ) → to ≤ x.low → (k : ℕ) → source_of x k ≡ cond (leb k to) None (source_of x k)
raised_low x to h k = elim (cases_lt to k) [
  | inl l ↦ sym (cond-false (leb k to) None (source_of x k) (lt-leb k to l))
  | inr l ↦ window_low x.low x.kept k (omega arith) ∙ sym (cond-true (leb k to) None (source_of x k) (le-leb k to l))
]

-- low grows, and the window with it
pub raised_window : (x : Source) (to : ℕ) (v : List (Option CKept)) → x.low ≤ to → ((j : ℕ) → get_or v j None ≡ get_or x.kept (to - x.low + j) None) → (k : ℕ) → window_of to v k ≡ cond (leb k to) None (source_of x k)
raised_window x to v le f k =
    let e : x.low + (to - x.low) ≡ to = omega arith in
    subst (λ n. window_of n v k ≡ cond (leb k n) None (source_of x k)) e (window_raise x.low (to - x.low) x.kept v f k)

-- one more source is raised
pub raised : List ℕ → Pending → ℕ → Pending
raised low p i s k = cond (ltb s i && leb k (table_of low s)) None (p s k)

pub raised_none : (low : List ℕ) (p : Pending) → p ≡ raised low p 0
unfolding raised
raised_none low p = fun_ext (λ s. fun_ext (λ k. go s (leb k (table_of low s)) (p s k) (le-ltb s 0 (omega arith))))
  where
    go : (s : ℕ) (b : Bool) (y : Option Kept) → ltb s 0 ≡ false → y ≡ cond (ltb s 0 && b) None y
    go s b y e = sym (ap (λ t. cond (t && b) None y) e)

pub raised_more : (low : List ℕ) (p q r : Pending) (i : ℕ) → q ≡ raised low p i → r ≡ (λ t k. cond (eqb t i && leb k (table_of low i)) None (q t k)) → r ≡ raised low p (i + 1)
unfolding raised
raised_more low p q r i f g = g ∙ fun_ext (λ t. fun_ext (λ k. ap (λ y. cond (eqb t i && leb k (table_of low i)) None y) (ap (λ (v : Pending). v t k) f) ∙ go t k))
  where
    go : (t k : ℕ) → cond (eqb t i && leb k (table_of low i)) None (cond (ltb t i && leb k (table_of low t)) None (p t k)) ≡ cond (ltb t (i + 1) && leb k (table_of low t)) None (p t k)
    go t k = elim (cases_eq t i) [
      | inl e ↦ subst (λ n. cond (eqb n i && leb k (table_of low i)) None (cond (ltb n i && leb k (table_of low n)) None (p n k)) ≡ cond (ltb n (i + 1) && leb k (table_of low n)) None (p n k)) (sym e) (grind (arith, nat_tests))
      | inr e ↦ grind (arith, nat_tests)
    ]

pub raised_all : (low : List ℕ) (p : Pending) (i : ℕ) → ((s k : ℕ) → i ≤ s → p s k ≡ None) → raised low p i ≡ (λ s k. cond (leb k (table_of low s)) None (p s k))
unfolding raised
raised_all low p i h = fun_ext (λ s. fun_ext (λ k. elim (cases_lt s i) [
  | inl l ↦ ap (λ b. cond (b && leb k (table_of low s)) None (p s k)) (lt-ltb s i l)
  | inr l ↦ both (ltb s i && leb k (table_of low s)) (leb k (table_of low s)) (p s k) (h s k l)
]))
  where
    both : (a b : Bool) (y : Option Kept) → y ≡ None → cond a None y ≡ cond b None y
    both true true y e = refl
    both true false y e = sym e
    both false true y e = e
    both false false y e = refl

-- of one source, what is pending under some numbers changes, or nothing does
pub put_change : (xs : List Source) (s : ℕ) (x : Source) (r : Bool) (test : ℕ → Bool) (o : Option Kept) → s < length xs → ((i : ℕ) → source_of x i ≡ cond (r && test i) o (pending_of xs s i))
    → pending_of (set xs s x) ≡ cond r (λ t i. cond (eqb t s && test i) o (pending_of xs t i)) (pending_of xs)
put_change xs s x true test o h f = pending_change xs s x test o h f
put_change xs s x false test o h f = pending_change xs s x (λ i. false) o h f ∙ fun_ext (λ t. fun_ext (λ i. go (eqb t s) (pending_of xs t i)))
  where
    go : (a : Bool) (y : Option Kept) → cond (a && false) o y ≡ y
    go true y = refl
    go false y = refl
