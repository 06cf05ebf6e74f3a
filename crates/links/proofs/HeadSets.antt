-- Flags as sets of heads.
use Rattle.std.proofs.Common.{◌≡◌, ℕ, zero, suc, ◌+◌, ◌-◌, ◌<◌, ◌≤◌, Bool, true, false, cond, not, ◌||◌, List, [], ◌∷◌, ◌++◌, length, get_or, take, drop, set, replicate, sym, refl, ap, ◌∙◌, arith}
use mathlib.Core.Bool.{beq}
use Rattle.std.specs.List.{range_with_len, list_any}
use Rattle.std.proofs.lemmas.Bool.{eq-eqb, ne_eqb}
use Rattle.std.proofs.lemmas.List.{drop-replicate, length-replicate, length-take-le}
use Rattle.links.specs.Air.{has, without, is_empty}
use Rattle.links.specs.Types.{flagged}

has_none_below : (bs : List Bool) (k h : ℕ) → h < k → has h (flagged k bs) ≡ false
has_none_below [] k h l = refl
has_none_below (true ∷ bs) k h l = ap (λ b. b || has h (flagged (k + 1) bs)) (ne_eqb h k (λ e. omega arith)) ∙ has_none_below bs (k + 1) h (omega arith)
has_none_below (false ∷ bs) k h l = has_none_below bs (k + 1) h (omega arith)

pub has_flagged : (bs : List Bool) (k i h : ℕ) → k + i ≡ h → has h (flagged k bs) ≡ get_or bs i false
has_flagged [] k i h e = refl
has_flagged (true ∷ bs) k zero h e = ap (λ b. b || has h (flagged (k + 1) bs)) (eq-eqb h k (omega arith))
has_flagged (false ∷ bs) k zero h e = has_none_below bs (k + 1) h (omega arith)
has_flagged (true ∷ bs) k (suc i) h e = ap (λ b. b || has h (flagged (k + 1) bs)) (ne_eqb h k (λ f. omega arith)) ∙ has_flagged bs (k + 1) i h (omega arith)
has_flagged (false ∷ bs) k (suc i) h e = has_flagged bs (k + 1) i h (omega arith)

without_none_below : (bs : List Bool) (k h : ℕ) → h < k → without h (flagged k bs) ≡ flagged k bs
without_none_below [] k h l = refl
without_none_below (true ∷ bs) k h l = ap (λ b. cond (not b) (k ∷ without h (flagged (k + 1) bs)) (without h (flagged (k + 1) bs))) (ne_eqb h k (λ e. omega arith)) ∙ ap (λ ks. k ∷ ks) (without_none_below bs (k + 1) h (omega arith))
without_none_below (false ∷ bs) k h l = without_none_below bs (k + 1) h (omega arith)

pub without_flagged : (bs : List Bool) (k i h : ℕ) → k + i ≡ h → flagged k (set bs i false) ≡ without h (flagged k bs)
without_flagged [] k i h e = refl
without_flagged (true ∷ bs) k zero h e = sym (ap (λ b. cond (not b) (k ∷ without h (flagged (k + 1) bs)) (without h (flagged (k + 1) bs))) (eq-eqb h k (omega arith)) ∙ without_none_below bs (k + 1) h (omega arith))
without_flagged (false ∷ bs) k zero h e = sym (without_none_below bs (k + 1) h (omega arith))
without_flagged (true ∷ bs) k (suc i) h e = ap (λ ks. k ∷ ks) (without_flagged bs (k + 1) i h (omega arith)) ∙ sym (ap (λ b. cond (not b) (k ∷ without h (flagged (k + 1) bs)) (without h (flagged (k + 1) bs))) (ne_eqb h k (λ f. omega arith)))
without_flagged (false ∷ bs) k (suc i) h e = without_flagged bs (k + 1) i h (omega arith)

flagged_none : (k m : ℕ) → flagged k (replicate m false) ≡ []
flagged_none k zero = refl
flagged_none k (suc m) = flagged_none (k + 1) m

flagged_first : (k n m : ℕ) → flagged k (replicate n true ++ replicate m false) ≡ range_with_len k n
flagged_first k zero m = flagged_none k m
flagged_first k (suc n) m = ap (λ ks. k ∷ ks) (flagged_first (k + 1) n m)

pub first_flags : (n m : ℕ) (ys : List Bool) → n ≤ m → ys ≡ replicate (length (take (n - 0) (replicate m false))) true → flagged 0 (ys ++ drop (n - 0) (replicate m false)) ≡ range_with_len 0 n
first_flags n m ys h e =
    let r = length-replicate m false in
    let l = length-take-le (n - 0) (replicate m false) (omega arith) in
    let k : length (take (n - 0) (replicate m false)) ≡ n = omega arith in
    ap (λ zs. flagged 0 (zs ++ drop (n - 0) (replicate m false))) (e ∙ ap (λ j. replicate j true) k)
    ∙ (ap (λ zs. flagged 0 (replicate n true ++ zs)) (drop-replicate (n - 0) m false) ∙ flagged_first 0 n (m - (n - 0)))

pub none_flagged : (bs : List Bool) (k : ℕ) → not (list_any (λ b. beq b true) bs) ≡ is_empty (flagged k bs)
none_flagged [] k = refl
none_flagged (true ∷ bs) k = refl
none_flagged (false ∷ bs) k = none_flagged bs (k + 1)
