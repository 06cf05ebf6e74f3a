-- The steps of the loop that reads names.
use Rattle.std.proofs.Common.{◌≡◌, ℕ, zero, suc, ◌+◌, ◌<◌, Bool, true, false, cond, List, [], ◌∷◌, ◌++◌, map, length, get_or, take, drop, Ok, Err, sym, refl, ap, ◌∙◌, arith}
use Rattle.std.specs.Simd.{first_chunks}
use Rattle.std.proofs.lemmas.List.{take_more}
use Rattle.std.proofs.lemmas.List.Folds.{list_all_at, list_all_more}
use Rattle.std.proofs.lemmas.Bool.{and_from, cond-false}
use Rattle.frames.specs.declared.refusal.Refusal.{Refusal}
use Rattle.frames.specs.declared.refusal.Refusal.TheVariants.{FieldOutOfRange}
use Rattle.frames.specs.Made.{name_for, names_for}
use Rattle.frames.specs.Values.{Name, name_ok, names_ok}
use Rattle.frames.specs.Reading.{name_in, names_in}

pub length-names_in : (i : ℕ) (bs : List ℕ) → length (names_in i bs) ≡ i
length-names_in zero bs = refl
length-names_in (suc i) bs = ap suc (length-names_in i (drop 6 bs))

-- a name is in its six bytes
name_in-take : (bs : List ℕ) → name_in (take 6 bs) ≡ name_in bs
name_in-take [] = refl
name_in-take (a ∷ []) = refl
name_in-take (a ∷ b ∷ []) = refl
name_in-take (a ∷ b ∷ c ∷ []) = refl
name_in-take (a ∷ b ∷ c ∷ d ∷ []) = refl
name_in-take (a ∷ b ∷ c ∷ d ∷ e ∷ []) = refl
name_in-take (a ∷ b ∷ c ∷ d ∷ e ∷ f ∷ bs) = refl

-- the names are in chunks of six bytes
pub map_names-chunks : (k : ℕ) (bs : List ℕ) → map name_in (first_chunks 6 k bs) ≡ names_in k bs
map_names-chunks zero bs = refl
map_names-chunks (suc k) bs = rw (name_in-take bs) (ap (λ ns. name_in bs ∷ ns) (map_names-chunks k (drop 6 bs)))

-- an answer that stands on one test
pub passed : {A : Type 0} (ok : Bool) (x y : A) (e : Refusal) → Ok y ≡ cond ok (Ok x) (Err e) → (ok ≡ true) × (y ≡ x)
passed true x y e h = (refl, cc)
passed false x y e h = let z : ◌≡◌ {A = ℕ} 0 1 = cc in absurd (omega arith)

pub failed : {A : Type 0} (ok : Bool) (x : A) (d e : Refusal) → Err d ≡ cond ok (Ok x) (Err e) → (ok ≡ false) × (d ≡ e)
failed true x d e h = let z : ◌≡◌ {A = ℕ} 0 1 = cc in absurd (omega arith)
failed false x d e h = (refl, cc)

-- the reader's loop stops at a name out of range
pub read_stops : (n i : ℕ) (xs : List Name) (z : Name) (d : Refusal) → i < length xs → Err d ≡ name_for n (get_or xs i z) → Err d ≡ names_for n xs
read_stops n i xs z d h e =
    let p = failed (name_ok n (get_or xs i z)) _ d FieldOutOfRange e in
    ap Err p.1 ∙ sym (cond-false (names_ok n xs) (Ok xs) (Err FieldOutOfRange) (list_all_at (name_ok n) xs i z h p.0))

-- and goes on past one in range
pub read_more : (n i : ℕ) (xs ys : List Name) (x z : Name) → i < length xs → ys ≡ take i xs → names_ok n (take i xs) ≡ true
    → Ok x ≡ name_for n (get_or xs i z)
    → (ys ++ x ∷ [] ≡ take (i + 1) xs) × (names_ok n (take (i + 1) xs) ≡ true)
read_more n i xs ys x z h e ok r =
    let p = passed (name_ok n (get_or xs i z)) _ x FieldOutOfRange r in (
      rw (e, p.1) (sym (take_more xs i z h)),
      list_all_more (name_ok n) xs i z h ∙ and_from _ _ ok p.0,
    )
