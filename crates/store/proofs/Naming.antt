-- The equality and the tests of names and bodies, over lists.
use Rattle.std.proofs.Common.{◌≡◌, ℕ, ◌+◌, Bool, ◌&&◌, ◌||◌, List, [], ◌∷◌, map, drop, sym, refl, ap, ◌∙◌}
use Rattle.std.specs.List.{list_any, enumerate_from}
use Rattle.std.specs.Cmp.Lexicographic.{pointwise}
use Rattle.std.proofs.lemmas.List.{drop-drop}
use Rattle.frames.specs.declared.types.Name.{Name as CName}
use Rattle.frames.specs.Types.{name_of}
use Rattle.frames.specs.Values.{Name}
use Rattle.head.specs.Slots.{listed, same_message, same_name, same_names, twice}

-- equal lists of names, where E compares two names
names_same : (E : CName → CName → Bool) → ((a b : CName) → E a b ≡ same_name (name_of a) (name_of b)) → (xs ys : List CName) → pointwise E xs ys ≡ same_names (map name_of xs) (map name_of ys)
names_same E e [] [] = refl
names_same E e [] (y ∷ ys) = refl
names_same E e (x ∷ xs) [] = refl
names_same E e (x ∷ xs) (y ∷ ys) = (λ j. e x y j && names_same E e xs ys j)

pub is_same_names : {E : CName → CName → Bool} (r : Bool) (xs ys : List CName) → r ≡ pointwise E xs ys → ((a b : CName) → E a b ≡ same_name (name_of a) (name_of b)) → r ≡ same_names (map name_of xs) (map name_of ys)
is_same_names {E} r xs ys h e = h ∙ names_same E e xs ys

pub listed_any : (x : Name) (ys : List CName) → list_any (λ y. same_message x (name_of y)) ys ≡ listed x (map name_of ys)
listed_any x [] = refl
listed_any x (y ∷ ys) = ap (λ b. same_message x (name_of y) || b) (listed_any x ys)

-- each name is looked for among those after it
module _ (all : List CName) where
  abbrev pub again : ℕ × CName → Bool
  again p = listed (name_of p.1) (map name_of (drop (p.0 + 1) all))

  twice_from : (i : ℕ) (xs : List CName) → drop i all ≡ xs → list_any again (enumerate_from i xs) ≡ twice (map name_of xs)
  twice_from i [] e = refl
  twice_from i (x ∷ xs) e =
      let r : drop (i + 1) all ≡ xs = sym (drop-drop 1 i all) ∙ ap (drop 1) e in
      (λ j. listed (name_of x) (map name_of (r j)) || twice_from (i + 1) xs r j)

  pub twice_any : list_any again (enumerate_from 0 all) ≡ twice (map name_of all)
  twice_any = twice_from 0 all refl
