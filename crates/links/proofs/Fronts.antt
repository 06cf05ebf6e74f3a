-- The part of a table that is in use, lent and given back with its entries changed.
use Rattle.std.proofs.Common.{◌≡◌, ℕ, ◌+◌, ◌-◌, ◌<◌, ◌≤◌, List, ◌++◌, map, length, get_or, take, drop, set, sym, ap, ◌∙◌, arith, length-take}
use Rattle.std.proofs.lemmas.List.{take-map, take-take, take-append-le, take_at, take_all, drop_all, length-map, length-take-le, append-nil, map-set, get_or-map}
use Rattle.std.proofs.lemmas.List.Edits.{map_over_more}

-- each entry changed in turn: the first i of them so far
abbrev pub Changed : {X Y : Type 0} → (X → Y) → (Y → Y) → ℕ → List X → List X → Type 0
Changed g f i xs ys = map g ys ≡ map f (take i (map g xs)) ++ drop i (map g xs)

module _ {X Y : Type 0} (g : X → Y) (f : Y → Y) (xs ys : List X) (i : ℕ) where
  pub changed_more : (d z : X) → i < length xs → length ys ≡ length xs → Changed g f i xs ys → g z ≡ f (g (get_or ys i d)) → Changed g f (i + 1) xs (set ys i z)
  changed_more d z h l inv e =
      map-set g ys i z
      ∙ (ap (set (map g ys) i) e
      ∙ map_over_more f (map g xs) (map g ys) i (g (get_or ys i d)) (let m = length-map xs g in omega arith) inv (sym (get_or-map g ys i d (g (get_or ys i d)) (omega arith))))

  pub changed_all : length xs ≤ i → Changed g f i xs ys → map g ys ≡ map f (map g xs)
  changed_all h inv =
      let m = length-map xs g in
      inv ∙ (ap (λ zs. map f zs ++ drop i (map g xs)) (take_all i (map g xs) (omega arith)) ∙ (ap (λ zs. map f (map g xs) ++ zs) (drop_all i (map g xs) (omega arith)) ∙ append-nil (map f (map g xs))))

-- the part in use was lent, and came back as long as before
module _ {X Y : Type 0} (g : X → Y) (n : ℕ) (xs : List X) where
  pub lent : map g (take (n - 0) xs) ≡ map g (take n xs)
  lent = ap (λ k. map g (take k xs)) (let e : n - 0 ≡ n = omega arith in e)

  pub given_back : (F : List Y → List Y) (ys post : List X) → n ≤ length xs → length ys ≡ length (take (n - 0) xs) → map g ys ≡ F (map g (take (n - 0) xs)) → map g (take n (ys ++ post)) ≡ F (map g (take n xs))
  given_back F ys post l k e =
      let m : length (take (n - 0) xs) ≡ n - 0 = length-take-le (n - 0) xs (omega arith) in
      ap (map g) (take_at ys post n (omega arith)) ∙ (e ∙ ap F lent)

-- at least the part in use was lent, and each entry of it changed
pub each_given_back : {X Y : Type 0} (g : X → Y) (f : Y → Y) (n m : ℕ) (xs ys post : List X) → n ≤ m → n ≤ length xs → length ys ≡ length (take m xs) → map g ys ≡ map f (map g (take m xs)) → map g (take n (ys ++ post)) ≡ map f (map g (take n xs))
each_given_back g f n m xs ys post h l k e =
    let t = length-take m xs in
    ap (map g) (take-append-le n ys post (omega arith))
    ∙ (sym (take-map g n ys)
    ∙ (ap (take n) e
    ∙ (take-map f n (map g (take m xs)) ∙ ap (map f) (take-map g n (take m xs) ∙ ap (map g) (take-take n m xs h)))))
