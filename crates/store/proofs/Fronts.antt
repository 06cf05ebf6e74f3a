-- A list that is filled from its front: what is written, and what is left.
use Rattle.std.proofs.Common.{◌≡◌, ℕ, ◌+◌, ◌-◌, ◌<◌, ◌≤◌, List, [], ◌∷◌, ◌++◌, length, take, drop, replicate, set, sym, ap, ◌∙◌, arith}
use Rattle.std.proofs.lemmas.List.{append_assoc, append-nil, take-append-drop, take_more_set, drop-drop, drop-replicate, drop-set-lt, length-drop, take_all}

module _ {X : Type 0} where
  -- the next place takes the first of what is to come
  pub front_more : (xs : List X) (k : ℕ) (m : X) (rest all : List X) → k < length xs → take k xs ++ (m ∷ rest) ≡ all → take (k + 1) (set xs k m) ++ rest ≡ all
  front_more xs k m rest all h e = ap (λ (ys : List X). ys ++ rest) (take_more_set xs k m h) ∙ (append_assoc (take k xs) (m ∷ []) rest ∙ e)

  -- and what comes after it stays
  pub rest_more : (xs es : List X) (k : ℕ) (m : X) → drop k xs ≡ drop k es → drop (k + 1) (set xs k m) ≡ drop (k + 1) es
  rest_more xs es k m e = drop-set-lt (k + 1) xs k m (omega arith) ∙ (sym (drop-drop 1 k xs) ∙ (ap (drop 1) e ∙ drop-drop 1 k es))

  -- nothing is to come
  pub front_all : (xs es all : List X) (k : ℕ) → take k xs ++ [] ≡ all → drop k xs ≡ drop k es → xs ≡ all ++ drop k es
  front_all xs es all k e d = sym (take-append-drop k xs) ∙ (ap (λ (ys : List X). ys ++ drop k xs) (sym (append-nil (take k xs)) ∙ e) ∙ ap (λ (ys : List X). all ++ ys) d)

  -- the items from a place on, over as many blanks
  pub front_moved : (xs : List X) (k n : ℕ) (z : X) → length xs ≡ n → k ≤ n → take (length xs - k) (drop k xs) ++ drop (length (take (length xs - k) (drop k xs))) (replicate n z) ≡ drop k xs ++ replicate k z
  front_moved xs k n z e h =
      let d : length (drop k xs) ≡ length xs - k = length-drop k xs in
      let t : take (length xs - k) (drop k xs) ≡ drop k xs = take_all (length xs - k) (drop k xs) (omega arith) in
      let l : n - length (take (length xs - k) (drop k xs)) ≡ k = omega (arith, ap length t) in
      let r : drop (length (take (length xs - k) (drop k xs))) (replicate n z) ≡ replicate (n - length (take (length xs - k) (drop k xs))) z = drop-replicate (length (take (length xs - k) (drop k xs))) n z in
      ap (λ (ys : List X). ys ++ drop (length (take (length xs - k) (drop k xs))) (replicate n z)) t ∙ ap (λ (ys : List X). drop k xs ++ ys) (r ∙ ap (λ m. replicate m z) l)
