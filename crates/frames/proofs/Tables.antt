-- A table filled up, and with an item less.
use Rattle.std.proofs.Common.{◌≡◌, ℕ, suc, ◌+◌, ◌-◌, ◌<◌, ◌≤◌, List, ◌++◌, length, take, drop, sym, ap, ◌∙◌, append_assoc, arith, length-append, length-drop, length-take, replicate}
use Rattle.std.specs.List.{between, remove}
use Rattle.std.proofs.lemmas.List.{take_at, take-take, drop_at, drop-drop, drop-replicate}
use Rattle.std.proofs.lemmas.Slice.{between_is}
use Rattle.std.proofs.lemmas.List.Edits.{length-between}

-- past what was written over the front of a filled table, the filler stands
pub filler_past : {X : Type 0} (z : X) (m k : ℕ) (ws : List X) → length ws ≡ k → drop k (ws ++ drop k (replicate m z)) ≡ replicate (m - k) z
filler_past z m k ws l = drop_at ws (drop k (replicate m z)) k l ∙ drop-replicate k m z

-- the items from i to n, the one at i behind the others
abbrev pub Turned : {X : Type 0} → ℕ → ℕ → List X → List X → Type 0
Turned i n xs ys = ys ≡ drop 1 (between i n xs) ++ take 1 (between i n xs)

pub front_less : {X : Type 0} (i n : ℕ) (xs ys post : List X) → i < n → n ≤ length xs → Turned i n xs ys → take (n - 1) (take i xs ++ (ys ++ post)) ≡ remove (take n xs) i
front_less i n xs ys post h l e =
    let b : length (between i n xs) ≡ n - i = length-between xs i n l in
    let m = between i n xs in
    let a : length (take i xs ++ drop 1 m) ≡ n - 1 = length-append (take i xs) (drop 1 m) ∙ simp (length-drop, length-take) (omega arith) in
    ap (λ zs. take (n - 1) (take i xs ++ (zs ++ post))) e
    ∙ (ap (take (n - 1)) (ap (λ zs. take i xs ++ zs) (append_assoc (drop 1 m) (take 1 m) post) ∙ sym (append_assoc (take i xs) (drop 1 m) (take 1 m ++ post)))
    ∙ (take_at (take i xs ++ drop 1 m) (take 1 m ++ post) (n - 1) a
    ∙ (ap (λ zs. zs ++ drop 1 m) (sym (take-take i n xs (omega arith)))
    ∙ ap (λ zs. take i (take n xs) ++ zs) (ap (drop 1) (between_is xs i n) ∙ (drop-drop 1 i (take n xs) ∙ ap (λ k. drop k (take n xs)) (let s : i + 1 ≡ suc i = omega arith in s))))))
