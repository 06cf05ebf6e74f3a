-- Writing one part after another at the front of a slice.
use Rattle.std.proofs.Common.{◌≡◌, ℕ, ◌+◌, ◌*◌, ◌<◌, ◌≤◌, List, [], ◌∷◌, ◌++◌, length, get_or, take, drop, sym, refl, ap, ◌∙◌, mul-add, arith, length-append}
use lib.Seq.{paste}
use Rattle.std.proofs.lemmas.List.{take_at, take_all, drop_at, drop-drop, take_more, flat_map_more, length-take-le}
use Rattle.std.proofs.lemmas.List.Edits.{paste-paste}
use Rattle.std.specs.List.{flat_map}
use Rattle.frames.specs.Values.{Name}
use Rattle.frames.specs.Written.{name_bytes}

pub paste_first : (a vs : List ℕ) (k : ℕ) → length vs ≡ k → paste a 0 vs k ≡ vs ++ drop (0 + k) a
paste_first a vs k f = let q = take_all k vs (omega arith) in rw q

pub paste_next : (a ws vs : List ℕ) (n k : ℕ) → length ws ≡ n → length vs ≡ k → paste (ws ++ drop n a) n vs k ≡ (ws ++ vs) ++ drop (n + k) a
paste_next a ws vs n k e f =
    let p = take_at ws (drop n a) n e in
    let q = take_all k vs (omega arith) in
    let r : drop (n + k) (ws ++ drop n a) ≡ drop (n + k) a =
    sym (drop-drop k n (ws ++ drop n a)) ∙ (ap (drop k) (drop_at ws (drop n a) n e) ∙ drop-drop k n a) in
    rw (p, q, r)

pub length_names : (ns : List Name) → length (flat_map name_bytes ns) ≡ 6 * length ns
length_names [] = refl
length_names (m ∷ ms) = omega (arith, length-append (name_bytes m) (flat_map name_bytes ms), length_names ms)

-- a front, and a second part after it: the rest is as it was
pub two_parts : (out o1 o2 hd ws : List ℕ) → o1 ≡ hd ++ drop (length hd) out → o2 ≡ paste o1 (length hd) ws (length ws) → o2 ≡ (hd ++ ws) ++ drop (length (hd ++ ws)) out
two_parts out o1 o2 hd ws e1 e2 =
    e2 ∙ rw (e1, length-append) (paste_next out hd ws (length hd) (length ws) refl refl)

-- one more name after those written from place 8 on
pub names_step : (d o o' : List ℕ) (ns : List Name) (i : ℕ) (z : Name) → i < length ns → 8 ≤ length d
    → o ≡ paste d 8 (flat_map name_bytes (take i ns)) (6 * i)
    → o' ≡ paste o (8 + 6 * i) (name_bytes (get_or ns i z)) 6
    → o' ≡ paste d 8 (flat_map name_bytes (take (i + 1) ns)) (6 * (i + 1))
names_step d o o' ns i z h k e f =
    let p = length-take-le i ns (omega arith) in
    let q = length_names (take i ns) in
    let t : 6 * i ≡ length (flat_map name_bytes (take i ns)) = omega arith in
    let j = flat_map_more name_bytes [] (take i ns) (get_or ns i z) in
    let g = paste-paste d 8 (flat_map name_bytes (take i ns)) (name_bytes (get_or ns i z)) (6 * i) 6 t refl k in
    f ∙ rw (e, take_more ns i z h, ← j, mul-add) g
