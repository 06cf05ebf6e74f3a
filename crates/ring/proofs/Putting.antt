-- Frames put one after another.
use Rattle.std.proofs.Common.{ℕ, zero, suc, ◌+◌, ◌<◌, List, [], ◌∷◌, ◌++◌, map, length, get_or, take, sym, refl, ap, ◌∙◌, subst, arith}
use mathlib.Core.List.{Memᴰ}
use Rattle.std.proofs.lemmas.List.{take_more, map_push, get_or-map, length-map}
use Rattle.links.specs.Meaning.{Waits, AfterPut}
use Rattle.ring.specs.Ring.{AfterPuts}

-- one packet more
puts_more : (ps : List (List ℕ)) (p : List ℕ) (w u v : Waits) → AfterPuts ps w u → AfterPut p u v → AfterPuts (ps ++ p ∷ []) w v
puts_more [] p w u v e a = (v, subst (λ (x : Waits). AfterPut p x v) (sym e) a, refl)
puts_more (q ∷ ps) p w u v k a = (k.0, k.1, puts_more ps p k.0 u v k.2 a)

module _ {X Y : Type 0} (f : X → Y) (g : Y → List ℕ) (xs : List X) (i : ℕ) (d : X) (h : i < length xs) where
  -- the packet of the next item
  pub put_more : (w u v : Waits) → AfterPuts (map g (map f (take i xs))) w u → AfterPut (g (f (get_or xs i d))) u v → AfterPuts (map g (map f (take (i + 1) xs))) w v
  put_more w u v a b = subst (λ (ps : List (List ℕ)). AfterPuts ps w v) (sym (ap (λ (ys : List X). map g (map f ys)) (take_more xs i d h) ∙ (ap (map g) (map_push f (take i xs) (get_or xs i d)) ∙ map_push g (map f (take i xs)) (f (get_or xs i d))))) (puts_more (map g (map f (take i xs))) (g (f (get_or xs i d))) w u v a b)

mem_at : {X : Type 0} (xs : List X) (i : ℕ) (d : X) → i < length xs → Memᴰ (get_or xs i d) xs
mem_at [] i d h = absurd (omega arith)
mem_at (x ∷ xs) zero d h = Memᴰ.head refl
mem_at (x ∷ xs) (suc i) d h = Memᴰ.tail (mem_at xs i d (omega arith))

-- what an item means is among what all mean
pub mem_mapped : {X Y : Type 0} (f : X → Y) (xs : List X) (i : ℕ) (d : X) → i < length xs → Memᴰ (f (get_or xs i d)) (map f xs)
mem_mapped f xs i d h =
    let m = length-map xs f in
    subst (λ y. Memᴰ y (map f xs)) (get_or-map f xs i d (f d) h) (mem_at (map f xs) i (f d) (omega arith))
