-- The queues of wire as lists: a packet joins, the oldest leaves.
use Rattle.std.proofs.Common.{◌≡◌, ℕ, zero, suc, ◌<◌, Bool, true, false, cond, ltb, List, [], ◌∷◌, ◌++◌, map, length, get_or, drop, set, replicate, sym, refl, ap, ◌∙◌}
use Rattle.std.proofs.lemmas.List.{drop-map, map-set, map_push, get_or-map, length-map}
use Rattle.frames.specs.declared.table.Table.{Table}
use Rattle.frames.specs.Tables.{items}
use Rattle.frames.proofs.Naming.{length-items}
use Rattle.links.specs.Wire.{joined, take_wire, clear_wire}

module _ {X : Type 0} (f : X → List ℕ) (q r : Table X 32) where
  pub joins : (x : X) (b : Bool) → b ≡ ltb q.count 32 → items r ≡ cond b (items q ++ x ∷ []) (items q) → map f (items r) ≡ joined (f x) (map f (items q))
  joins x b t e = ap (map f) e ∙ (by_test b ∙ ap (λ c. cond c (map f (items q) ++ f x ∷ []) (map f (items q))) (t ∙ ap (λ k. ltb k 32) (sym (length-map (items q) f ∙ length-items q))))
    where
      by_test : (b : Bool) → map f (cond b (items q ++ x ∷ []) (items q)) ≡ cond b (map f (items q) ++ f x ∷ []) (map f (items q))
      by_test true = map_push f (items q) x
      by_test false = refl

  pub leaves : items r ≡ drop 1 (items q) → map f (items r) ≡ drop 1 (map f (items q))
  leaves e = ap (map f) e ∙ sym (drop-map f 1 (items q))

pub each_empty : {X : Type 0} (g : X → List (List ℕ)) (n : ℕ) (x : X) → g x ≡ [] → map g (replicate n x) ≡ clear_wire n
each_empty g zero x e = refl
each_empty g (suc n) x e = ap (λ q. q ∷ map g (replicate n x)) e ∙ ap (λ w. [] ∷ w) (each_empty g n x e)

pub leaves_known : {X : Type 0} (g : X → List (List ℕ)) (xs : List X) (h : ℕ) (d z : X) → h < length xs → g z ≡ drop 1 (g (get_or xs h d)) → map g (set xs h z) ≡ take_wire h (map g xs)
leaves_known g xs h d z l e = map-set g xs h z ∙ ap (set (map g xs) h) (e ∙ ap (drop 1) (sym (get_or-map g xs h d [] l)))
