-- A hoard keeps the meaning of a link.
use Rattle.std.proofs.Common.{◌≡◌, ℕ, zero, suc, ◌<◌, Bool, true, false, cond, ◌⊎◌, List, [], ◌∷◌, ◌++◌, map, length, get_or, Some, None, Option, IfSome, sym, ap, subst, inl, inr, arith}
use mathlib.Core.List.Memᴰ
use mathlib.Core.List.{Memᴰ}
use Rattle.std.specs.List.{Contains}
use Rattle.std.proofs.lemmas.List.{map_push}
use Rattle.frames.specs.declared.table.Table.{Table}
use Rattle.frames.specs.Types.{packet_of}
use Rattle.links.specs.Meaning.{TakenFrom}
use Rattle.links.specs.Types.{taken_of}

-- a packet more at the end, or none
pub kept : (xs ys : List (Table ℕ 32)) (p : Table ℕ 32) (b : Bool) → ys ≡ cond b (xs ++ p ∷ []) xs → (q : List ℕ) → Memᴰ q (map packet_of ys) → Memᴰ q (map packet_of xs) ⊎ (q ≡ packet_of p)
kept xs ys p b e q m = by_test b (subst (λ zs. Memᴰ q (map packet_of zs)) e m)
  where
    by_test : (b : Bool) → Memᴰ q (map packet_of (cond b (xs ++ p ∷ []) xs)) → Memᴰ q (map packet_of xs) ⊎ (q ≡ packet_of p)
    by_test true n = elim (Memᴰ.append_cases (map packet_of xs) (subst (Memᴰ q) (map_push packet_of xs p) n)) [ inl l ↦ inl l | inr r ↦ inr (Memᴰ.eq_of_singleton r) ]
    by_test false n = inl n

at_place : (xs : List (Table ℕ 32)) (i : ℕ) (p : Table ℕ 32) → i < length xs → get_or xs i p ≡ p → Memᴰ (packet_of p) (map packet_of xs)
at_place [] i p h e = absurd (omega arith)
at_place (x ∷ xs) zero p h e = Memᴰ.head (ap packet_of (sym e))
at_place (x ∷ xs) (suc i) p h e = Memᴰ.tail (at_place xs i p (omega arith) e)

pub handed_out : (xs : List (Table ℕ 32)) (o : Option (Table ℕ 32)) (h : ℕ) → IfSome o (Contains xs) → TakenFrom h (taken_of o) (λ k. map packet_of xs)
handed_out xs None h c = tt
handed_out xs (Some p) h c = at_place xs c.0 p c.1 c.2
