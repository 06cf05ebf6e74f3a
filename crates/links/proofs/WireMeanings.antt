-- Wire keeps the meaning of a link.
use Rattle.std.proofs.Common.{◌≡◌, ℕ, zero, suc, Bool, true, false, cond, ltb, ◌⊎◌, List, [], ◌∷◌, ◌++◌, length, drop, Option, sym, refl, subst, inl, inr}
use mathlib.Core.List.Memᴰ
use mathlib.Core.List.{Memᴰ}
use Rattle.links.specs.Meaning.{Waits, AfterPut, TakenFrom, Cleared}
use Rattle.links.specs.Wire.{Queues, put_wire, oldest, waiting_wire, taken_wire, take_wire, clear_wire}

in_joined : (b : Bool) (p q : List ℕ) (x : List (List ℕ)) → Memᴰ q (cond b (x ++ p ∷ []) x) → Memᴰ q x ⊎ (q ≡ p)
in_joined true p q x m = elim (Memᴰ.append_cases x m) [ inl l ↦ inl l | inr r ↦ inr (Memᴰ.eq_of_singleton r) ]
in_joined false p q x m = inl m

in_put : (p : List ℕ) (w : Queues) → AfterPut p (waiting_wire w) (waiting_wire (put_wire p w))
in_put p [] h q m = inl m
in_put p (x ∷ w) zero q m = in_joined (ltb (length x) 32) p q x m
in_put p (x ∷ w) (suc h) q m = in_put p w h q m

pub put_keeps_meaning : (p : List ℕ) (w v : Queues) → v ≡ put_wire p w → AfterPut p (waiting_wire w) (waiting_wire v)
put_keeps_meaning p w v e = subst (λ u. AfterPut p (waiting_wire w) (waiting_wire u)) (sym e) (in_put p w)

oldest_waited : (w : Waits) (h : ℕ) (q : List (List ℕ)) → q ≡ w h → TakenFrom h (oldest q) w
oldest_waited w h [] e = tt
oldest_waited w h (p ∷ q) e = subst (Memᴰ p) e (Memᴰ.head refl)

in_rest : (q : List ℕ) (x : List (List ℕ)) → Memᴰ q (drop 1 x) → Memᴰ q x
in_rest q [] m = m
in_rest q (y ∷ x) m = Memᴰ.tail m

left_after_take : (h : ℕ) (w : Queues) (k : ℕ) (q : List ℕ) → Memᴰ q (waiting_wire (take_wire h w) k) → Memᴰ q (waiting_wire w k)
left_after_take h [] k q m = m
left_after_take zero (x ∷ w) zero q m = in_rest q x m
left_after_take zero (x ∷ w) (suc k) q m = m
left_after_take (suc h) (x ∷ w) zero q m = m
left_after_take (suc h) (x ∷ w) (suc k) q m = left_after_take h w k q m

pub taken_waited : (h : ℕ) (t : Option (List ℕ)) (w : Queues) → t ≡ taken_wire h w → TakenFrom h t (waiting_wire w)
taken_waited h t w a = subst (λ o. TakenFrom h o (waiting_wire w)) (sym a) (oldest_waited (waiting_wire w) h (waiting_wire w h) refl)

pub left_waited : (h : ℕ) (w v : Queues) → v ≡ take_wire h w → (k : ℕ) (q : List ℕ) → Memᴰ q (waiting_wire v k) → Memᴰ q (waiting_wire w k)
left_waited h w v e k q m = left_after_take h w k q (subst (λ u. Memᴰ q (waiting_wire u k)) e m)

none_waits : (n h : ℕ) (q : List ℕ) → Memᴰ q (waiting_wire (clear_wire n) h) → ⊥
none_waits zero h q m = Memᴰ.not-nil m
none_waits (suc n) zero q m = Memᴰ.not-nil m
none_waits (suc n) (suc h) q m = none_waits n h q m

pub clear_keeps_meaning : (n : ℕ) (v : Queues) → v ≡ clear_wire n → Cleared (waiting_wire v)
clear_keeps_meaning n v e h q m = none_waits n h q (subst (λ u. Memᴰ q (waiting_wire u h)) e m)
