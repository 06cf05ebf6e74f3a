-- Which numbers are pending, as messages come and go.
use Rattle.std.proofs.Common.{◌≡◌, ℕ, ◌≤◌, Bool, true, false, cond, ◌&&◌, eqb, ltb, None, sym, refl, ap, ◌∙◌, arith}
use Rattle.std.proofs.lemmas.Bool.{eq-eqb, ltb-false}
use Rattle.frames.specs.Values.{Name}
use Rattle.head.specs.Head.{Head, Pending}
use Rattle.head.specs.Hear.{found, own_above}
use Rattle.store.specs.Parts.{Most}

-- messages leave
pub most_less : (g b : ℕ) (p r : Pending) (gone : ℕ → ℕ → Bool) → Most g b p → r ≡ (λ s k. cond (gone s k) None (p s k)) → Most g b r
most_less g b p r gone few e k past = ap (λ (q : Pending). found (q g k)) e ∙ go (gone g k)
  where
    go : (t : Bool) → found (cond t None (p g k)) ≡ false
    go true = refl
    go false = few k past

-- the bound grows
pub most_more : (g b c : ℕ) (p : Pending) → b ≤ c → Most g b p → Most g c p
most_more g b c p l few k past = few k (omega arith)

-- an own message that was made
pub own_near : (h : Head) (x : Name) → own_above h x ≡ false → h.me ≡ x.source → x.number ≤ h.made
own_near h x e f =
    let g : eqb x.source h.me ≡ true = eq-eqb x.source h.me (sym f) in
    ltb-false h.made x.number (sym (ap (λ b. b && ltb h.made x.number) g) ∙ e)
