-- A test whose value is known.
use Rattle.std.proofs.Common.{◌≡◌, Bool, true, false, ap}

pub pick : {A : Type 0} (b c : Bool) (x y : A) → b ≡ c → (elim b as (λ _. A) [ true ↦ x | false ↦ y ]) ≡ (elim c as (λ _. A) [ true ↦ x | false ↦ y ])
pick {A} b c x y e = ap (λ t. elim t as (λ _. A) [ true ↦ x | false ↦ y ]) e
