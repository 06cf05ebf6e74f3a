-- A test taken apart, by what follows on each side.
use Rattle.std.proofs.Common.{◌≡◌, Bool, true, false, refl}

pub by_bool : {A : Type 0} (P : A → Type 0) (b : Bool) (x y : A) → (b ≡ true → P x) → (b ≡ false → P y) → P (elim b [ true ↦ x | false ↦ y ])
by_bool P true x y f g = f refl
by_bool P false x y f g = g refl
