-- What each kind of body writes, and what bytes it reads as a value.
use Rattle.std.specs.Prelude.{ℕ, Bool, cond, List, Ok, Err, Result}
use Rattle.frames.specs.declared.refusal.Refusal.{Refusal}
use Rattle.frames.specs.declared.refusal.Refusal.TheVariants.{NotThisKind}
use Rattle.bodies.specs.declared.values.Temperature.{Temperature}
use Rattle.bodies.specs.declared.values.Door.{Door}
use Rattle.bodies.specs.Layout.{place_ok, is_measure, place_in, temperature_in, door_bytes, is_door, ajar_in}

abbrev pub door_ok : Door → Bool
door_ok d = place_ok d.compartment

abbrev pub written_door : Door → List ℕ
written_door d = door_bytes d.compartment d.«open»

abbrev pub door_in : List ℕ → Result Door Refusal
door_in bs = cond (is_door bs) (Ok (record { compartment = place_in bs; «open» = ajar_in bs })) (Err NotThisKind)

-- what the place and the temperature of a body of this kind make
abbrev pub measure_in : {M : Type 0} → (ℕ → Temperature → M) → ℕ → List ℕ → Result M Refusal
measure_in make kind bs = cond (is_measure kind bs) (Ok (make (place_in bs) (record { hundredths = temperature_in bs }))) (Err NotThisKind)
