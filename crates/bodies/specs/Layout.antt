-- The bytes of readings, doors and set points.
use Rattle.std.specs.Prelude.{ℕ, suc, ◌+◌, ◌-◌, ◌*◌, ◌/◌, ◌%◌, Bool, cond, not, ◌&&◌, List, [], ◌∷◌, length, ℤ, pos, negsuc, ◌==◌, nat_le, nat_lt, slice_index}

-- a probe or a compartment
abbrev pub place_ok : ℕ → Bool
place_ok p = nat_lt p 8

-- hundredths of a degree Celsius, from -5000 to 5000
abbrev pub temperature_ok : ℤ → Bool
temperature_ok (pos n) = nat_le n 5000
temperature_ok (negsuc n) = nat_le (suc n) 5000

-- the 16 bits that stand for a number in two's complement
abbrev pub bits16 : ℤ → ℕ
bits16 (pos n) = n
bits16 (negsuc n) = 65535 - n

-- and the number that 16 bits stand for
abbrev pub signed16 : ℕ → ℤ
signed16 b = cond (nat_lt b 32768) (pos b) (negsuc (65535 - b))

-- kind, place, temperature in two bytes, the higher first
abbrev pub measure_bytes : ℕ → ℕ → ℤ → List ℕ
measure_bytes kind place t = kind ∷ place ∷ bits16 t / 256 % 256 ∷ bits16 t % 256 ∷ []

-- the place and the temperature that four bytes hold
abbrev pub place_in : List ℕ → ℕ
place_in bs = slice_index bs 1

abbrev pub temperature_in : List ℕ → ℤ
temperature_in bs = signed16 (slice_index bs 2 * 256 + slice_index bs 3)

abbrev pub measure_ok : ℕ → ℤ → Bool
measure_ok place t = place_ok place && temperature_ok t

-- the bytes are of that kind, length and range
abbrev pub is_measure : ℕ → List ℕ → Bool
is_measure kind bs = length bs == 4 && (slice_index bs 0 == kind && measure_ok (place_in bs) (temperature_in bs))

-- kind, compartment, 1 for open and 0 for shut
abbrev pub door_bytes : ℕ → Bool → List ℕ
door_bytes place ajar = 2 ∷ place ∷ cond ajar 1 0 ∷ []

-- any byte but 0 says open
abbrev pub ajar_in : List ℕ → Bool
ajar_in bs = not (slice_index bs 2 == 0)

abbrev pub is_door : List ℕ → Bool
is_door bs = length bs == 3 && (slice_index bs 0 == 2 && place_ok (place_in bs))
