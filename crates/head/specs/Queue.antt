-- A queue: what stands at each stamp. Walks over its 96 places, from base on.
use Rattle.std.specs.Prelude.{ℕ, zero, suc, ◌+◌, max, Bool, true, false, cond, not, ◌&&◌, List, [], ◌∷◌, Some, None, Option, ◌==◌}
use Rattle.frames.specs.Values.{Name, Ack}
use Rattle.head.specs.Slots.{Slot, unknown, ack, bare, whole, known, is_ack, named, same_message}

-- what stands at each stamp
abbrev pub Queue : Type 0
Queue = ℕ → Slot

-- the first stamp from t on, of k, at which the test fails
unfoldable pub first_not : (Slot → Bool) → Queue → ℕ → ℕ → ℕ
first_not p q zero t = t
first_not p q (suc k) t = elim (p (q t)) [ true ↦ first_not p q k (suc t) | false ↦ t ]

-- one past the last stamp, of the k from t on, at which the test holds; t if none
unfoldable pub past_last : (Slot → Bool) → Queue → ℕ → ℕ → ℕ
past_last p q zero t = t
past_last p q (suc k) t = elim (p (q (t + k))) [ true ↦ suc (t + k) | false ↦ past_last p q k t ]

-- the ACK at a slot of stamp t, if it is one
abbrev pub ack_at : Slot → ℕ → Option Ack
ack_at unknown t = None
ack_at (ack i ns) t = Some (record { stamp = t; issuer = i; names = ns })
ack_at (bare x) t = None
ack_at (whole m) t = None

-- the first if it is there, otherwise the second
abbrev pub or_else : Option Ack → Option Ack → Option Ack
or_else None y = y
or_else (Some a) y = Some a

-- the last ACK among the k stamps from t on
unfoldable pub last_ack : Queue → ℕ → ℕ → Option Ack
last_ack q zero t = None
last_ack q (suc k) t = or_else (ack_at (q (t + k)) (t + k)) (last_ack q k t)

-- 1 if the test holds, otherwise 0
abbrev pub one_if : Bool → ℕ
one_if true = 1
one_if false = 0

-- how many ACKs stand at the k stamps from t on
unfoldable pub acks : Queue → ℕ → ℕ → ℕ
acks q zero t = 0
acks q (suc k) t = one_if (is_ack (q t)) + acks q k (suc t)

-- the issuer at a slot, if it is an ACK, before the others
abbrev pub issuer_on : Slot → List ℕ → List ℕ
issuer_on unknown is = is
issuer_on (ack i ns) is = i ∷ is
issuer_on (bare x) is = is
issuer_on (whole m) is = is

-- the issuers of the ACKs at the k stamps from t on
unfoldable pub issuers : Queue → ℕ → ℕ → List ℕ
issuers q zero t = []
issuers q (suc k) t = issuer_on (q t) (issuers q k (suc t))

-- the number of the name, if it is of the source s and above b; otherwise b
abbrev pub raise : ℕ → Option Name → ℕ → ℕ
raise s None b = b
raise s (Some x) b = cond (x.source == s) (max b x.number) b

-- the highest number of the source s, at least b, named at the k stamps from t on before the first unknown one
unfoldable pub highest : Queue → ℕ → ℕ → ℕ → ℕ → ℕ
highest q s zero t b = b
highest q s (suc k) t b = elim (known (q t)) [ true ↦ highest q s k (suc t) (raise s (named (q t)) b) | false ↦ b ]

-- the slot is named, by the source and number of x
abbrev pub names_it : Name → Option Name → Bool
names_it x None = false
names_it x (Some y) = same_message x y

-- the first stamp, of the k from t on, that names this source and number
unfoldable pub place_of : Queue → Name → ℕ → ℕ → Option ℕ
place_of q x zero t = None
place_of q x (suc k) t = elim (names_it x (named (q t))) [ true ↦ Some t | false ↦ place_of q x k (suc t) ]

-- all of the k stamps from t on are unknown
unfoldable pub all_unknown : Queue → ℕ → ℕ → Bool
all_unknown q zero t = true
all_unknown q (suc k) t = not (known (q t)) && all_unknown q k (suc t)
