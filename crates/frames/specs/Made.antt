-- Which sizes, levels, names, bodies and packets can be made, and what is refused.
use Rattle.std.specs.Prelude.{◌≡◌, ℕ, cond, List, length, IfOk, Ok, Err, codes, Result, ◌≢◌, nat_le, nat_lt}
use Rattle.frames.specs.declared.refusal.Refusal.{Refusal}
use Rattle.frames.specs.declared.refusal.Refusal.TheVariants.{TooManyHeads, TooFewHeads, BadLevel, BadBodyLength, NotAFrame, FieldOutOfRange}
use Rattle.frames.specs.declared.types.RingSize.{RingSize}
use Rattle.frames.specs.declared.types.Level.{Level}
use Rattle.frames.specs.declared.table.Table.{Table}
use Rattle.frames.specs.declared.types.Body.{Body}
use Rattle.frames.specs.declared.types.To.{To}
use Rattle.frames.specs.Types.{meant, level_number, body_of, packet_of, asked_of, BodyRest, PacketRest}
use Rattle.frames.specs.Written.{asked_byte}
use Rattle.frames.specs.Reading.{asked_in}
use Rattle.frames.specs.Bounds.{level_ok, body_length_ok}
use Rattle.frames.specs.Values.{Name, name_ok, names_ok}

abbrev pub heads_of : RingSize → ℕ
heads_of s = s.heads

-- a ring has two to eight heads
abbrev pub size_for : ℕ → Result ℕ Refusal
size_for n = cond (nat_lt 8 n) (Err TooManyHeads) (cond (nat_lt n 2) (Err TooFewHeads) (Ok n))

-- a size from a number, by this rule
abbrev pub SizeFrom : ℕ → Result RingSize Refusal → Type 0
SizeFrom n r = meant heads_of r ≡ size_for n

-- a level from a number alone
abbrev pub LevelFrom : ℕ → Result Level Refusal → Type 0
LevelFrom l r = meant level_number r ≡ cond (nat_le l 9) (Ok l) (Err BadLevel)

abbrev pub level_for : ℕ → ℕ → Result ℕ Refusal
level_for n l = cond (level_ok n l) (Ok l) (Err BadLevel)

-- three levels have names
pub record LevelByText (text : List ℕ) (answer : Result ℕ Refusal) : Type 0 where
  pub total : text ≡ codes "total" → answer ≡ Ok 0
  pub majority : text ≡ codes "majority" → answer ≡ Ok 8
  pub safe : text ≡ codes "safe" → answer ≡ Ok 9
  pub other : (text ≢ codes "total") → (text ≢ codes "majority") → (text ≢ codes "safe") → answer ≡ Err BadLevel

-- a level from its name, by this rule
abbrev pub LevelNamed : List ℕ → Result Level Refusal → Type 0
LevelNamed text r = LevelByText text (meant level_number r)

abbrev pub name_for : ℕ → Name → Result Name Refusal
name_for n x = cond (name_ok n x) (Ok x) (Err FieldOutOfRange)

abbrev pub body_for : List ℕ → Result (List ℕ) Refusal
body_for bs = cond (body_length_ok (length bs)) (Ok bs) (Err BadBodyLength)

pub record BodyFrom (bs : List ℕ) (r : Result Body Refusal) : Type 0 where
  pub answer : meant body_of r ≡ body_for bs
  pub rest : IfOk r BodyRest

-- no frame is longer than 32 bytes
abbrev pub packet_for : List ℕ → Result (List ℕ) Refusal
packet_for bs = cond (nat_le (length bs) 32) (Ok bs) (Err NotAFrame)

pub record PacketFrom (bs : List ℕ) (r : Result (Table ℕ 32) Refusal) : Type 0 where
  pub answer : meant packet_of r ≡ packet_for bs
  pub rest : IfOk r PacketRest

abbrev pub names_for : ℕ → List Name → Result (List Name) Refusal
names_for n xs = cond (names_ok n xs) (Ok xs) (Err FieldOutOfRange)

-- whom a byte asks, and the byte that asks
abbrev pub AskedFrom : ℕ → To → Type 0
AskedFrom b to = asked_of to ≡ asked_in b

abbrev pub AskedAs : To → ℕ → Type 0
AskedAs to b = b ≡ asked_byte (asked_of to)
