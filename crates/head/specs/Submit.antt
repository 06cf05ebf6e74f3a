-- submit: a new message of this head.
use Rattle.std.specs.Prelude.{ℕ, suc, ◌-◌, true, false, List, [], ◌∷◌, length, nat_le}
use Rattle.frames.specs.declared.refusal.Refusal.TheVariants.{BadLevel, BadBodyLength, TooManyUnordered, NumbersUsedUp}
use Rattle.frames.specs.Bounds.{level_ok, body_length_ok, number_ok}
use Rattle.frames.specs.Values.{Message, data_frame}
use Rattle.head.specs.Head.{Head, low, keep, with_made}
use Rattle.head.specs.Answers.{Done, done, refuse, made_it}

-- the message of number made + 1
abbrev pub new_message : Head → ℕ → List ℕ → Message
new_message h l b = record { name = record { source = h.me; number = suc h.made; level = l }; body = b }

-- it is made, kept in pending, and its Data frame is put
abbrev pub make : ℕ → ℕ → List ℕ → Head → Done
make n l b h = done n (made_it (suc h.made)) (with_made (keep h (new_message h l b)) (suc h.made)) (data_frame (new_message h l b) ∷ [])

-- refused where made is at its most
abbrev pub submit_number : ℕ → ℕ → List ℕ → Head → Done
submit_number n l b h = elim (number_ok (suc h.made)) [ true ↦ make n l b h | false ↦ refuse NumbersUsedUp h ]

-- refused where four own messages are not yet ordered
abbrev pub submit_window : ℕ → ℕ → List ℕ → Head → Done
submit_window n l b h = elim (nat_le 4 (h.made - low h h.me)) [ true ↦ refuse TooManyUnordered h | false ↦ submit_number n l b h ]

-- refused where the body has not 1 to 8 bytes
abbrev pub submit_body : ℕ → ℕ → List ℕ → Head → Done
submit_body n l b h = elim (body_length_ok (length b)) [ true ↦ submit_window n l b h | false ↦ refuse BadBodyLength h ]

-- refused first where n heads cannot meet the level
unfoldable pub submit : ℕ → ℕ → List ℕ → Head → Done
submit n l b h = elim (level_ok n l) [ true ↦ submit_body n l b h | false ↦ refuse BadLevel h ]
