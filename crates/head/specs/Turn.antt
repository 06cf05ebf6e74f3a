-- turn: the holder of the token orders what is pending.
use Rattle.std.specs.Prelude.{ℕ, zero, suc, ◌-◌, true, false, List, [], ◌∷◌, ◌++◌, length, Some, None}
use Rattle.frames.specs.declared.refusal.Refusal.TheVariants.{StampsUsedUp}
use Rattle.frames.specs.Bounds.{after}
use Rattle.frames.specs.Values.{Name, Ack, Frame, ack_frame}
use Rattle.head.specs.Head.{Head, Pending, low, end, holds, room, stamps_left, place}
use Rattle.head.specs.Upkeep.{settled}
use Rattle.head.specs.Answers.{Answer, Done, done, refuse, nothing, crowded, not_yours, ordered}

-- the pending run of the source s from the number k on, at most b of them
unfoldable pub run_of : Pending → ℕ → ℕ → ℕ → List Name
run_of p s zero k = []
run_of p s (suc b) k = elim (p s k) [ None ↦ [] | Some m ↦ record { source = s; number = k; level = m.level } ∷ run_of p s b (suc k) ]

-- the runs of j sources from low + 1, from the source s on modulo n, each before the next, at most b names in all
unfoldable pub gather : ℕ → Head → ℕ → ℕ → ℕ → List Name
gather n h zero s b = []
gather n h (suc j) s b = let r : List Name = run_of h.pending s b (suc (low h s)) in r ++ gather n h j (after n s) (b - length r)

-- up to four names, beginning with this head's own
unfoldable pub to_order : ℕ → Head → List Name
to_order n h = gather n h n h.me 4

-- a new ACK takes the stamp end
abbrev pub new_ack : Head → List Name → Ack
new_ack h xs = record { stamp = end h; issuer = h.me; names = xs }

-- it is placed, and comes first among the frames put
abbrev pub issue : ℕ → Head → List Name → Answer → List Frame → Done
issue n h xs w fs = record { answer = w; head = settled n (place h (new_ack h xs)); puts = ack_frame (new_ack h xs) ∷ fs; issued = Some (new_ack h xs) }

-- no stamps left for four names: refused; otherwise ordered, with stamp and count
abbrev pub turn_stamps : ℕ → Head → List Name → Done
turn_stamps n h xs = elim (stamps_left h) [ true ↦ issue n h xs (ordered (end h) (length xs)) [] | false ↦ refuse StampsUsedUp h ]

-- nothing if no source has number low + 1 pending; crowded where there is no room for four names
abbrev pub turn_with : ℕ → Head → List Name → Done
turn_with n h [] = done n nothing h []
turn_with n h (x ∷ xs) = elim (room h) [ true ↦ turn_stamps n h (x ∷ xs) | false ↦ done n crowded h [] ]

-- only the holder of the token has a turn
unfoldable pub turn : ℕ → Head → Done
turn n h = elim (holds n h) [ true ↦ turn_with n h (to_order n h) | false ↦ done n not_yours h [] ]
