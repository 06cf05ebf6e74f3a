-- tick: what a head does when nothing was heard for a while.
use Rattle.std.specs.Prelude.{ℕ, zero, suc, ◌+◌, ◌%◌, ◌^◌, min, Bool, true, false, cond, not, ◌&&◌, ◌||◌, List, [], ◌∷◌, ◌++◌, length, Some, None, Option, ◌==◌, nat_le, nat_lt}
use Rattle.frames.specs.Bounds.{after}
use Rattle.frames.specs.Values.{Name, Ack, Asked, one, everyone, Frame, data_frame, ack_frame, nack_frame}
use Rattle.head.specs.Slots.{unknown, ack, bare, whole}
use Rattle.head.specs.Queue.{Queue}
use Rattle.head.specs.Head.{Head, mark, end, low, top, holds, room, stamps_left, with_clock, place}
use Rattle.head.specs.Answers.{Done, done, idle, fired}
use Rattle.head.specs.Turn.{to_order, new_ack, issue}

-- how many ticks a head waits after r tries
abbrev pub wait : ℕ → ℕ
wait r = min (2 ^ r) 32

-- the issuer of the ACK, or d where there is none
abbrev pub issuer_or : ℕ → Option Ack → ℕ
issuer_or d None = d
issuer_or d (Some a) = a.issuer

-- the head after g if g is this head
abbrev pub another : ℕ → ℕ → ℕ → ℕ
another n me g = cond (g == me) (after n g) g

-- whom a NACK asks: the top ACK's issuer plus tries modulo n, or the head after that if it is this head; everyone once tries is n or more
abbrev pub asked : ℕ → Head → Asked
asked n h = cond (nat_le n h.tries) everyone (one (another n h.me ((issuer_or 0 (top h) + h.tries) % n)))

-- one of the last c ACKs among the k stamps from t on has a name
unfoldable pub busy : Queue → ℕ → ℕ → ℕ → Bool
busy q zero t c = false
busy q (suc k) t zero = false
busy q (suc k) t (suc c) = elim (q (t + k)) [ unknown ↦ busy q k t (suc c) | ack i ns ↦ not (length ns == 0) || busy q k t c | bare x ↦ busy q k t (suc c) | whole m ↦ busy q k t (suc c) ]

-- the top ACK, if it is this head's own
abbrev pub own_again : Head → Option Ack → List Frame
own_again h None = []
own_again h (Some a) = cond (a.issuer == h.me) (ack_frame a ∷ []) []

-- the own pending message with the lowest number, of the b from k on
unfoldable pub lowest_own : Head → ℕ → ℕ → List Frame
lowest_own h zero k = []
lowest_own h (suc b) k = elim (h.pending h.me k) [ None ↦ lowest_own h b (suc k) | Some m ↦ data_frame (record { name = record { source = h.me; number = k; level = m.level }; body = m.body }) ∷ [] ]

-- the lowest own pending message, of the four above low
abbrev pub own_message : Head → List Frame
own_message h = lowest_own h 4 (suc (low h h.me))

-- with no new ACK: what goes before, the own top ACK, the own message; ticks is 0, and tries grows to at most 15
abbrev pub fire : ℕ → Head → List Frame → Done
fire n h fs = let gs : List Frame = fs ++ (own_again h (top h) ++ own_message h) in done n (fired (length gs)) (with_clock h 0 (min 15 (suc h.tries))) gs

-- with a new ACK: it and the own message that is then still pending; ticks and tries are 0
abbrev pub fire_ack : ℕ → Head → List Name → Done
fire_ack n h xs = let fs : List Frame = own_message (place h (new_ack h xs)) in issue n h xs (fired (suc (length fs))) fs

-- the ACK of turn; with nothing to order an ACK of no names, but only if one of the last n known ACKs has a name
abbrev pub tick_with : ℕ → Head → List Name → Done
tick_with n h [] = elim (busy h.queue 96 h.base n) [ true ↦ fire_ack n h [] | false ↦ fire n h [] ]
tick_with n h (x ∷ xs) = fire_ack n h (x ∷ xs)

-- an ACK only where the head holds the token, has room and has stamps left
abbrev pub tick_token : ℕ → Head → Done
tick_token n h = elim (holds n h && (room h && stamps_left h)) [ true ↦ tick_with n h (to_order n h) | false ↦ fire n h [] ]

-- a NACK for mark where something below end is missing
abbrev pub tick_due : ℕ → Head → Done
tick_due n h = elim (nat_lt (mark h) (end h)) [ true ↦ fire n h (nack_frame h.me (asked n h) (mark h) ∷ []) | false ↦ tick_token n h ]

-- ticks grows by 1: idle below the wait
unfoldable pub tick : ℕ → Head → Done
tick n h = elim (nat_lt (suc h.ticks) (wait h.tries)) [ true ↦ done n idle (with_clock h (suc h.ticks) h.tries) [] | false ↦ tick_due n h ]
