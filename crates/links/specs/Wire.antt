-- The rules of wire.
use Rattle.std.specs.Prelude.{ℕ, cond, List, [], ◌∷◌, ◌++◌, map, length, drop, replicate, Some, None, Option, nat_lt, slice_index_or, slice_set}
use Rattle.links.specs.Meaning.{Waits}

-- what a wire holds: for each head a queue of packets, the oldest first
abbrev pub Queues : Type 0
Queues = List (List (List ℕ))

-- a packet joins a queue of 32 at its end, and is lost to a full one
abbrev pub joined : List ℕ → List (List ℕ) → List (List ℕ)
joined p q = cond (nat_lt (length q) 32) (q ++ p ∷ []) q

-- a put joins the queue of each head
abbrev pub put_wire : List ℕ → Queues → Queues
put_wire p w = map (joined p) w

-- the oldest packet of a queue
abbrev pub oldest : List (List ℕ) → Option (List ℕ)
oldest [] = None
oldest (p ∷ q) = Some p

-- the packets that wait for a head: none, if the wire does not know it
abbrev pub waiting_wire : Queues → Waits
waiting_wire w h = slice_index_or w h []

-- a take answers the oldest packet of the head's queue
abbrev pub taken_wire : ℕ → Queues → Option (List ℕ)
taken_wire h w = oldest (waiting_wire w h)

-- and removes it
abbrev pub take_wire : ℕ → Queues → Queues
take_wire h w = slice_set w h (drop 1 (waiting_wire w h))

-- a clear leaves an empty queue for each of n heads
abbrev pub clear_wire : ℕ → Queues
clear_wire n = replicate n []
