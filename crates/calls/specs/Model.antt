-- What a head means in the model.
use Rattle.std.specs.Prelude.{ℕ, cond, Ok, Err, Result, nat_lt}
use Rattle.frames.specs.declared.refusal.Refusal.{Refusal}
use Rattle.frames.specs.declared.refusal.Refusal.TheVariants.{TooManyHeads, TooFewHeads, NoSuchHead}
use Rattle.head.specs.Head.{Head, fresh}
use Rattle.store.specs.Parts.{queue_of, table_of, inbox_of}
use Rattle.calls.specs.declared.machine.Head.{Head as CHead}

-- the fixed tables of the code as the functions of the model
abbrev pub model : CHead → Head
model h = record { me = h.me; made = h.made; base = h.queue.base; queue = queue_of h.queue.base h.queue.slots; gone = table_of h.queue.gone; pending = inbox_of h.inbox; due = h.due; ticks = h.ticks; tries = h.tries }

-- a head, with the size of its ring
abbrev pub in_ring : CHead → ℕ × Head
in_ring h = (h.size.heads, model h)

-- the head g of n, at the start: refused where n is above eight, below two, or not above g
abbrev pub head_for : ℕ → ℕ → Result (ℕ × Head) Refusal
head_for n g = cond (nat_lt 8 n) (Err TooManyHeads) (cond (nat_lt n 2) (Err TooFewHeads) (cond (nat_lt g n) (Ok (n, fresh g)) (Err NoSuchHead)))
