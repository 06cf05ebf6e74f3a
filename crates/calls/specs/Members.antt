-- What a member of a ring means in the model.
use Rattle.std.specs.Prelude.{ℕ}
use Rattle.head.specs.Head.{Head}
use Rattle.calls.specs.declared.member.Member.{Member}
use Rattle.calls.specs.Model.{model, in_ring}

-- its head
abbrev pub model_of : Member → Head
model_of x = model x.head

-- with the size of its ring
abbrev pub in_ring_of : Member → ℕ × Head
in_ring_of x = in_ring x.head
