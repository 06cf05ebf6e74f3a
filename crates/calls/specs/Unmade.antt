-- No message of a head is pending that it has not made.
use Rattle.head.specs.Head.{Head}
use Rattle.store.specs.Parts.{Most}

-- none of its own above made
abbrev pub NoneUnmade : Head → Type 0
NoneUnmade h = Most h.me h.made h.pending
