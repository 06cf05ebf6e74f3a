-- What a hoard means.
use Rattle.std.specs.Prelude.{ℕ, List, map}
use Rattle.frames.specs.Tables.{items}
use Rattle.frames.specs.Types.{packet_of}
use Rattle.links.specs.Meaning.{Waits}
use Rattle.links_cases.specs.declared.types.Hoard.{Hoard}

-- the packets that it keeps
abbrev pub hoard_of : Hoard → List (List ℕ)
hoard_of s = map packet_of (items s.packets)

-- each of them waits for every head
abbrev pub waiting_hoard : Hoard → Waits
waiting_hoard s h = hoard_of s
