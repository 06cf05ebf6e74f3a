use Rattle.std.proofs.Common.{map, ◌∙◌, rules}
use Rattle.frames.specs.Types.{name_of}
use Rattle.head.specs.Slots.{same_names}
use Rattle.store.proofs.Naming.{is_same_names}
use Rattle.store.proofs.same.is_list.Goals as goal

pub returns : goal.returns
returns c = is_same_names c.eq.result c.as_slice.result.now c.as_slice-2.result.now c.eq.ensures (λ a b. search rules) ∙ (λ j. same_names (map name_of (c.as_slice.ensures j)) (map name_of (c.as_slice-2.ensures j)))
