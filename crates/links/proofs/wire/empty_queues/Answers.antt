use Rattle.std.proofs.Common.{map, ap, ◌∙◌}
use Rattle.std.proofs.lemmas.List.{take-replicate}
use Rattle.frames.specs.Types.{packet_of}
use Rattle.links.specs.Types.{queue_of}
use Rattle.links.proofs.Queues.{each_empty}
use Rattle.links.proofs.wire.empty_queues.Goals as goal

pub returns : goal.returns
returns c =
    let q = c.empty-queue.result in
    ap (map queue_of) (take-replicate c.args.heads 8 q c.requires) ∙ each_empty queue_of c.args.heads q (ap (map packet_of) c.empty-queue.ensures.items)
