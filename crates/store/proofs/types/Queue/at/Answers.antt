use Rattle.std.proofs.Common.{◌≡◌, ◌+◌, ◌-◌, sym, ap, ◌∙◌, arith}
use Rattle.head.specs.Queue.{Queue}
use Rattle.store.specs.Parts.{queue_of}
use Rattle.store.proofs.View.{queue_read, queue_below, queue_past}
use Rattle.store.proofs.types.Queue.at.Goals as goal
use Rattle.store.proofs.types.Queue.at.Goals.{then-stamp-base-via-then-stamp-base, then-stamp-base-via-else-stamp-base+then-stamp-base-gt95}

pub returns-then-stamp-base : goal.returns-then-stamp-base
returns-then-stamp-base c =
    let s = c.args.self.now in
    let l = s.places in
    sym (elim c.then-stamp-base.branch [
      | then-stamp-base-via-then-stamp-base w ↦ queue_below s.base s.slots c.args.stamp w.if-stamp-base.true
      | then-stamp-base-via-else-stamp-base+then-stamp-base-gt95 w ↦ queue_past s.base s.slots c.args.stamp (omega (arith, w.if-stamp-base-gt95.true))
    ])

pub returns : goal.returns
returns c =
    let s = c.args.self.now in
    let l = s.places in
    let q : Queue = queue_of s.base s.slots in
    let i = c.args.stamp - s.base in
    let e : c.args.stamp ≡ s.base + i = omega arith in
    sym (ap q e ∙ queue_read s.base s.slots i _ (omega arith))
