use Rattle.std.proofs.Common.{List, ℕ, length, sym, ap, ◌∙◌, arith}
use Rattle.head.specs.Slots.{Slot, known, named}
use Rattle.head.specs.Queue.{raise}
use Rattle.store.specs.Parts.{queue_of, slot_of, table_of}
use Rattle.store.proofs.View.{data_known, data_named, queue_item}
use Rattle.store.proofs.Walks.{climb_more, climb_stop, climb_end}
use Rattle.store.proofs.settle.climb.Goals as goal
use Rattle.store.proofs.settle.climb.Goals.{in-Ack, in-Data}

pub returns-in-Unknown : goal.returns-in-Unknown
returns-in-Unknown c = λ b s.
    let ss = c.args.slots.now in
    let i = c.loop-slot.slot-index in
    let r = queue_item b ss i c.slot-item.result (omega arith) c.slot-item.is in
    climb_stop (queue_of b ss) s (length ss) b i _ (omega arith) (ap known (r ∙ ap slot_of c.in-Unknown.is)) ∙ c.loop-slot.invariant b s

pub loop-slot-preserved : goal.loop-slot-preserved
loop-slot-preserved c = λ b s.
    let ss = c.args.slots.now in
    let i = c.loop-slot.slot-index in
    let l = table_of c.loop-slot.low s in
    let r = queue_item b ss i c.slot-item.result (omega arith) c.slot-item.is in
    elim c.match-slot.branch [
      | in-Ack w ↦
          let e = r ∙ ap slot_of w.in-Ack.is in
          climb_more (queue_of b ss) s (length ss) b i l _ (omega arith) (ap known e) (ap (λ (t : List ℕ). table_of t s) w.low-is ∙ ap (λ (x : Slot). raise s (named x) l) (sym e)) ∙ c.loop-slot.invariant b s
      | in-Data w ↦
          let e = r ∙ ap slot_of w.in-Data.is in
          climb_more (queue_of b ss) s (length ss) b i l _ (omega arith) (ap known e ∙ data_known w.in-Data.name _)
          (ap (λ (t : List ℕ). table_of t s) w.low-is ∙ (w.raise.ensures s ∙ (ap (λ o. raise s o l) (sym (data_named w.in-Data.name _)) ∙ ap (λ (x : Slot). raise s (named x) l) (sym e)))) ∙ c.loop-slot.invariant b s
    ]

pub returns : goal.returns
returns c = λ b s. climb_end (queue_of b c.args.slots.now) s (length c.args.slots.now) b c.loop-slot.slot-index _ (omega arith) ∙ c.loop-slot.invariant b s
