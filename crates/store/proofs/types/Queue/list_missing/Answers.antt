use Rattle.std.proofs.Common.{ℕ, ◌+◌, ◌-◌, List, ◌++◌, take, drop, sym, ap, ◌∙◌, arith}
use Rattle.std.proofs.lemmas.List.{length-take-le}
use Rattle.head.specs.Questions.{missing_from}
use Rattle.head.specs.Queue.{Queue}
use Rattle.head.specs.Slots.{full}
use Rattle.store.specs.Missing.{end_of}
use Rattle.store.specs.Parts.{slot_of, slots_of}
use Rattle.store.proofs.View.{queue_front}
use Rattle.store.proofs.Fronts.{rest_more}
use Rattle.store.proofs.Lacking.{lacks_one, lacks_none, lacks_all, lacks_count}
use Rattle.store.proofs.types.Queue.list_missing.Goals as goal
use Rattle.store.proofs.types.Queue.list_missing.Goals.{then-not-is_full, else-not-is_full}

pub loop-i-preserved : goal.loop-i-preserved
loop-i-preserved c =
    let x = c.args.self.now in
    let q : Queue = slots_of x in
    let i = c.loop-i.i in
    let k = c.loop-i.count in
    let zs = c.loop-i.list in
    let es = c.args.list.now in
    let v = c.loop-i.invariant in
    let p = c.places_known.ensures in
    let l = x.places in
    let n = length-take-le c.places_known.result x.slots (omega arith) in
    let r = ap full (queue_front x.base x.slots c.places_known.result i c.slot-item.result (omega arith) (omega arith) ∙ ap slot_of (sym c.slot-item.is)) ∙ sym c.is_full.ensures in
    let on : List ℕ = missing_from q (end_of x) (96 - (i + 1)) (x.base + (i + 1)) in
    elim c.if-not-is_full.branch [
      | then-not-is_full w ↦
          let n = w.count-is in
          record {
            stamps = (λ j. take (n j) (w.list-is j) ++ on) ∙ lacks_one q (end_of x) x.base i (omega arith) zs _ k (omega arith) (omega arith) (r ∙ w.if-not-is_full.true) v.stamps;
            rest = (λ j. drop (n j) (w.list-is j)) ∙ (rest_more zs es k (x.base + i) v.rest ∙ ap (λ m. drop m es) (sym n));
            few = omega arith;
          }
      | else-not-is_full w ↦
          let n = w.count-is in
          record {
            stamps = (λ j. take (n j) (w.list-is j) ++ on) ∙ lacks_none q (end_of x) x.base i (omega arith) (take k zs) _ (r ∙ w.if-not-is_full.false) v.stamps;
            rest = (λ j. drop (n j) (w.list-is j)) ∙ (v.rest ∙ ap (λ m. drop m es) (sym n));
            few = omega arith;
          }
    ]

pub returns-clause-count : goal.returns-clause-count
returns-clause-count c =
    let x = c.args.self.now in
    let i = c.loop-i.i in
    let k = c.loop-i.count in
    let p = c.places_known.ensures in
    let n = length-take-le c.places_known.result x.slots (omega (arith, x.places)) in
    lacks_count (slots_of x) (end_of x) (96 - i) (x.base + i) k c.loop-i.list _ (omega arith) c.loop-i.invariant.stamps (omega arith)

pub returns-clause-after : goal.returns-clause-after
returns-clause-after c =
    let x = c.args.self.now in
    let i = c.loop-i.i in
    let p = c.places_known.ensures in
    let n = length-take-le c.places_known.result x.slots (omega (arith, x.places)) in
    lacks_all (slots_of x) (end_of x) (96 - i) (x.base + i) c.loop-i.count c.loop-i.list _ (omega arith) c.loop-i.invariant.stamps c.args.list.now c.loop-i.invariant.rest
