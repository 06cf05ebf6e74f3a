use Rattle.std.proofs.Common.{◌≡◌, ◌+◌, Bool, false, List, get_or, refl, ap, ◌∙◌, arith}
use Rattle.head.specs.Questions.{holder_marks}
use Rattle.head.specs.Queue.{Queue}
use Rattle.store.specs.Parts.{slot_of, slots_of}
use Rattle.store.proofs.View.{queue_read}
use Rattle.store.proofs.Fronts.{rest_more}
use Rattle.store.proofs.Marking.{marked_none, marked_before, marked_more, mark_none, mark_after, marks_more, marks_all}
use Rattle.store.proofs.types.Queue.mark_from.Goals as goal
use Rattle.store.proofs.types.Queue.mark_from.Goals.{then-i-from, else-i-from}

pub loop-i-init : goal.loop-i-init
loop-i-init c =
    let x = c.args.self.now in
    let n = c.args.ring.size.heads in
    let e : x.base + 0 ≡ x.base = omega arith in
    record { table = marked_none n c.args.ring.me (slots_of x) x.base c.args.from; marks = λ h k. ap (holder_marks n h (x.base + c.args.from) 96) e; rest = refl }

pub loop-i-preserved : goal.loop-i-preserved
loop-i-preserved c =
    let x = c.args.self.now in
    let q : Queue = slots_of x in
    let n = c.args.ring.size.heads in
    let me = c.args.ring.me in
    let f = c.args.from in
    let i = c.loop-i.i in
    let zs = c.loop-i.scratch in
    let v = c.loop-i.invariant in
    let l = x.places in
    let rest = rest_more zs c.args.scratch.now i c.if-i-from.mark v.rest in
    let s = slot_of (get_or x.slots i c.slot-item.result) in
    let e = queue_read x.base x.slots i c.slot-item.result (omega arith) in
    elim c.if-i-from.branch [
      | then-i-from w ↦ record {
        table = marked_before n me q x.base f c.if-i-from.marked i w.if-i-from.true (λ g. ap (λ (ys : List Bool). get_or ys g false) w.marked-is ∙ v.table g);
        marks = λ h k. marks_more n me x f h k i c.if-i-from.mark zs _ (omega arith) (omega arith) (w.mark-is ∙ mark_none n me x f h k i w.if-i-from.true) (v.marks h k);
        rest = rest;
      }
      | else-i-from w ↦ record {
        table = marked_more n me q x.base f c.loop-i.marked c.if-i-from.marked i s w.if-i-from.false e (λ g. ap (λ (ys : List Bool). get_or ys g false) w.marked-is ∙ w.new_mark-mark.ensures.table g) v.table;
        marks = λ h k. marks_more n me x f h k i c.if-i-from.mark zs _ (omega arith) (omega arith) (w.mark-is ∙ (w.new_mark-mark.ensures.mark ∙ mark_after n me x f h k c.loop-i.marked i s w.if-i-from.false e v.table)) (v.marks h k);
        rest = rest;
      }
    ]

pub returns : goal.returns
returns c = λ h k.
    let l = c.args.self.now.places in
    marks_all c.args.ring.size.heads c.args.ring.me c.args.self.now c.args.from h k c.loop-i.i c.loop-i.scratch c.args.scratch.now _ (omega arith) (c.loop-i.invariant.marks h k) c.loop-i.invariant.rest
