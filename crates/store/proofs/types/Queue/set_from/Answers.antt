use Rattle.std.proofs.Common.{◌≡◌, ◌+◌, cond, eqb, List, length, map, refl, ap, sym, ◌∙◌, arith}
use Rattle.frames.specs.declared.types.Name.{Name as CName}
use Rattle.frames.specs.Types.{ack_meant, name_of}
use Rattle.head.specs.Slots.{nth_slot}
use Rattle.store.specs.declared.types.Slot.TheVariants.{Ack as CAck}
use Rattle.store.specs.Parts.{slot_of, slots_of, inbox_of}
use Rattle.frames.proofs.Naming.{length-items, length-names_of}
use Rattle.store.proofs.View.{queue_set}
use Rattle.store.proofs.Placing.{laid_none, laid_more, laid_all, name_slot}
use Rattle.store.proofs.types.Queue.set_from.Goals as goal

pub loop-i-init : goal.loop-i-init
loop-i-init c = record { base = refl; gone = refl; slots = laid_none (inbox_of c.args.inbox.now) (ack_meant c.args.ack) _ }

pub loop-i-preserved : goal.loop-i-preserved
loop-i-preserved c =
    let s = c.args.self.now in
    let a = c.args.ack in
    let i = c.loop-i.i in
    let l = c.loop-i.self.places in
    let xs = c.as_slice-name-items.result.now in
    let e = c.as_slice-name-items.ensures in
    let n : length xs ≡ a.names.count = ap length e ∙ length-items a.names in
    let v = c.loop-i.invariant in
    record {
      base = v.base;
      gone = v.gone;
      slots = queue_set s.base c.loop-i.self.slots (c.args.at + 1 + i) c.slot_for.result (omega arith)
          ∙ laid_more (inbox_of c.args.inbox.now) (ack_meant a) _ _ i (s.base + (c.args.at + 1 + i)) (name_of c.name-item.result) _ (omega arith) (sym (ap (λ (ys : List CName). nth_slot (map name_of ys) i) e) ∙ name_slot xs i c.name-item.result (omega arith) c.name-item.is) c.slot_for.ensures v.slots;
    }

pub returns-clause-slots : goal.returns-clause-slots
returns-clause-slots c =
    let s = c.args.self.now in
    let a = c.args.ack in
    let l = s.places in
    let n : length c.as_slice-name-items.result.now ≡ a.names.count = ap length c.as_slice-name-items.ensures ∙ length-items a.names in
    c.loop-i.invariant.slots
    ∙ laid_all (inbox_of c.args.inbox.now) (ack_meant a) (slots_of s) _ c.loop-i.i (omega (arith, length-names_of a.names))
    (queue_set s.base s.slots c.args.at (CAck a.issuer a.names) (omega arith) ∙ (λ j t. cond (eqb t (sym c.requires.placed j)) (slot_of (CAck a.issuer a.names)) (slots_of s t)))
