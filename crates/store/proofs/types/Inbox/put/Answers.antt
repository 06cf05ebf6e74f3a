use Rattle.std.proofs.Common.{cond, ◌&&◌, eqb, sym, ap, ◌∙◌, arith}
use Rattle.store.specs.Parts.{in_window, kept_of}
use Rattle.store.proofs.View.{low_read, lows_same, pending_read}
use Rattle.store.proofs.Windows.{put_change}
use Rattle.store.proofs.types.Inbox.put.Goals as goal

pub returns-clause-answer : goal.returns-clause-answer
returns-clause-answer c = c.put-put.ensures.answer ∙ ap (λ l. in_window l c.args.name.number) (sym (low_read c.args.self.now.sources c.args.name.source _ (omega arith)))

pub returns-clause-low : goal.returns-clause-low
returns-clause-low c =
    let xs = c.args.self.now.sources in
    let s = c.args.name.source in
    lows_same xs s c.put-put.new.self (omega arith) (c.put-put.ensures.low ∙ sym (low_read xs s _ (omega arith)))

pub returns-clause-pending : goal.returns-clause-pending
returns-clause-pending c =
    let xs = c.args.self.now.sources in
    let s = c.args.name.source in
    let k = c.args.name.number in
    let o = kept_of c.args.kept in
    let r = c.put-put.result in
    put_change xs s c.put-put.new.self r (λ i. eqb i k) o (omega arith) (λ i. c.put-put.ensures.pending i ∙ ap (cond (r && eqb i k) o) (sym (pending_read xs s i _ (omega arith))))
