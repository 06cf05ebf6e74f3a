use Rattle.std.proofs.Common.{max, cond, leb, None, sym, ap, ◌∙◌, arith}
use Rattle.store.proofs.View.{low_read, lows_raise, pending_change, pending_read}
use Rattle.store.proofs.types.Inbox.raise.Goals as goal

pub returns-clause-low : goal.returns-clause-low
returns-clause-low c =
    let xs = c.args.self.now.sources in
    lows_raise xs c.args.at c.args.to c.raise.new.self (omega arith) (c.raise.ensures.low ∙ ap (λ l. max l c.args.to) (sym (low_read xs c.args.at _ (omega arith))))

pub returns-clause-pending : goal.returns-clause-pending
returns-clause-pending c =
    let xs = c.args.self.now.sources in
    let to = c.args.to in
    pending_change xs c.args.at c.raise.new.self (λ k. leb k to) None (omega arith) (λ k. c.raise.ensures.pending k ∙ ap (cond (leb k to) None) (sym (pending_read xs c.args.at k _ (omega arith))))
