use Rattle.std.proofs.Common.{◌∙◌, sym}
use Rattle.frames.specs.Types.{names_of}
use Rattle.store.specs.Parts.{inbox_of}
use Rattle.store.proofs.Windows.{clears_is, clears_more, clears_end}
use Rattle.store.proofs.types.Inbox.clear_all.Goals as goal

pub loop-name-preserved : goal.loop-name-preserved
loop-name-preserved c =
    let v = c.loop-name.invariant in
    record {
      low = c.clear.ensures.low ∙ v.low;
      cleared = clears_more c.as_slice-name-items.result.now c.loop-name.name-index c.name-item.result (inbox_of c.loop-name.self) _ _ c.loop-name-test.true c.name-item.is c.clear.ensures.pending v.cleared;
    }

pub returns-clause-pending : goal.returns-clause-pending
returns-clause-pending c = sym (clears_end c.as_slice-name-items.result.now c.loop-name.name-index (inbox_of c.loop-name.self) c.loop-name-test.false) ∙ (c.loop-name.invariant.cleared ∙ clears_is (names_of c.args.names) (inbox_of c.args.self.now))
