use Rattle.std.proofs.Common.{◌+◌, ◌∙◌, arith}
use Rattle.std.proofs.lemmas.Bool.{cond-true}
use Rattle.store.specs.Parts.{inbox_of, lows_of}
use Rattle.calls.specs.Model.{model}
use Rattle.calls.proofs.Lows.{low_is, low_own, near}
use Rattle.calls.proofs.Submitting.{message_made, unordered_refused, used_up_refused}
use Rattle.calls.proofs.machine.Head.compose.Goals as goal

pub returns-then-self-low-ge4-clause-after : goal.returns-then-self-low-ge4-clause-after
returns-then-self-low-ge4-clause-after c =
    let x = c.args.self.now in
    let e = low_is x x.me in
    unordered_refused x.size.heads c.args.level c.args.bytes.now (model x) _ _ c.in_ok-level.ensures c.in_ok-body.ensures.answer (omega arith)

pub returns-then-self-ge500000-clause-after : goal.returns-then-self-ge500000-clause-after
returns-then-self-ge500000-clause-after c =
    let x = c.args.self.now in
    let e = low_is x x.me in
    used_up_refused x.size.heads c.args.level c.args.bytes.now (model x) _ _ c.in_ok-level.ensures c.in_ok-body.ensures.answer (omega arith) (omega arith)

pub returns-clause-after : goal.returns-clause-after
returns-clause-after c =
    let x = c.args.self.now in
    let o = low_own x in
    let e = low_is x x.me in
    let p = c.keep.ensures.pending ∙ cond-true c.keep.result _ _ (c.keep.ensures.answer ∙ near (lows_of x.inbox x.me) (x.made + 1) (omega arith) (omega arith)) in
    message_made x.size.heads c.args.level c.args.bytes.now (model x) _ _ c.in_ok-level.ensures c.in_ok-body.ensures.answer (x.made + 1) (inbox_of c.keep.new.self) (omega arith) (omega arith) (omega arith) p
