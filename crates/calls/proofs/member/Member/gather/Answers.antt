use Rattle.std.proofs.Common.{◌+◌, ◌-◌, ◌∙◌, arith}
use Rattle.frames.specs.Types.{names_of}
use Rattle.calls.specs.Model.{model}
use Rattle.calls.proofs.Gathering.{gather_starts, gather_over, gather_goes_on}
use Rattle.calls.proofs.member.Member.gather.Goals as goal

pub loop-step-init : goal.loop-step-init
loop-step-init c = let x = c.args.self.now.head in gather_starts x.size.heads (model x) _ x.member c.none-names.ensures.answer

pub loop-step-preserved : goal.loop-step-preserved
loop-step-preserved c =
    let x = c.args.self.now.head in
    let n = x.size.heads in
    let i = c.loop-step.step in
    gather_goes_on n x (n - i) (n - (i + 1)) i (names_of c.loop-step.names) _ (omega arith) c.add_run.ensures ∙ c.loop-step.invariant

pub returns : goal.returns
returns c =
    let x = c.args.self.now.head in
    let n = x.size.heads in
    gather_over n (model x) (n - c.loop-step.step) _ (names_of c.loop-step.names) (omega arith) ∙ c.loop-step.invariant
