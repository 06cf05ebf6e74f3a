use Rattle.std.proofs.Common.{◌+◌, Some, sym, ap, ◌∙◌, arith}
use Rattle.store.specs.Parts.{kept_of, lows_of}
use Rattle.calls.specs.Choice.{kept_under, sent_of}
use Rattle.calls.specs.Model.{model}
use Rattle.store.proofs.View.{low_read}
use Rattle.calls.proofs.Gathering.{kept_read, kept_small}
use Rattle.calls.proofs.Sending.{ranged_small}
use Rattle.calls.proofs.member.Member.message.Goals as goal

pub overflow_add-name-2 : goal.overflow_add-name-2
overflow_add-name-2 c =
    let x = c.args.self.now in
    let k = kept_small x.head.inbox c.args.source c.args.place _ _ _ c.requires.head c.requires.near (ranged_small x.head.size.heads (model x.head) x.ranged) c.in_ok-kept.was in omega arith

pub invariant_of-name : goal.invariant_of-name
invariant_of-name c =
    let x = c.args.self.now in
    let k = kept_small x.head.inbox c.args.source c.args.place _ _ _ c.requires.head c.requires.near (ranged_small x.head.size.heads (model x.head) x.ranged) c.in_ok-kept.was in
    record { head = c.requires.head; counted = omega arith; small = k }

pub returns-in_err-kept : goal.returns-in_err-kept
returns-in_err-kept c =
    let b = c.args.self.now.head.inbox in
    let s = c.args.source in
    ap sent_of c.from_residual.ensures ∙ sym (ap (kept_under s (lows_of b s + (c.args.place + 1))) (kept_read b s c.args.place _ _ c.requires.head c.requires.near ∙ ap kept_of c.in_err-kept.was))

pub returns : goal.returns
returns c =
    let b = c.args.self.now.head.inbox in
    let s = c.args.source in
    let j = c.args.place in
    let kept = kept_read b s j _ _ c.requires.head c.requires.near ∙ ap kept_of c.in_ok-kept.was in
    sym (ap (kept_under s (lows_of b s + (j + 1))) kept ∙ ap (λ l. kept_under s (l + (j + 1)) (kept_of (Some c.in_ok-kept.kept))) (low_read b.sources s c.index-self-source.result (omega (arith, b.places, c.requires.head))))
