use Rattle.std.proofs.Common.{◌≡◌, ◌<◌, true, ◌⊎◌, length, sym, ◌∙◌, inl, inr}
use Rattle.frames.specs.Types.{names_of}
use Rattle.head.specs.Tick.{busy}
use Rattle.calls.specs.Model.{model}
use Rattle.calls.proofs.Turning.{some_names}
use Rattle.calls.proofs.Ticking.{token_issues}
use Rattle.calls.proofs.member.Member.pass_token.Goals as goal
use Rattle.calls.proofs.member.Member.pass_token.Goals.{else-names-eq0-via-then-names-eq0+else-not-is_busy, else-names-eq0-via-else-names-eq0}

pub returns-clause-after : goal.returns-clause-after
returns-clause-after c =
    let x = c.args.self.now.head in
    let n = x.size.heads in
    let h = model x in
    let ns = c.gather-names.result in
    let cause : (0 < length (names_of ns)) ⊎ (busy h.queue 96 h.base n ≡ true) = elim c.else-names-eq0.branch [
      | else-names-eq0-via-then-names-eq0+else-not-is_busy w ↦ inr (sym w.is_busy.ensures ∙ w.if-not-is_busy.false)
      | else-names-eq0-via-else-names-eq0 w ↦ inl (some_names ns w.if-names-eq0.false)
    ] in
    c.fire_ack.ensures.after ∙ sym (token_issues n h (names_of ns) (sym c.if-not-may_issue.ensures) c.gather-names.ensures cause)
