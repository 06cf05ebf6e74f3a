use Rattle.std.proofs.Common.{rules, sym, ap, ◌∙◌}
use Rattle.std.proofs.iter.runs.Sources.{ranges}
use Rattle.frames.specs.Types.{message_meant}
use Rattle.store.specs.Look.{put_of}
use Rattle.calls.proofs.Gathering.{own_found, own_absent}
use Rattle.calls.proofs.member.Member.lowest_own.Goals as goal

pub returns-in_err-message : goal.returns-in_err-message
returns-in_err-message c = ap put_of c.from_residual.ensures ∙ sym (own_absent c.args.self.now.head (λ j l. search (rules, ranges)))

pub returns : goal.returns
returns c =
    let m = c.in_ok-message.message in
    let w = c.in_ok-message.ensures.runs.2 in
    let before = (w.3 (λ a r q k. search rules)).1 in
    sym (own_found c.args.self.now.head w.0 (message_meant m) (search (rules, ranges)) (λ j l. let none = before j l in search (rules, ranges)) (search (rules, ranges)))
