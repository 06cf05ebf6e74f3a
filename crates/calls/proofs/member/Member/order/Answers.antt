use Rattle.std.proofs.Common.{◌≡◌, [], ◌∷◌, Some, sym, ap, ◌∙◌}
use Rattle.frames.specs.Types.{names_of}
use Rattle.frames.specs.Values.{Ack, ack_frame}
use Rattle.frames.proofs.Naming.{length-names_of}
use Rattle.head.specs.Upkeep.{settled}
use Rattle.head.specs.Answers.{ordered}
use Rattle.head.specs.Turn.{new_ack}
use Rattle.store.specs.Puts.{puts_of}
use Rattle.calls.specs.Model.{model}
use Rattle.calls.proofs.Turning.{some_names, turn_orders}
use Rattle.calls.proofs.member.Member.order.Goals as goal

pub returns-clause-after : goal.returns-clause-after
returns-clause-after c =
    let x = c.args.self.now.head in
    let n = x.size.heads in
    let ns = c.gather-names.result in
    let e = c.issue-ack.ensures in
    let a : ◌≡◌ {A = Ack} _ (new_ack (model x) (names_of ns)) = e.ack in
    let l = sym (length-names_of ns) in
    let fs : puts_of c.frames_there.result ≡ ack_frame (new_ack (model x) (names_of ns)) ∷ [] = c.frames_there.ensures ∙ ap (λ (k : Ack). ack_frame k ∷ []) a in
    let h = e.after in
    (λ j. record { answer = ordered (a j).stamp (l j); head = settled n (h j); puts = fs j; issued = Some (a j) })
    ∙ sym (turn_orders n (model x) (names_of ns) (sym c.if-not-holds_token.ensures) c.gather-names.ensures (some_names ns c.if-names-eq0.false) (sym c.if-not-has_room.ensures) (sym c.if-not-has_stamps.ensures))
