use Rattle.std.proofs.Common.{◌≡◌, ap, ◌∙◌}
use Rattle.frames.specs.Types.{names_of}
use Rattle.head.specs.Head.{place}
use Rattle.head.specs.Turn.{new_ack}
use Rattle.calls.specs.Model.{model}
use Rattle.calls.proofs.Issuing.{new_spans, new_unknown, new_stamps, order_made, made_ack}
use Rattle.calls.proofs.Members.{after_issue}
use Rattle.calls.proofs.member.Member.issue.Goals as goal

pub place-requires : goal.place-requires
place-requires c =
    let x = c.args.self.now.head in
    let ns = c.args.names in
    let t = c.end.result in
    let e = c.end.ensures.value in
    record {
      room = new_spans x ns t e c.requires.room;
      stamps = new_stamps x ns t e c.requires.room c.requires.stamps;
      own = made_ack x.me x.made (record { stamp = t; issuer = x.me; names = names_of ns }) (order_made x.size.heads x.me x.made (model x) (names_of ns) c.args.self.now.unmade c.requires.chosen);
      free = new_unknown x ns t e c.requires.room;
    }

pub invariant_of-self : goal.invariant_of-self
invariant_of-self c =
    let x = c.args.self.now.head in
    let ns = names_of c.args.names in
    let e = c.end.ensures.value in
    let a : record { stamp = c.end.result; issuer = x.me; names = ns } ≡ new_ack (model x) ns = λ j. record { stamp = e j; issuer = x.me; names = ns } in
    after_issue c.args.self.now c.place.new.self c.place.ensures.size ns c.requires.chosen c.requires.stamps (c.place.ensures.after ∙ ap (place (model x)) a)
