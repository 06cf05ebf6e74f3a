use Rattle.std.proofs.Common.{suc, sym, ap, ◌∙◌}
use Rattle.frames.proofs.Naming.{length-names_of}
use Rattle.head.specs.Queue.{all_unknown}
use Rattle.frames.specs.Types.{ack_meant}
use Rattle.calls.specs.Model.{model}
use Rattle.calls.proofs.Hearing.{new_free, new_own}
use Rattle.calls.proofs.machine.Head.take_ack.Goals as goal

pub place-requires : goal.place-requires
place-requires c =
    let h = model c.args.self.now in
    let t = c.args.ack.stamp in
    let ns = c.args.ack.names in
    let a = ack_meant c.args.ack in
    let e = sym c.if-contradicts.ensures in
    record { room = sym c.if-not-has_places.ensures; stamps = c.requires; own = new_own h a e; free = ap (λ n. all_unknown h.queue (suc n) t) (sym (length-names_of ns)) ∙ new_free c.args.self.now.size.heads h a e }
