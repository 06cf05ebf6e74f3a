use Rattle.std.proofs.Common.{refl}
use Rattle.ring.proofs.Moving.{facts_after, all_written, moved}
use Rattle.ring.proofs.types.Ring.act.Goals as goal

pub invariant_of-self : goal.invariant_of-self
invariant_of-self g c =
    let e = c.call_at-done.ensures in
    rw (e.4) (facts_after c.args.self.now.heads c.args.head c.requires.there e.3 (c.requires.meant.1 _ _ _ e.2))

pub send-requires : goal.send-requires
send-requires g c =
    let e = c.call_at-done.ensures in
    all_written c.args.self.now.heads c.args.head c.requires.there e.3 (c.requires.meant.1 _ _ _ e.2)

pub returns : goal.returns
returns g c = λ m k w t.
    let e = c.call_at-done.ensures in
    moved c.args.self.now.heads c.args.head c.requires.there e.3 (k _ _ _ e.2) _ refl e.4 w _ _ t c.send.ensures.puts _ c.send.ensures.answer
