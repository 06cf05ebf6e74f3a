use Rattle.std.proofs.Common.{◌≡◌, rules}
use Rattle.ring.proofs.Moving.{started_lawful}
use Rattle.ring.proofs.types.Roster.start.Goals as goal

pub returns-in-Ok : goal.returns-in-Ok
returns-in-Ok g c =
    let x = c.new.result in
    let size : x.size.heads ≡ c.args.self.count = search rules in
    started_lawful x _ c.args.self.count size c.new.ensures.heads c.clear.ensures.meaning
