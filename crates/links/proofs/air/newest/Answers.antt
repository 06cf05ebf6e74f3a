use Rattle.std.proofs.Common.{rules}
use Rattle.links.proofs.PlaceTables.{newest_is}
use Rattle.links.proofs.air.newest.Goals as goal

pub returns-clause-answer : goal.returns-clause-answer
returns-clause-answer c = newest_is c.args.head c.args.places.now c.rposition.result (search rules)
