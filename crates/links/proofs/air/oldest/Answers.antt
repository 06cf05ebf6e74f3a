use Rattle.std.proofs.Common.{rules}
use Rattle.links.proofs.PlaceTables.{oldest_is}
use Rattle.links.proofs.air.oldest.Goals as goal

pub returns-clause-answer : goal.returns-clause-answer
returns-clause-answer c = oldest_is c.args.head c.args.places.now c.position.result (search rules)
