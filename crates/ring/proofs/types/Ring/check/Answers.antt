use Rattle.ring.proofs.Moving.{missed}
use Rattle.ring.proofs.types.Ring.check.Goals as goal

pub returns-else-head-self : goal.returns-else-head-self
returns-else-head-self g c = λ k. missed _ _ _ k c.if-head-self.false
