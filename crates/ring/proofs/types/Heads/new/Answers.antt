use Rattle.std.proofs.Common.{rules}
use Rattle.ring.proofs.Fresh.{fresh_all, fresh_facts}
use Rattle.ring.proofs.types.Heads.new.Goals as goal

pub invariant_of-result : goal.invariant_of-result
invariant_of-result c =
    let made = c.from_fn.ensures.items in
    fresh_facts c.args.size.heads c.from_fn.result (made.long, λ k d b. let called = made.at k d b in search rules) c.args.size.most

pub returns-clause-heads : goal.returns-clause-heads
returns-clause-heads c =
    let made = c.from_fn.ensures.items in
    fresh_all c.args.size.heads c.from_fn.result (made.long, λ k d b. let called = made.at k d b in search rules)
