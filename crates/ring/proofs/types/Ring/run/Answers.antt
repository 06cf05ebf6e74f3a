use Rattle.std.proofs.Common.{◌+◌, ◌∙◌, ap}
use Rattle.ring.proofs.Sequences.{run_on}
use Rattle.ring.proofs.types.Ring.run.Goals as goal

pub loop-request-preserved : goal.loop-request-preserved
loop-request-preserved g c = record {
  room = c.push_reserved.ensures.capacity ∙ c.loop-request.invariant.room;
  count = c.push_reserved.ensures.len ∙ ap (λ n. n + 1) c.loop-request.invariant.count;
  made = λ es t. rw (c.push_reserved.ensures.items) (run_on g.L.Link.waits c.args.requests.now c.loop-request.request-index _ c.make.result _ _ c.make.ensures.moved c.make.ensures.head c.loop-request-test.true c.loop-request.outcomes.items es _ t (c.loop-request.invariant.made es t));
}
