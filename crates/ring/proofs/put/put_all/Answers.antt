use Rattle.frames.specs.Types.{frame_of}
use Rattle.frames.specs.Written.{written}
use Rattle.ring.proofs.Putting.{put_more, mem_mapped}
use Rattle.ring.proofs.put.put_all.Goals as goal

pub put_one-requires : goal.put_one-requires
put_one-requires g c =
    let e = c.as_slice-frame-items.ensures in
    let item = mem_mapped frame_of c.as_slice-frame-items.result.now c.loop-frame.frame-index c.frame-item.result c.loop-frame-test.true in
    rw (c.frame-item.is, e) (c.requires _ (rw e at item))

pub loop-frame-preserved : goal.loop-frame-preserved
loop-frame-preserved g c = put_more frame_of (written c.args.size.heads) c.as_slice-frame-items.result.now c.loop-frame.frame-index c.frame-item.result c.loop-frame-test.true _ _ _ c.loop-frame.invariant (rw (← c.frame-item.is) c.put_one.ensures)
