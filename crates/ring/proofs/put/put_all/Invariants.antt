use Rattle.std.proofs.Common.{map, take}
use Rattle.frames.specs.Types.{frame_of}
use Rattle.frames.specs.Written.{written}
use Rattle.ring.specs.Ring.{AfterPuts}
use Rattle.ring.proofs.put.put_all.Given as goal

-- the frames so far were put
abbrev pub invariant-loop-frame : goal.invariant-loop-frame
invariant-loop-frame g l = AfterPuts (map (written l.size.heads) (map frame_of (take l.frame-index l.frame-items))) (g.L.Link.waits l.initial.link) (g.L.Link.waits l.link)
