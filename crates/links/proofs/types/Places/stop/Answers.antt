use Rattle.std.proofs.Common.{rules, arith}
use Rattle.std.proofs.Math.Seq.{take-set-lt}
use Rattle.frames.specs.Tables.{items}
use Rattle.frames.proofs.Naming.{length-items}
use Rattle.links.proofs.PlaceTables.{stops_last, stops_one}
use Rattle.links.proofs.types.Places.stop.Goals as goal

pub returns-then-is_empty : goal.returns-then-is_empty
returns-then-is_empty c =
    let t = c.args.self.now.table in
    let k = length-items t in
    stops_last c.args.head c.args.i (items t) (items c.remove-then-is_empty.new.self) c.index-as_slice-i.result c.remove.new.self (omega arith) (search rules) (search rules) c.if-is_empty.ensures c.remove-then-is_empty.ensures.after

pub returns-else-is_empty : goal.returns-else-is_empty
returns-else-is_empty c =
    let t = c.args.self.now.table in
    let k = length-items t in
    stops_one c.args.head c.args.i (items t) _ c.index-as_slice-i.result c.remove.new.self (omega arith) (search rules) (search rules) c.if-is_empty.ensures (take-set-lt t.count t.places c.args.i _ c.requires)
