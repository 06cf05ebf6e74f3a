use Rattle.std.proofs.Common.{Ok, leb, length, sym, ap, ◌∙◌, arith}
use Rattle.std.proofs.lemmas.List.{take_all}
use Rattle.std.proofs.lemmas.Bool.{cond-true, le-leb}
use Rattle.frames.proofs.body.PacketTryFromRefSliceU8.try_from.Goals as goal

pub returns : goal.returns
returns c =
    let bs = c.args.bytes.now in
    record {
      answer = ap Ok (c.copied.ensures.items ∙ take_all 32 bs (omega arith)) ∙ sym (cond-true (leb (length bs) 32) (Ok bs) _ (le-leb (length bs) 32 (omega arith)));
      rest = c.copied.ensures.rest;
    }
