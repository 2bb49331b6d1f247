use Rattle.std.proofs.Common.{rules, refl}
use Rattle.pdc_server.proofs.Parts.{one_part_more}
use Rattle.pdc_server.proofs.traffic.write_out.Goals as goal

pub loop-at-preserved : goal.loop-at-preserved
loop-at-preserved g c = let w = c.in_ok-write_part.ensures.ok in record {
  within = search rules;
  written = one_part_more (g.S.Write.contents c.args.stream.now) (g.S.Write.contents c.loop-at.stream) (g.S.Write.contents c.write_part.new.stream) c.loop-at.at c.min-end.result c.args.bytes.now _ (search rules) refl c.loop-at.invariant.written w;
}
