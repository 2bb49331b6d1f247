use Rattle.pdc_play.proofs.Appending.{byte_more, no_byte}
use Rattle.pdc_play.proofs.hexadecimal.write_upper.Goals as goal

pub loop-byte-init : goal.loop-byte-init
loop-byte-init g c = no_byte (g.W.Write.contents c.args.writer.now) c.args.bytes.now

pub loop-byte-preserved : goal.loop-byte-preserved
loop-byte-preserved g c =
    byte_more (g.W.Write.contents c.args.writer.now) (g.W.Write.contents c.loop-byte.writer) (g.W.Write.contents c.write_all.new.self) c.args.bytes.now c.loop-byte.byte-index c.loop-byte-test.true
    c.loop-byte.invariant c.in_ok-write_all.ensures.bytes
