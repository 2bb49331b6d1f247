use Rattle.std.proofs.Common.{take}
use Rattle.std.specs.Io.KnownBytes.{Appends}
use Rattle.hex.specs.Hex.{encode_upper}
use Rattle.pdc_play.proofs.hexadecimal.write_upper.Given as goal

abbrev pub invariant-loop-byte : goal.invariant-loop-byte
invariant-loop-byte g l = Appends (g.W.Write.contents l.fn.writer) (g.W.Write.contents l.writer) (encode_upper (take l.byte-index l.bytes))
