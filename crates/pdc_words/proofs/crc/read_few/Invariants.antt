use Rattle.std.proofs.Common.{◌≡◌, take}
use Rattle.pdc_words.specs.CheckWord.{polynomial_of}
use Rattle.pdc_words.proofs.crc.read_few.Given as goal

abbrev pub invariant-loop-byte : goal.invariant-loop-byte
invariant-loop-byte l = l.number ≡ polynomial_of (take l.byte-index l.bytes)
