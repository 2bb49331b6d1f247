use Rattle.std.proofs.Common.{◌≤◌}
use Rattle.pdc_words.proofs.LinearLemmas.{IsProduct}
use Rattle.pdc_words.proofs.crc_moved.moved_past.Given as goal

abbrev pub invariant-loop-bit : goal.invariant-loop-bit
invariant-loop-bit l = (l.bit ≤ 16) × IsProduct l.difference l.power l.product l.bit

abbrev pub decreases-loop-bit : goal.decreases-loop-bit
decreases-loop-bit l = l.bit
