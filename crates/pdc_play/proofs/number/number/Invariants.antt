use Rattle.std.proofs.Common.{◌≡◌, drop}
use Rattle.pdc_play.specs.Number.{number_of, with_digits}
use Rattle.pdc_play.proofs.number.number.Given as goal

abbrev pub invariant-loop-byte : goal.invariant-loop-byte
invariant-loop-byte l = number_of l.text ≡ with_digits l.n (drop l.byte-index l.text)
