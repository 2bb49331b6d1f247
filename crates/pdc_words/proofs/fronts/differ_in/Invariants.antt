use Rattle.std.proofs.Common.{◌≡◌, false, take}
use Rattle.pdc_words.specs.Linear.{xor_bytes}
use Rattle.pdc_words.proofs.fronts.differ_in.Given as goal

-- those that were looked at differ in the bytes, where none was found that does not
abbrev pub invariant-loop-place : goal.invariant-loop-place
invariant-loop-place l = l.differ ≡ false → take l.place (xor_bytes l.one l.other) ≡ take l.place l.bytes
