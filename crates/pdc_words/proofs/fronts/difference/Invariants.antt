use Rattle.std.proofs.Common.{◌≡◌, length, take}
use Rattle.pdc_words.specs.Linear.{xor_bytes}
use Rattle.pdc_words.proofs.fronts.difference.Given as goal

-- those that were written are what the fronts differ in
abbrev pub invariant-loop-place : goal.invariant-loop-place
invariant-loop-place l = (length l.bytes ≡ 28) × (take l.place l.bytes ≡ take l.place (xor_bytes l.one l.other))
