use Rattle.std.proofs.Common.{◌≡◌, length, take}
use Rattle.pdc_row.proofs.copied.copy_each.Given as goal

-- as many as were looked at are copies
abbrev pub invariant-loop-place : goal.invariant-loop-place
invariant-loop-place g l = record {
  size : length l.mine ≡ length l.initial.mine;
  copied : take l.place l.mine ≡ take l.place l.others;
}
