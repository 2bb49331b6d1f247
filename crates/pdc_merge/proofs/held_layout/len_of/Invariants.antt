use Rattle.std.proofs.Common.{◌≡◌, ◌*◌, ◌≤◌, take}
use Rattle.pdc_merge.specs.Cells.{blocks_len}
use Rattle.pdc_merge.proofs.held_layout.len_of.Given as goal

-- the bytes of the blocks so far
abbrev pub invariant-loop-section : goal.invariant-loop-section
invariant-loop-section l = record {
  sum : l.len ≡ blocks_len (take l.section-index l.sections);
  small : l.len ≤ 214 * l.section-index;
}
