use Rattle.std.proofs.Common.{◌≡◌, ◌*◌, ◌≤◌, take}
use Rattle.std.specs.Prelude.{sum_by}
use Rattle.pdc_block.specs.Block.{body_len_of}
use Rattle.pdc_block.proofs.reading.payload_len.Given as goal

abbrev pub invariant-loop-shape : goal.invariant-loop-shape
invariant-loop-shape l = record {
  sum : l.len ≡ sum_by body_len_of (take l.shape-index l.shapes);
  small : l.len ≤ 214 * l.shape-index;
}
