use Rattle.std.proofs.Common.{◌≡◌, take, map}
use Rattle.std.specs.Prelude.{sum_by}
use Rattle.pdc_block.specs.Block.{AreOfShapes, bytes_of_blocks, words_of, shape_of, body_len_of}
use Rattle.pdc_block.proofs.reading.cut.Given as goal

abbrev pub invariant-loop-shape : goal.invariant-loop-shape
invariant-loop-shape l = record {
  place : l.place ≡ sum_by body_len_of (take l.shape-index l.shapes);
  shapes : map shape_of l.blocks.items ≡ take l.shape-index l.shapes;
  shaped : AreOfShapes (take l.shape-index l.shapes) (map words_of l.blocks.items);
  parts : bytes_of_blocks (map words_of l.blocks.items) ≡ take l.place l.payload;
}
