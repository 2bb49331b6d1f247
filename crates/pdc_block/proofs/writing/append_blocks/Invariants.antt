use Rattle.std.proofs.Common.{◌≡◌, ◌≤◌, ◌+◌, ◌++◌, length, take, map}
use Rattle.std.specs.Prelude.{sum_by}
use Rattle.pdc_block.specs.Block.{bytes_of_blocks, words_of, body_len_of, shape_of}
use Rattle.pdc_block.proofs.writing.append_blocks.Given as goal

abbrev pub invariant-loop-block : goal.invariant-loop-block
invariant-loop-block g l = record {
  content : g.B.Buffer.content l.out ≡ g.B.Buffer.content l.fn.out ++ bytes_of_blocks (map words_of (take l.block-index l.blocks));
  len : length (g.B.Buffer.content l.out) ≡ length (g.B.Buffer.content l.fn.out) + sum_by (λ block. body_len_of (shape_of block)) (take l.block-index l.blocks);
  room : length (g.B.Buffer.content l.fn.out) + sum_by (λ block. body_len_of (shape_of block)) l.blocks ≤ g.B.Buffer.capacity l.out;
  in_place : g.B.Buffer.capacity l.out ≡ g.B.Buffer.capacity l.initial.out;
}
