use Rattle.std.proofs.Common.{rules, refl, ◌++◌, ℕ, ap₂}
use Rattle.std.specs.List.{flat_map}
use Rattle.pdc_block.specs.Block.{bytes_of_words}
use Rattle.pdc_row.specs.CellView.{BlockView}
use Rattle.pdc_row.specs.Layout.{own_block, row_fields}
use Rattle.pdc_server.proofs.laws.rows_are_data.Goals as goal

pub returns : goal.returns
returns c = λ output row stamp shapes start change few shaped tagged quality. record {
  fields = row_fields output row;
  frame = c.rows_are_frames.ensures.frames output row shapes few shaped tagged quality;
  kind = refl;
  id = refl;
  tag = c.tag_comes_back.ensures.of_tag_of row.instant output.time_base output.rate (search rules) (search rules);
  blocks = flat_map (λ (b : BlockView). bytes_of_words b.words) row.blocks;
  own = ap₂ (λ (s k : ℕ). bytes_of_words (own_block s k) ++ flat_map (λ (b : BlockView). bytes_of_words b.words) row.blocks) start change;
}
