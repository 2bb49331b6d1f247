-- What contracts see of a block and of a cell.
use Rattle.std.specs.Prelude.{ℕ, ◌==◌, Bool, ◌&&◌, not, List, nat_eq}
use Rattle.std.specs.Cmp.Lexicographic.{pointwise}
use Rattle.pdc_block.specs.pdc_cfg.declared.shape.Shape.{Shape}
use Rattle.pdc_block.specs.declared.block.Block.{Block}
use Rattle.pdc_block.specs.declared.body.Body.{Body}
use Rattle.pdc_block.specs.Block.{words_in, words_of}
pub use Rattle.pdc_block.specs.AbsentBlock.{absent_of}

-- a block: its shape, and its words in wire order
pub record BlockView : Type 0 where
  pub shape : Shape
  pub words : List ℕ

-- a block that was taken, and the time quality byte of its frame
pub record CellView : Type 0 where
  pub block : BlockView
  pub quality : ℕ

abbrev pub block_view : Block → BlockView
block_view b = record { shape = b.shape; words = words_of b }

-- a block that is lent from a payload: the words that its bytes write
abbrev pub body_view : Body → BlockView
body_view b = record { shape = b.shape; words = words_in b.bytes.now }

-- the absent block of a shape
abbrev pub absent_view : Shape → BlockView
absent_view shape = record { shape = shape; words = absent_of shape }

abbrev pub same_shape : Shape → Shape → Bool
same_shape a b = (a.phasors == b.phasors) && (a.analogs == b.analogs) && (a.digitals == b.digitals)

-- two blocks of one shape with the same words
abbrev pub same_block : BlockView → BlockView → Bool
same_block a b = same_shape a.shape b.shape && pointwise nat_eq a.words b.words

-- the block is not the absent block of its shape
abbrev pub is_present : BlockView → Bool
is_present b = not (pointwise nat_eq b.words (absent_of b.shape))

-- the cell that the block and the quality of its frame make
abbrev pub cell_view : Block → ℕ → CellView
cell_view b quality = record { block = block_view b; quality = quality }
