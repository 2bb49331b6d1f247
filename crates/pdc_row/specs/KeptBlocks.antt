-- The blocks of a row, kept as the bytes that its frame has of them.
use Rattle.std.specs.Prelude.{ℕ, ◌≡◌, ◌*◌, ◌≤◌, List, [], ◌∷◌, drop, map, slice_index_or, sum_by, take}
use Rattle.std.specs.List.{flat_map}
use Rattle.pdc_block.specs.Block.{AreOfShapes, body_len_of, bytes_of_words, words_in}
use Rattle.pdc_block.specs.pdc_cfg.Shape.{word_count_of}
use Rattle.pdc_block.specs.pdc_cfg.declared.shape.Shape.{Shape}
use Rattle.pdc_row.specs.CellView.{BlockView}

-- the block of a shape that these bytes write
abbrev pub written_by : Shape → List ℕ → BlockView
written_by shape bytes = record { shape = shape; words = words_in bytes }

-- blocks of these shapes, of which each takes its bytes behind those of the one before
abbrev pub blocks_in : List Shape → List ℕ → List BlockView
blocks_in [] bytes = []
blocks_in (shape ∷ shapes) bytes =
    written_by shape (take (2 * word_count_of shape) bytes) ∷ blocks_in shapes (drop (2 * word_count_of shape) bytes)

-- each block has the words of its shape, of 16 bits each
abbrev pub AreWhole : List BlockView → Type 0
AreWhole blocks = AreOfShapes (map (λ (b : BlockView). b.shape) blocks) (map (λ (b : BlockView). b.words) blocks)

-- the bytes of blocks, one after the other
abbrev pub bytes_of : List BlockView → List ℕ
bytes_of blocks = flat_map (λ (b : BlockView). bytes_of_words b.words) blocks

-- the shapes of blocks
abbrev pub shapes_of : List BlockView → List Shape
shapes_of blocks = map (λ (b : BlockView). b.shape) blocks

-- where the bytes of each of so many blocks begin, and where those of the next one would: behind the bytes of those before it
abbrev pub AreStarts : ℕ → List Shape → List ℕ → Type 0
AreStarts count shapes starts = (i : ℕ) → i ≤ count → slice_index_or starts i 0 ≡ sum_by body_len_of (take i shapes)

-- what stands in the memory of a frame behind its front, which takes 28 bytes: the blocks, and behind them the check word
abbrev pub room_in : List ℕ → List ℕ
room_in bytes = drop 28 bytes
