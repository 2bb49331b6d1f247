-- The spelling of a block, and of the payload of a data frame (IEEE C37.118.2-2011, 6.3 and table 6, in 16-bit
-- formats).
use Rattle.std.specs.Prelude.{◌≡◌, ℕ, ◌+◌, ◌*◌, ◌^◌, ◌<◌, List, [], ◌∷◌, length, slice_index}
use Rattle.std.specs.Int.{w16, to_be_bytes}
use Rattle.std.specs.List.{flat_map}
use Rattle.pdc_cfg.specs.Shape.{word_count_of}
use Rattle.pdc_cfg.specs.declared.shape.Shape.{Shape}
use Rattle.pdc_block.specs.declared.block.Block.{Block}

-- each element is a 16-bit word
abbrev pub AreWords : List ℕ → Type 0
AreWords words = (i : ℕ) → slice_index words i < 2 ^ 16

-- the words on the wire: each with its high byte first
abbrev pub bytes_of_words : List ℕ → List ℕ
bytes_of_words words = flat_map (to_be_bytes w16) words

-- The words that the bytes write: each two bytes, the high one first. `bodies_are_their_words` is the law that these are
-- the words of a body.
abbrev pub words_in : List ℕ → List ℕ
words_in [] = []
words_in (byte ∷ []) = []
words_in (high ∷ low ∷ bytes) = (256 * high + low) ∷ words_in bytes

-- the words of a block, in wire order
abbrev pub words_of : Block → List ℕ
words_of block = block.words.items

abbrev pub shape_of : Block → Shape
shape_of block = block.shape

-- The bytes are a body of this shape with these words: the words one after the other, as many as the shape has.
pub record IsBody (shape : Shape) (bytes words : List ℕ) : Type 0 where
  pub count : length words ≡ word_count_of shape
  pub fits : AreWords words
  pub spelled : bytes ≡ bytes_of_words words

-- what the body of a shape takes
abbrev pub body_len_of : Shape → ℕ
body_len_of shape = 2 * word_count_of shape

-- for each shape the words of one block, in this order
abbrev pub AreOfShapes : List Shape → List (List ℕ) → Type 0
AreOfShapes [] [] = Unit {0}
AreOfShapes (shape ∷ shapes) (words ∷ blocks) = (length words ≡ word_count_of shape) × AreWords words × AreOfShapes shapes blocks
AreOfShapes _ _ = ⊥

-- the bytes of the blocks, one after the other
abbrev pub bytes_of_blocks : List (List ℕ) → List ℕ
bytes_of_blocks blocks = flat_map bytes_of_words blocks

-- The payload is these blocks: each is a body of its shape, and their bytes joined are the payload.
pub record IsCut (shapes : List Shape) (payload : List ℕ) (blocks : List (List ℕ)) : Type 0 where
  pub shaped : AreOfShapes shapes blocks
  pub parts : payload ≡ bytes_of_blocks blocks
