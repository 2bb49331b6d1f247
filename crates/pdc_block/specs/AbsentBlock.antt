-- The block that stands for a PMU whose data did not come.
use Rattle.std.specs.Prelude.{◌≡◌, ◌≢◌, ℕ, ◌*◌, List, ◌∷◌, ◌++◌, replicate}
use Rattle.pdc_cfg.specs.declared.shape.Shape.{Shape}
use Rattle.pdc_block.specs.declared.block.Block.{Block}
use Rattle.pdc_block.specs.Block.{words_of}

-- The words of the absent block of a shape, in wire order: STAT A1F0; 8000, which stands for no value, for both words
-- of each phasor, FREQ, DFREQ and each analog value; 0000 for each digital word. One phasor: A1F0 8000 8000 8000 8000.
abbrev pub absent_of : Shape → List ℕ
absent_of shape =
    0xA1F0 ∷ replicate (2 * shape.phasors) 0x8000 ++ (0x8000 ∷ 0x8000 ∷ replicate shape.analogs 0x8000)
    ++ replicate shape.digitals 0

-- The block has exactly the absent words of its shape, whoever sent it.
abbrev pub IsAbsent : Block → Type 0
IsAbsent block = words_of block ≡ absent_of block.shape

-- Any other block is present.
abbrev pub IsPresent : Block → Type 0
IsPresent block = words_of block ≢ absent_of block.shape
