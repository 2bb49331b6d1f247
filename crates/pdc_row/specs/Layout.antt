-- What a concentrator says of itself, and the frames that it publishes (the own section and the own block: this profile; the
-- frames: IEEE C37.118.2-2011, 6.3 and 6.4).
use Rattle.std.specs.Prelude.{◌≡◌, ℕ, ◌*◌, ◌/◌, ◌%◌, ◌^◌, ◌+◌, List, [], ◌∷◌, ◌++◌, length, replicate}
use Rattle.std.specs.Int.{w16, w32, to_be_bytes, cast_unsigned}
use Rattle.std.specs.List.{flat_map}
use Rattle.pdc_row.specs.pdc_frame.Frame.{Fields, header_of, spelling_of}
use Rattle.pdc_row.specs.pdc_frame.declared.frame.Kind.TheVariants.{DataFrame, Cfg2}
use Rattle.pdc_row.specs.pdc_cfg.Section.{SectionFields}
use Rattle.pdc_row.specs.pdc_cfg.Config.{ConfigFields, IsConfig, bytes_of_sections}
use Rattle.pdc_row.specs.pdc_block.Block.{bytes_of_words}
use Rattle.pdc_row.specs.CellView.{BlockView}
use Rattle.pdc_row.specs.pdc_frame.Tag.{tag_of}
use Rattle.pdc_row.specs.declared.output.Output.{Output}
use Rattle.pdc_row.specs.declared.output.Nominal.{Nominal}
use Rattle.pdc_row.specs.declared.output.Nominal.TheVariants.{Hz50, Hz60}
use Rattle.pdc_row.specs.RowView.{RowView}

-- The stamp of a layout, as four words: the start number and the change number, each the high word first.
abbrev pub stamp_words : ℕ → ℕ → List ℕ
stamp_words start change = start / 2 ^ 16 ∷ start % 2 ^ 16 ∷ change / 2 ^ 16 ∷ change % 2 ^ 16 ∷ []

-- The own block: STAT 0, FREQ 0, DFREQ 0, and the stamp as digital words.
abbrev pub own_block : ℕ → ℕ → List ℕ
own_block start change = 0 ∷ 0 ∷ 0 ∷ stamp_words start change

abbrev pub digit : ℕ → ℕ
digit n = 48 + n % 10

-- STN: "PDC ", the id with five digits, and spaces
abbrev pub own_name : ℕ → List ℕ
own_name id =
    80 ∷ 68 ∷ 67 ∷ 32 ∷ digit (id / 10000) ∷ digit (id / 1000) ∷ digit (id / 100) ∷ digit (id / 10) ∷ digit id ∷ replicate 7 32

-- FNOM: 1 for 50 Hz
abbrev pub nominal_word : Nominal → ℕ
nominal_word Hz50 = 1
nominal_word Hz60 = 0

-- a digital word's masks: its normal status is the word, and each bit is valid
abbrev pub masks_of : ℕ → List ℕ
masks_of word = to_be_bytes w16 word ++ to_be_bytes w16 0xFFFF

-- STN, IDCODE, FORMAT, no phasors, no analog values, four digital words with 64 names of spaces, their masks, FNOM, CFGCNT:
-- 1070 bytes
abbrev pub own_bytes : (id : ℕ) → Nominal → (start change : ℕ) → List ℕ
own_bytes id nominal start change =
    own_name id ++ to_be_bytes w16 id ++ to_be_bytes w16 0 ++ to_be_bytes w16 0 ++ to_be_bytes w16 0
    ++ to_be_bytes w16 4 ++ replicate (64 * 16) 32 ++ flat_map masks_of (stamp_words start change)
    ++ to_be_bytes w16 (nominal_word nominal) ++ to_be_bytes w16 (change % 2 ^ 16)

-- the bytes of the data frame's payload: the own block, then the blocks of the row
abbrev pub row_payload : RowView → List ℕ
row_payload row = bytes_of_words (own_block row.start row.change) ++ flat_map (λ (b : BlockView). bytes_of_words b.words) row.blocks

-- The frame of a row: its instant as a tag, its time quality, the own block and the blocks.
abbrev pub row_fields : Output → RowView → Fields
row_fields output row = record {
  kind = DataFrame;
  version = 2;
  id = output.id.value;
  soc = (tag_of row.instant output.time_base output.rate).0;
  quality = row.quality;
  frac = (tag_of row.instant output.time_base output.rate).1;
  payload = row_payload row;
}

-- what stands in front of the blocks in it: the fields before the payload, and the own block
abbrev pub front_of_row : Output → RowView → List ℕ
front_of_row output row = header_of (row_fields output row) (length (row_payload row) + 16) ++ bytes_of_words (own_block row.start row.change)

-- The bytes of a row on the wire.
abbrev pub wire_of : Output → RowView → List ℕ
wire_of output row = spelling_of (row_fields output row)

-- TIME_BASE, NUM_PMU, the own section and those in force, DATA_RATE
abbrev pub layout_payload_of : Output → (start change : ℕ) → List SectionFields → List ℕ
layout_payload_of output start change sections =
    to_be_bytes w32 output.time_base ++ to_be_bytes w16 (1 + length sections) ++ own_bytes output.id.value output.nominal start change
    ++ bytes_of_sections sections ++ to_be_bytes w16 output.rate

-- The payload is a configuration, with the TIME_BASE and the rate that go out: the own section, and then those in force.
pub record IsLayout (output : Output) (start change : ℕ) (in_force : List SectionFields) (payload : List ℕ) : Type 0 where
  pub config : ConfigFields
  pub own : SectionFields
  pub spelled : IsConfig payload config
  pub itself : own.bytes ≡ own_bytes output.id.value output.nominal start change
  pub sections : config.sections ≡ own ∷ in_force
  pub time_base : config.time_base ≡ output.time_base
  pub rate : cast_unsigned w16 config.rate ≡ output.rate

-- The frame of a layout: a CFG-2 frame with time quality 0 and count 0.
abbrev pub layout_fields_of : Output → (start change : ℕ) → List SectionFields → (soc : ℕ) → Fields
layout_fields_of output start change sections soc = record {
  kind = Cfg2;
  version = 2;
  id = output.id.value;
  soc = soc;
  quality = 0;
  frac = 0;
  payload = layout_payload_of output start change sections;
}

-- The bytes of a layout on the wire.
abbrev pub layout_wire_of : Output → (start change : ℕ) → List SectionFields → (soc : ℕ) → List ℕ
layout_wire_of output start change sections soc = spelling_of (layout_fields_of output start change sections soc)
