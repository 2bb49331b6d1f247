-- What holds of the frames that go out.
use Rattle.std.specs.Prelude.{◌≡◌, ℕ, ◌*◌, ◌^◌, ◌<◌, ◌≤◌, List, ◌∷◌, length, map}
use Rattle.std.specs.List.{AllByRecursion}
use Rattle.pdc_row.specs.pdc_frame.Frame.{IsFrame}
use Rattle.pdc_row.specs.pdc_cfg.Section.{SectionFields, IsSection}
use Rattle.pdc_row.specs.pdc_cfg.declared.shape.Shape.{Shape}
use Rattle.pdc_row.specs.pdc_block.Block.{AreOfShapes, IsCut}
use Rattle.pdc_row.specs.CellView.{BlockView}
use Rattle.pdc_row.specs.RowView.{RowView}
use Rattle.pdc_row.specs.pdc_frame.declared.tag_limits.TheConstants.{SECONDS}
use Rattle.pdc_row.specs.declared.output.Output.{Output}
use Rattle.pdc_row.specs.declared.output.Nominal.{Nominal}
use Rattle.pdc_row.specs.Layout.{IsLayout, layout_fields_of, layout_payload_of, layout_wire_of, own_block, own_bytes, row_fields, row_payload, wire_of}
use Rattle.pdc_row.specs.declared.limits.TheConstants.{MAX_PMUS}

-- the words of the blocks of a row
abbrev pub words_of_row : RowView → List (List ℕ)
words_of_row row = map (λ (b : BlockView). b.words) row.blocks

-- The payload of a row whose blocks are of these shapes is cut, under the own shape and these, into the own words and the row's.
abbrev pub RowsAreCut : Type 0
RowsAreCut =
    (row : RowView) (own : Shape) (shapes : List Shape) → own.phasors ≡ 0 → own.analogs ≡ 0 → own.digitals ≡ 4 →
    row.start < 2 ^ 32 → row.change < 2 ^ 32 → AreOfShapes shapes (words_of_row row) →
    IsCut (own ∷ shapes) (row_payload row) (own_block row.start row.change ∷ words_of_row row)

-- The wire of such a row, of at most 16 blocks, is a frame.
abbrev pub RowsAreFrames : Type 0
RowsAreFrames =
    (output : Output) (row : RowView) (shapes : List Shape) → length shapes ≤ MAX_PMUS → AreOfShapes shapes (words_of_row row) →
    row.instant < SECONDS * output.rate → row.quality < 2 ^ 8 → IsFrame (wire_of output row) (row_fields output row)

-- The wire of a layout of at most 16 sections is a frame, whose payload is the layout.
abbrev pub LayoutsAreFrames : Type 0
LayoutsAreFrames =
    (output : Output) (start change soc : ℕ) (sections : List SectionFields) → length sections ≤ MAX_PMUS → AllByRecursion IsSection sections → soc < 2 ^ 32 →
    IsFrame (layout_wire_of output start change sections soc) (layout_fields_of output start change sections soc)
    × IsLayout output start change sections (layout_payload_of output start change sections)

-- Own sections tell their stamps.
abbrev pub OwnSectionsTellStamps : Type 0
OwnSectionsTellStamps =
    (id other : ℕ) (m n : Nominal) (start change start' change' : ℕ) → start < 2 ^ 32 → change < 2 ^ 32 → start' < 2 ^ 32 → change' < 2 ^ 32 →
    own_bytes id m start change ≡ own_bytes other n start' change' → (start ≡ start') × (change ≡ change')
