-- The frames of a life.
use Rattle.pdc_row.specs.Laws.{words_of_row}
use Rattle.std.specs.Prelude.{◌<◌, ◌^◌, ◌∷◌, ◌≡◌, ◌≤◌}
use Rattle.pdc_life.specs.Lives.{AllByRecursion, changes, closed, Entry, Given, IsCut, IsFrame, IsLayout, IsRun, IsTicked, layout_fields_of, layout_payload_of, List, map, MAX_PMUS, own_block, row_fields, row_payload, RowView, SectionFields, Shape, wire_of, ℕ}
use Rattle.pdc_life.specs.Laws.{IsRowOfTick}
use Rattle.pdc_life.specs.Published.{layout_wire, sections_in_force}

-- At most 4294967295 ticks of a life adopt.
abbrev pub ChangesFit : Type 0
ChangesFit = (g : Given) (E : List Entry) → IsTicked g E → changes E < 2 ^ 32

-- the shapes of the sections in force, in the order of the columns
abbrev pub shapes_in_force : Given → List Entry → List Shape
shapes_in_force g E = map (λ (s : SectionFields). s.shape) (sections_in_force g E)

-- The row closed at a tick of the life; its wire is a frame, whose payload is cut, under the own shape and the shapes in force
-- before that tick, into the own words and the row's.
pub record IsFramedRow (g : Given) (E : List Entry) (row : RowView) : Type 0 where
  pub of_tick : IsRowOfTick g E row
  pub frame : IsFrame (wire_of g.output row) (row_fields g.output row)
  pub cut : (own : Shape) → own.phasors ≡ 0 → own.analogs ≡ 0 → own.digitals ≡ 4 →
      IsCut (own ∷ shapes_in_force g of_tick.before) (row_payload row) (own_block g.start (changes of_tick.before) ∷ words_of_row row)

abbrev pub ClosedRowsAreFrames : Type 0
ClosedRowsAreFrames =
    (g : Given) (E : List Entry) → IsRun g E → g.columns ≤ MAX_PMUS → g.start < 2 ^ 32 → AllByRecursion (IsFramedRow g E) (closed E)

-- The layout of every life, of any second, is a frame, whose payload is a configuration with the own section first.
abbrev pub LayoutsOfLivesAreFrames : Type 0
LayoutsOfLivesAreFrames =
    (g : Given) (E : List Entry) (soc : ℕ) → IsRun g E → g.columns ≤ MAX_PMUS → soc < 2 ^ 32 →
    IsFrame (layout_wire g E soc) (layout_fields_of g.output g.start (changes E) (sections_in_force g E) soc)
    × IsLayout g.output g.start (changes E) (sections_in_force g E) (layout_payload_of g.output g.start (changes E) (sections_in_force g E))

-- The layouts of two lives that have the same wire have one stamp, and the same sections: the wire tells them.
abbrev pub LayoutsTellStamps : Type 0
LayoutsTellStamps =
    (g h : Given) (E F : List Entry) (soc other : ℕ) → IsRun g E → IsRun h F → g.columns ≤ MAX_PMUS → h.columns ≤ MAX_PMUS →
    soc < 2 ^ 32 → other < 2 ^ 32 → g.start < 2 ^ 32 → h.start < 2 ^ 32 → layout_wire g E soc ≡ layout_wire h F other →
    (g.start ≡ h.start) × (changes E ≡ changes F) × (sections_in_force g E ≡ sections_in_force h F)
