-- Where the blocks of a row come from, and that what was taken is shown.
use Rattle.std.specs.Prelude.{◌++◌, ◌<◌, ◌∷◌, ◌≡◌, ◌⊎◌}
use Rattle.pdc_life.specs.Lives.{[], absent_view, AllByRecursion, Answer, Arrive, block_in, BlockView, cell_of, CellView, chosen_of, closed, columns_of, Contains, CoreKind, Data, Entry, filter_map, Given, is_present, IsLifeOf, IsRun, IsTicked, List, OfMerger, OfNode, Option, option_map, popped, row_of, RowView, section_in_force, SectionFields, Some, Taken, true, waiting, ℕ}
use Rattle.pdc_life.specs.Laws.{IsRowOfTick}

-- Data of the stream for the instant was taken in the life, and gave the cell for the column. What was in force of the column then
-- is in force still.
pub record HasGiven (g : Given) (E : List Entry) (s c i : ℕ) (cell : CellView) : Type 0 where
  pub later : List Entry
  pub earlier : List Entry
  pub bytes : List ℕ
  pub quality : ℕ
  pub payload : List ℕ
  pub answer : Answer
  pub stands : E ≡ later ++ Arrive s bytes (Data i quality payload) answer ∷ earlier
  pub taken : answer.outcome ≡ Taken
  pub among : Contains answer.cells (c, cell)
  pub in_force : section_in_force g earlier c ≡ section_in_force g E c

-- A cell was given by data that was taken since its column was adopted.
abbrev pub CellsWereGiven : Type 0
CellsWereGiven = (g : Given) (E : List Entry) (s c i : ℕ) (cell : CellView) → cell_of E s c i ≡ Some cell → HasGiven g E s c i cell

-- The block is that of a cell that was given for the column.
pub record HasBrought (g : Given) (E : List Entry) (c i : ℕ) (s : SectionFields) (b : BlockView) : Type 0 where
  pub stream : ℕ
  pub cell : CellView
  pub given : HasGiven g E stream c i cell
  pub in_force : section_in_force g E c ≡ Some s
  pub block : cell.block ≡ b

-- The block is the absent one of the section's shape, or was brought.
abbrev pub IsGenuine : Given → List Entry → (c i : ℕ) → SectionFields → BlockView → Type 0
IsGenuine g E c i s b = (b ≡ absent_view s.shape) ⊎ HasBrought g E c i s b

-- In every life the block that a column has for an instant is genuine.
abbrev pub BlocksAreGenuine : Type 0
BlocksAreGenuine =
    (g : Given) (E : List Entry) (c i : ℕ) (s : SectionFields) (b : BlockView) → section_in_force g E c ≡ Some s →
    block_in (section_in_force g E c) (chosen_of g E c i) ≡ Some b → IsGenuine g E c i s b

-- the columns that have a section in force, each with it, in their order
abbrev pub with_section : Given → List Entry → ℕ → Option (ℕ × SectionFields)
with_section g E c = option_map (λ (s : SectionFields). (c, s)) (section_in_force g E c)

abbrev pub columns_in_force : Given → List Entry → List (ℕ × SectionFields)
columns_in_force g E = filter_map (with_section g E) (columns_of g)

-- The blocks are genuine ones of these columns: one for each, in their order.
abbrev pub AreGenuine : Given → List Entry → (i : ℕ) → List (ℕ × SectionFields) → List BlockView → Type 0
AreGenuine g E i [] [] = Unit {0}
AreGenuine g E i (part ∷ parts) (b ∷ blocks) = IsGenuine g E part.0 i part.1 b × AreGenuine g E i parts blocks
AreGenuine g E i _ _ = ⊥

-- The row closed at a tick of the life, and its blocks are genuine in the life before that tick, one for each column that had a
-- section in force then.
pub record IsGenuineRow (g : Given) (E : List Entry) (r : RowView) : Type 0 where
  pub of_tick : IsRowOfTick g E r
  pub blocks : AreGenuine g of_tick.before r.instant (columns_in_force g of_tick.before) r.blocks

-- In every life the blocks of each row are genuine: of those that closed, that wait and that were popped.
abbrev pub RowsAreGenuine : Type 0
RowsAreGenuine =
    (g : Given) (E : List Entry) → IsTicked g E →
    AllByRecursion (IsGenuineRow g E) (closed E) × AllByRecursion (IsGenuineRow g E) (waiting E) × AllByRecursion (IsGenuineRow g E) (popped E)

-- What was taken since its column was adopted, and is present, is shown in the row: the chosen cell is, and one is chosen where a
-- cell is present, that of the lowest lane.
abbrev pub ChosenIsShown : Type 0
ChosenIsShown =
    (g : Given) (E : List Entry) (c i : ℕ) (cell : CellView) → IsRun g E → c < g.columns → chosen_of g E c i ≡ Some cell →
    Contains (row_of g E i).blocks cell.block

-- the stream of the lowest lane: at a node the column's own, at the merger that of A
abbrev pub first_lane : CoreKind → (c : ℕ) → ℕ
first_lane (OfNode settings) c = c
first_lane (OfMerger settings) c = 0

abbrev pub TakenIsShown : Type 0
TakenIsShown =
    (kind : CoreKind) (g : Given) (E : List Entry) (c i : ℕ) (cell : CellView) → IsLifeOf kind g E → c < g.columns →
    cell_of E (first_lane kind c) c i ≡ Some cell → is_present cell.block ≡ true → Contains (row_of g E i).blocks cell.block
