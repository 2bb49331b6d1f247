-- The rows that close are those of the life, and the cells that the table holds have the shapes in force.
use Rattle.std.proofs.Common.{◌≡◌, ℕ, ◌+◌, ◌-◌, ◌^◌, ◌<◌, ◌≤◌, Bool, true, false, not, ◌||◌, ◌&&◌, cond, leb, List, [], ◌∷◌, ◌++◌, map, filter, refl, sym, ap, ◌∙◌, arith, inl, inr, Option, Some, None}
use Rattle.std.specs.Prelude.{nat_le, is_some}
use Rattle.std.specs.List.{AllByRecursion, cons_option, filter_map, list_all}
use Rattle.std.specs.Option.{option_to_list}
use Rattle.std.proofs.lemmas.Bool.{cases_lt, le-leb, lt-leb}
use Rattle.pdc_arrival.specs.pdc_cfg.Section.{SectionFields}
use Rattle.pdc_arrival.specs.pdc_cfg.declared.shape.Shape.{Shape}
use Rattle.pdc_arrival.specs.pdc_row.CellView.{BlockView, CellView}
use Rattle.pdc_arrival.specs.pdc_row.Quality.{quality_of}
use Rattle.pdc_arrival.specs.pdc_row.RowView.{RowView}
use Rattle.pdc_table.specs.pdc_columns.Chosen.{chosen_of}
use Rattle.pdc_table.specs.Closing.{aged, counter, closing, staying}
use Rattle.pdc_table.specs.pdc_open_row.Due.{all_taken}
use Rattle.pdc_table.specs.Closing as table
use Rattle.pdc_table.specs.pdc_open_row.Due as waiting
use Rattle.pdc_table.specs.Content.{ColumnHasShape, HasShape, HaveShapes}
use Rattle.pdc_table.specs.pdc_columns.Giving.{blocks_at, blocks_of, qualities_at, qualities_of}
use Rattle.pdc_table.specs.pdc_open_row.Row as closed
use Rattle.pdc_table.specs.Steps.{closing_of, is_first_whole, staying_of, whole_answer}
use Rattle.pdc_table.specs.pdc_columns.Views.{ColumnView}
use Rattle.pdc_table.specs.pdc_open_row.Views.{OpenRowView}
use Rattle.pdc_table.specs.pdc_open_row.declared.wait_rule.WaitRule.{WaitRule}
use Rattle.pdc_arrival.specs.pdc_life.declared.timing.WaitKind.{WaitKind}
use Rattle.pdc_arrival.specs.pdc_life.declared.timing.WaitKind.TheVariants.{Absolute, Relative}
use Rattle.pdc_arrival.specs.pdc_life.Cells.{CellsAreOfSections}
use Rattle.pdc_arrival.specs.pdc_life.Given.{Given, columns_of, streams_of}
use Rattle.pdc_arrival.specs.pdc_life.Life.{Entry, age_of, cell_of, changes, open_instants, section_in_force, take_of}
use Rattle.pdc_arrival.specs.pdc_life.Row.{block_in, first_cell, is_due, is_not_awaited, is_over, is_required, quality_in, row_of, rows_of, second_cell}
use Rattle.pdc_arrival.specs.pdc_life.Row as life
use Rattle.pdc_arrival.specs.pdc_life.Run.{IsOfSectionInForce, IsRun}
use Rattle.pdc_align.specs.Follows.{CellsHaveShapes, RowsAreThose}
use Rattle.pdc_align.specs.State.{column_of, content_of, open_row_of, row_layout_of, rule_of, shape_in}
use Rattle.pdc_align.proofs.Front.{closes}
use Rattle.pdc_align.proofs.Lists.{filter_map_is, map_same, map_twice}

-- ---- cells have shapes

module _ (law : CellsAreOfSections) where
  has_shape : (g : Given) (E : List Entry) (s n i : ℕ) (section : SectionFields) → IsRun g E → section_in_force g E n ≡ Some section → (cell : Option CellView) → cell_of E s n i ≡ cell → HasShape section.shape cell
  has_shape g E s n i section run e None h = tt
  has_shape g E s n i section run e (Some cell) h =
      let r : IsOfSectionInForce g E (n, cell) = law g E s n i cell run h in
      let same : r.section ≡ section = cc (r.in_force, e) in
      r.shape ∙ ap (λ (t : SectionFields). t.shape) same

  either_shape : (b : Bool) (shape : Shape) (cell : Option CellView) → HasShape shape cell → HasShape shape (cond b None cell)
  either_shape true shape cell h = tt
  either_shape false shape cell h = h

  column_has_shape : (g : Given) (E : List Entry) (n i : ℕ) → IsRun g E → (o : Option SectionFields) → section_in_force g E n ≡ o → ColumnHasShape (shape_in o) (column_of g E i n)
  column_has_shape g E n i run None e = tt
  column_has_shape g E n i run (Some section) e = (
    has_shape g E _ n i section run e (first_cell g E n i) refl,
    either_shape _ section.shape (cell_of E 1 n i) (has_shape g E 1 n i section run e (cell_of E 1 n i) refl),
  )

  columns_have_shapes : (g : Given) (E : List Entry) (i : ℕ) → IsRun g E → (ns : List ℕ) → HaveShapes (map (λ n. shape_in (section_in_force g E n)) ns) (map (column_of g E i) ns)
  columns_have_shapes g E i run [] = tt
  columns_have_shapes g E i run (n ∷ ns) = (column_has_shape g E n i run (section_in_force g E n) refl, columns_have_shapes g E i run ns)

  rows_have_shapes : (g : Given) (E : List Entry) → IsRun g E → (is : List ℕ) → AllByRecursion (λ (row : OpenRowView). HaveShapes (map (λ n. shape_in (section_in_force g E n)) (columns_of g)) row.columns) (map (open_row_of g E) is)
  rows_have_shapes g E run [] = tt
  rows_have_shapes g E run (i ∷ is) = (columns_have_shapes g E i run (columns_of g), rows_have_shapes g E run is)

  pub cells_have_shapes : CellsHaveShapes
  cells_have_shapes g E run = rows_have_shapes g E run (open_instants g E)

-- ---- an open instant closes to its row

-- the blocks, and the qualities, that columns give one after the other
block_at : (s : Option SectionFields) (column : ColumnView) → blocks_at (shape_in s) column ≡ option_to_list (block_in s (chosen_of column))
block_at None column = refl
block_at (Some s) column = refl

quality_at : (s : Option SectionFields) (column : ColumnView) → qualities_at (shape_in s) column ≡ option_to_list (quality_in s (chosen_of column))
quality_at None column = refl
quality_at (Some s) column = refl

cons_is : {Y : Type 0} (o : Option Y) (ys : List Y) → cons_option o ys ≡ option_to_list o ++ ys
cons_is None ys = refl
cons_is (Some y) ys = refl

blocks_same : (f : ℕ → Option SectionFields) (column : ℕ → ColumnView) (ns : List ℕ) → blocks_of (map (λ n. shape_in (f n)) ns) (map column ns) ≡ filter_map (λ n. block_in (f n) (chosen_of (column n))) ns
blocks_same f column [] = refl
blocks_same f column (n ∷ ns) =
    ap (λ bs. bs ++ blocks_of (map (λ m. shape_in (f m)) ns) (map column ns)) (block_at (f n) (column n))
    ∙ ap (λ bs. option_to_list (block_in (f n) (chosen_of (column n))) ++ bs) (blocks_same f column ns)
    ∙ sym (cons_is (block_in (f n) (chosen_of (column n))) (filter_map (λ m. block_in (f m) (chosen_of (column m))) ns))

qualities_same : (f : ℕ → Option SectionFields) (column : ℕ → ColumnView) (ns : List ℕ) → qualities_of (map (λ n. shape_in (f n)) ns) (map column ns) ≡ filter_map (λ n. quality_in (f n) (chosen_of (column n))) ns
qualities_same f column [] = refl
qualities_same f column (n ∷ ns) =
    ap (λ qs. qs ++ qualities_of (map (λ m. shape_in (f m)) ns) (map column ns)) (quality_at (f n) (column n))
    ∙ ap (λ qs. option_to_list (quality_in (f n) (chosen_of (column n))) ++ qs) (qualities_same f column ns)
    ∙ sym (cons_is (quality_in (f n) (chosen_of (column n))) (filter_map (λ m. quality_in (f m) (chosen_of (column m))) ns))

row_with : Given → List Entry → ℕ → ℕ → List BlockView → RowView
row_with g E i quality blocks = record { start = g.start; change = changes E; instant = i; quality = quality; blocks = blocks }

pub row_is_row : (g : Given) (E : List Entry) (i : ℕ) → closed.row_of (row_layout_of g E) (aged (open_row_of g E i)) ≡ row_of g E i
unfolding row_with
row_is_row g E i =
    ap (λ bs. row_with g E i (quality_of (qualities_of (map (λ n. shape_in (section_in_force g E n)) (columns_of g)) (map (column_of g E i) (columns_of g)))) bs)
    (blocks_same (section_in_force g E) (column_of g E i) (columns_of g))
    ∙ ap (λ qs. row_with g E i (quality_of qs) (filter_map (λ n. block_in (section_in_force g E n) (chosen_of (column_of g E i n))) (columns_of g)))
    (qualities_same (section_in_force g E) (column_of g E i) (columns_of g))

-- ---- an open instant is due in the table where it is in the life

all_taken_is : (required taken : ℕ → Bool) (ss : List ℕ) → all_taken (map required ss) (map taken ss) ≡ list_all (λ s. not (required s) || taken s) ss
all_taken_is required taken [] = refl
all_taken_is required taken (s ∷ ss) = ap (λ b. (not (required s) || taken s) && b) (all_taken_is required taken ss)

same_limit : (i wait now : ℕ) → wait ≤ now → leb i (now - wait) ≡ leb (i + wait) now
same_limit i wait now h = elim (cases_lt (now - wait) i) [
  | inl l ↦ lt-leb i (now - wait) l ∙ sym (lt-leb (i + wait) now (omega (arith, h, l)))
  | inr m ↦ le-leb i (now - wait) m ∙ sym (le-leb (i + wait) now (omega (arith, h, m)))
]

-- a counter passes a wait that it can count
same_age : (wait ticks : ℕ) → wait < 2 ^ 64 → leb wait (counter (counter ticks + 1)) ≡ leb wait (ticks + 1)
same_age wait ticks h = elim (cases_lt (ticks + 1) wait) [
  | inl l ↦ lt-leb wait (counter (counter ticks + 1)) (omega (arith, h, l)) ∙ sym (lt-leb wait (ticks + 1) l)
  | inr m ↦ le-leb wait (counter (counter ticks + 1)) (omega (arith, h, m)) ∙ sym (le-leb wait (ticks + 1) m)
]

pub over_same : (kind : WaitKind) (wait ticks now i : ℕ) → wait < 2 ^ 64 → waiting.is_over (rule_of kind wait now) (counter (counter ticks + 1)) i ≡ is_over kind wait (ticks + 1) now i
over_same Relative wait ticks now i h = same_age wait ticks h
over_same Absolute wait ticks now i h = elim (cases_lt now wait) [
  | inl l ↦ (let e : leb wait now ≡ false = lt-leb wait now l in rw e (sym (lt-leb (i + wait) now (omega (arith, l)))))
  | inr m ↦ (let e : leb wait now ≡ true = le-leb wait now m in rw e (same_limit i wait now m))
]

due_same : (g : Given) (E : List Entry) (now i : ℕ) → g.wait < 2 ^ 64 → waiting.is_due (map (is_required g E) (streams_of g)) (rule_of g.wait_kind g.wait now) (aged (open_row_of g E i)) ≡ is_due g E now i
due_same g E now i h =
    ap (λ b. b || waiting.is_over (rule_of g.wait_kind g.wait now) (counter (counter (age_of E i) + 1)) i) (all_taken_is (is_required g E) (λ s. is_some (take_of g E s i)) (streams_of g))
    ∙ ap (λ b. list_all (is_not_awaited g E i) (streams_of g) || b) (over_same g.wait_kind g.wait (age_of E i) now i h)

-- ---- the same close and stay

closes_same : (required : List Bool) (rule : WaitRule) (due : ℕ → Bool) (f : ℕ → OpenRowView) (i : ℕ) → ((j : ℕ) → waiting.is_due required rule (f j) ≡ due j) → ((j : ℕ) → (f j).instant ≡ j) → (is : List ℕ) → list_all (λ (r : OpenRowView). not (nat_le r.instant i) || waiting.is_due required rule r) (map f is) ≡ closes due is i
closes_same required rule due f i h e [] = refl
closes_same required rule due f i h e (j ∷ js) =
    ap (λ b. (not (nat_le (f j).instant i) || b) && list_all (λ (r : OpenRowView). not (nat_le r.instant i) || waiting.is_due required rule r) (map f js)) (h j)
    ∙ ap (λ n. (not (nat_le n i) || due j) && list_all (λ (r : OpenRowView). not (nat_le r.instant i) || waiting.is_due required rule r) (map f js)) (e j)
    ∙ ap (λ b. (not (nat_le j i) || due j) && b) (closes_same required rule due f i h e js)

-- the open instant with this tick counted
abbrev pub aged_row_of : Given → List Entry → ℕ → OpenRowView
aged_row_of g E i = aged (open_row_of g E i)

abbrev layout_rule : Given → ℕ → WaitRule
layout_rule g now = rule_of g.wait_kind g.wait now

abbrev required_by : Given → List Entry → List Bool
required_by g E = map (is_required g E) (streams_of g)

first_whole_same : (g : Given) (E : List Entry) (is : List ℕ) → is_first_whole (required_by g E) (map (open_row_of g E) is) ≡ life.is_first_whole g E is
first_whole_same g E [] = refl
first_whole_same g E (i ∷ is) = all_taken_is (is_required g E) (λ s. is_some (take_of g E s i)) (streams_of g)

-- the lowest open instant is whole in the table where it is in the life
pub whole_is : (g : Given) (E : List Entry) → whole_answer (content_of g E) ≡ life.is_whole g E
whole_is g E = first_whole_same g E (open_instants g E)

closes_is : (g : Given) (E : List Entry) (now i : ℕ) → g.wait < 2 ^ 64 → table.closes (required_by g E) (layout_rule g now) (map (aged_row_of g E) (open_instants g E)) (aged_row_of g E i) ≡ closes (is_due g E now) (open_instants g E) i
closes_is g E now i h = closes_same (required_by g E) (layout_rule g now) (is_due g E now) (aged_row_of g E) i (λ j. due_same g E now j h) (λ j. refl) (open_instants g E)

pub closing_is : (g : Given) (E : List Entry) (now : ℕ) → g.wait < 2 ^ 64 → closing_of (content_of g E) (rule_of g.wait_kind g.wait now) ≡ map (aged_row_of g E) (life.closing g E now)
closing_is g E now h =
    ap (λ rows. closing (required_by g E) (layout_rule g now) rows) (map_twice aged (open_row_of g E) (open_instants g E))
    ∙ filter_map_is (table.closes (required_by g E) (layout_rule g now) (map (aged_row_of g E) (open_instants g E))) (closes (is_due g E now) (open_instants g E)) (aged_row_of g E)
    (λ i. closes_is g E now i h) (open_instants g E)

pub staying_is : (g : Given) (E : List Entry) (now : ℕ) → g.wait < 2 ^ 64 → staying_of (content_of g E) (rule_of g.wait_kind g.wait now) ≡ map (aged_row_of g E) (filter (λ i. not (closes (is_due g E now) (open_instants g E) i)) (open_instants g E))
staying_is g E now h =
    ap (λ rows. staying (required_by g E) (layout_rule g now) rows) (map_twice aged (open_row_of g E) (open_instants g E))
    ∙ filter_map_is (λ row. not (table.closes (required_by g E) (layout_rule g now) (map (aged_row_of g E) (open_instants g E)) row)) (λ i. not (closes (is_due g E now) (open_instants g E) i)) (aged_row_of g E)
    (λ i. ap not (closes_is g E now i h)) (open_instants g E)

pub rows_are_those : RowsAreThose
rows_are_those g E now h =
    ap (λ rows. map (closed.row_of (row_layout_of g E)) rows) (closing_is g E now h)
    ∙ map_twice (closed.row_of (row_layout_of g E)) (aged_row_of g E) (life.closing g E now)
    ∙ map_same (λ i. closed.row_of (row_layout_of g E) (aged_row_of g E i)) (row_of g E) (row_is_row g E) (life.closing g E now)
