-- What the table of a concentrator contains after a life: a function of the life.
use Rattle.std.specs.Prelude.{ℕ, ◌-◌, ◌==◌, true, List, [], ◌∷◌, map, nat_le, if◌then◌else◌, Option, None, Some, is_some, option_map}
use Rattle.pdc_arrival.specs.pdc_cfg.Section.{SectionFields}
use Rattle.pdc_arrival.specs.pdc_cfg.declared.shape.Shape.{Shape}
use Rattle.pdc_table.specs.Closing.{counter}
use Rattle.pdc_table.specs.Content.{Content}
use Rattle.pdc_table.specs.pdc_columns.Layout.{LayoutView}
use Rattle.pdc_table.specs.Steps.{after_drop_column, after_drop_stream, after_require}
use Rattle.pdc_table.specs.pdc_columns.Views.{ColumnView}
use Rattle.pdc_table.specs.pdc_open_row.Views.{OpenRowView}
use Rattle.pdc_table.specs.pdc_open_row.declared.wait_rule.WaitRule.{WaitRule}
use Rattle.pdc_table.specs.pdc_open_row.declared.wait_rule.WaitRule.TheVariants.{Ticks, Until}
use Rattle.pdc_arrival.specs.pdc_life.Given.{Given, columns_of, streams_of}
use Rattle.pdc_arrival.specs.pdc_life.Life.{Entry, age_of, changes, last_of, open_instants, section_in_force, take_of, waiting}
use Rattle.pdc_arrival.specs.pdc_life.Row.{first_cell, is_required, second_cell}
use Rattle.pdc_arrival.specs.pdc_life.declared.timing.WaitKind.{WaitKind}
use Rattle.pdc_arrival.specs.pdc_life.declared.timing.WaitKind.TheVariants.{Absolute, Relative}

-- what a column holds at the instant
abbrev pub column_of : Given → List Entry → (i c : ℕ) → ColumnView
column_of g E i c = record { first = first_cell g E c i; second = second_cell g E c i }

-- the open instant i
abbrev pub open_row_of : Given → List Entry → (i : ℕ) → OpenRowView
open_row_of g E i = record {
  instant = i;
  age = counter (age_of E i);
  taken = map (λ s. is_some (take_of g E s i)) (streams_of g);
  columns = map (column_of g E i) (columns_of g);
}

-- What the table contains after E.
abbrev pub content_of : Given → List Entry → Content
content_of g E = record {
  window = g.window;
  columns = g.columns;
  lanes = g.lanes;
  required = map (is_required g E) (streams_of g);
  open_rows = map (open_row_of g E) (open_instants g E);
  closed = waiting E;
  last = last_of g E;
}

-- The rule that a concentrator hands to its table at a tick: its wait in ticks, or the instant that lies the wait below now.
abbrev pub rule_of : WaitKind → (wait now : ℕ) → WaitRule
rule_of Relative wait now = Ticks wait
rule_of Absolute wait now = Until (if nat_le wait now then Some (now - wait) else None)

-- the layout that it hands to its table: the stamp, and the shapes in force
abbrev pub shape_in : Option SectionFields → Option Shape
shape_in s = option_map (λ (t : SectionFields). t.shape) s

abbrev pub row_layout_of : Given → List Entry → LayoutView
row_layout_of g E = record {
  start = g.start;
  change = changes E;
  shapes = map (λ c. shape_in (section_in_force g E c)) (columns_of g);
}

-- What it does to its table where it adopts columns, one after the other: with one lane the column's stream is waited for, and
-- what was taken of it is dropped; with two the cells of the column are.
abbrev pub after_adoption : Content → (column : ℕ) → Content
after_adoption c column =
    if c.lanes == 1 then after_drop_stream (after_require c column true) column else after_drop_column c column

abbrev pub after_adoptions : Content → List ℕ → Content
after_adoptions c [] = c
after_adoptions c (column ∷ columns) = after_adoptions (after_adoption c column) columns
