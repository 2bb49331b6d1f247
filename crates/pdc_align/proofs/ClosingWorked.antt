-- What the table of a concentrator contains, worked out at a life of a node and one of the merger. What arrives is given as read: no
-- bytes stand beside it.
use Rattle.std.specs.Prelude.{◌≡◌, ℕ, List, [], ◌∷◌, ◌++◌, Option, None, Some, true, false, refl}
use Rattle.std.proofs.Common.{arith}
use Rattle.pdc_arrival.specs.pdc_cfg.Section.{SectionFields}
use Rattle.pdc_arrival.specs.pdc_cfg.declared.shape.Shape.{Shape}
use Rattle.pdc_arrival.specs.pdc_row.declared.output.Output.{Output}
use Rattle.pdc_arrival.specs.pdc_row.declared.output.Nominal.TheVariants.{Hz50}
use Rattle.pdc_arrival.specs.pdc_row.CellView.{BlockView, CellView}
use Rattle.pdc_arrival.specs.pdc_row.RowView.{RowView}
use Rattle.pdc_table.specs.Content.{Content}
use Rattle.pdc_table.specs.pdc_columns.Views.{ColumnView}
use Rattle.pdc_table.specs.pdc_open_row.Views.{OpenRowView}
use Rattle.pdc_arrival.specs.pdc_life.declared.timing.WaitKind.{WaitKind}
use Rattle.pdc_arrival.specs.pdc_life.declared.timing.WaitKind.TheVariants.{Absolute, Relative}
use Rattle.pdc_arrival.specs.pdc_life.Answer.{ReadStep, ToArrive, ToTick, ToPop, life_from}
use Rattle.pdc_arrival.specs.pdc_life.Arrival.{Data, Layout}
use Rattle.pdc_arrival.specs.pdc_life.Given.{Given}
use Rattle.pdc_arrival.specs.pdc_life.Life.{Entry}
use Rattle.pdc_arrival.specs.pdc_life.Merger.{merged_answer}
use Rattle.pdc_arrival.specs.pdc_life.Node.{node_answer}
use Rattle.pdc_align.specs.State.{content_of}

-- ---- what is given, and what arrives

abbrev output : Output
output = record {
  id = record { value = 201; low = omega arith; high = omega arith };
  rate = 50;
  nominal = Hz50;
  time_base = 1000000;
  rate_low = omega arith;
  rate_high = omega arith;
  time_base_low = omega arith;
  time_base_high = omega arith;
}

-- two columns; a wait of 2, a window of 8; start number 5, floor 10
abbrev given : WaitKind → (lanes : ℕ) → Given
given kind lanes = record {
  output = output;
  wait = 2;
  wait_kind = kind;
  window = 8;
  ahead = 100;
  columns = 2;
  lanes = lanes;
  start = 5;
  floor = 10;
  counts = 0 ∷ 0 ∷ [];
  opening = 10;
}

-- blocks of 3 words in column 0, and of 4 in column 1
abbrev three : Shape
three = record { phasors = 0; analogs = 0; digitals = 0; phasors_fit = omega arith; analogs_fit = omega arith; digitals_fit = omega arith }

abbrev four : Shape
four = record { phasors = 0; analogs = 0; digitals = 1; phasors_fit = omega arith; analogs_fit = omega arith; digitals_fit = omega arith }

-- the section of column 0 under a count, and that of column 1 under count 1
abbrev section : ℕ → SectionFields
section count = record { bytes = count ∷ []; shape = three; source = 11; count = count; polar = false }

abbrev other_section : SectionFields
other_section = record { bytes = []; shape = four; source = 12; count = 1; polar = false }

-- the words 0, n and 0 for column 0; 0, 1, 2 and n for column 1; and the bytes that write them
abbrev bytes_three : ℕ → List ℕ
bytes_three n = 0 ∷ 0 ∷ 0 ∷ n ∷ 0 ∷ 0 ∷ []

abbrev bytes_four : ℕ → List ℕ
bytes_four n = 0 ∷ 0 ∷ 0 ∷ 1 ∷ 0 ∷ 2 ∷ 0 ∷ n ∷ []

abbrev block_three : ℕ → BlockView
block_three n = record { shape = three; words = 0 ∷ n ∷ 0 ∷ [] }

abbrev block_four : ℕ → BlockView
block_four n = record { shape = four; words = 0 ∷ 1 ∷ 2 ∷ n ∷ [] }

abbrev cell : BlockView → (quality : ℕ) → Option CellView
cell block quality = Some (record { block = block; quality = quality })

-- the absent blocks
abbrev absent_three : BlockView
absent_three = record { shape = three; words = 0xA1F0 ∷ 0x8000 ∷ 0x8000 ∷ [] }

abbrev absent_four : BlockView
absent_four = record { shape = four; words = 0xA1F0 ∷ 0x8000 ∷ 0x8000 ∷ 0 ∷ [] }

abbrev column : (first second : Option CellView) → ColumnView
column first second = record { first = first; second = second }

abbrev nothing : ColumnView
nothing = column None None

-- a tick that clears up to count 9
abbrev tick_at : ℕ → ReadStep
tick_at now = ToTick now (9 ∷ 9 ∷ [])

-- ---- a node

abbrev node : Given
node = given Relative 1

abbrev layout_0 : ℕ → ReadStep
layout_0 count = ToArrive 0 [] (Layout None ((0, section count) ∷ []))

abbrev layout_1 : ReadStep
layout_1 = ToArrive 1 [] (Layout None ((1, other_section) ∷ []))

abbrev data_0 : (instant quality n : ℕ) → ReadStep
data_0 instant quality n = ToArrive 0 [] (Data instant quality (bytes_three n))

abbrev data_1 : (instant quality n : ℕ) → ReadStep
data_1 instant quality n = ToArrive 1 [] (Data instant quality (bytes_four n))

abbrev after : Given → List Entry → List ReadStep → List Entry
after = life_from node_answer

abbrev begun : Given → List Entry
begun g = after g [] (layout_0 1 ∷ layout_1 ∷ tick_at 10 ∷ [])

-- both are adopted, and then waited for
both_are_waited_for : content_of node (begun node) ≡ record { window = 8; columns = 2; lanes = 1; required = true ∷ true ∷ []; open_rows = []; closed = []; last = 10 }
both_are_waited_for = refl

-- 11 has data of column 0, 12 of both; then count 2 of column 0 comes
abbrev come : List Entry
come = after node (begun node) (data_0 11 3 100 ∷ data_0 12 1 101 ∷ data_1 12 4 7 ∷ layout_0 2 ∷ [])

what_came : content_of node come ≡ record {
  window = 8;
  columns = 2;
  lanes = 1;
  required = true ∷ true ∷ [];
  open_rows =
      record { instant = 11; age = 0; taken = true ∷ false ∷ []; columns = column (cell (block_three 100) 3) None ∷ nothing ∷ [] }
      ∷ record { instant = 12; age = 0; taken = true ∷ true ∷ []; columns = column (cell (block_three 101) 1) None ∷ column (cell (block_four 7) 4) None ∷ [] } ∷ [];
  closed = [];
  last = 10;
}
what_came = refl

-- 11 holds 12 back: the tick closes nothing, and drops what was taken of column 0
abbrev adopted : List Entry
adopted = after node come (tick_at 11 ∷ [])

a_tick_that_adopts : content_of node adopted ≡ record {
  window = 8;
  columns = 2;
  lanes = 1;
  required = true ∷ true ∷ [];
  open_rows =
      record { instant = 11; age = 1; taken = false ∷ false ∷ []; columns = nothing ∷ nothing ∷ [] }
      ∷ record { instant = 12; age = 1; taken = false ∷ true ∷ []; columns = nothing ∷ column (cell (block_four 7) 4) None ∷ [] } ∷ [];
  closed = [];
  last = 10;
}
a_tick_that_adopts = refl

-- data of column 0 for 11 and 13; the wait of 11 and of 12 is over, and 13 stays
abbrev shut : List Entry
shut = after node adopted (data_0 11 5 102 ∷ data_0 13 2 103 ∷ tick_at 12 ∷ [])

abbrev row_11 : RowView
row_11 = record { instant = 11; start = 5; change = 2; quality = 5; blocks = block_three 102 ∷ absent_four ∷ [] }

abbrev row_12 : RowView
row_12 = record { instant = 12; start = 5; change = 2; quality = 4; blocks = absent_three ∷ block_four 7 ∷ [] }

abbrev with_13 : List RowView → Content
with_13 rows = record {
  window = 8;
  columns = 2;
  lanes = 1;
  required = true ∷ true ∷ [];
  open_rows = record { instant = 13; age = 1; taken = true ∷ false ∷ []; columns = column (cell (block_three 103) 2) None ∷ nothing ∷ [] } ∷ [];
  closed = rows;
  last = 12;
}

a_tick_that_closes : content_of node shut ≡ with_13 (row_11 ∷ row_12 ∷ [])
a_tick_that_closes = refl

a_pop : content_of node (after node shut (ToPop ∷ [])) ≡ with_13 (row_12 ∷ [])
a_pop = refl

-- An absolute wait of 2: at now 13 that of 11 is over, and that of 12 is not.
abbrev by_now : Given
by_now = given Absolute 1

a_limit : content_of by_now (after by_now (begun by_now) (data_0 11 3 100 ∷ data_0 12 1 101 ∷ tick_at 13 ∷ [])) ≡ record {
  window = 8;
  columns = 2;
  lanes = 1;
  required = true ∷ true ∷ [];
  open_rows = record { instant = 12; age = 1; taken = true ∷ false ∷ []; columns = column (cell (block_three 101) 1) None ∷ nothing ∷ [] } ∷ [];
  closed = record { instant = 11; start = 5; change = 1; quality = 3; blocks = block_three 100 ∷ absent_four ∷ [] } ∷ [];
  last = 11;
}
a_limit = refl

-- ---- the merger

abbrev merger : Given
merger = given Relative 2

-- a layout of a node: the stamp of start 1 and this change, and count of column 0
abbrev layout_of : (s change count : ℕ) → ReadStep
layout_of s change count =
    ToArrive s [] (Layout (Some (record { start = 1; change = change })) ((0, section count) ∷ (1, other_section) ∷ []))

-- data of a node under that stamp
abbrev data_of : (s change instant quality n m : ℕ) → ReadStep
data_of s change instant quality n m =
    ToArrive s [] (Data instant quality (0 ∷ 0 ∷ 0 ∷ 0 ∷ 0 ∷ 0 ∷ 0 ∷ 0 ∷ 0 ∷ 1 ∷ 0 ∷ 0 ∷ 0 ∷ change ∷ bytes_three n ++ bytes_four m))

abbrev merged : List Entry → List ReadStep → List Entry
merged = life_from merged_answer merger

-- from the start both nodes are waited for
waits_for_both : content_of merger [] ≡ record { window = 8; columns = 2; lanes = 2; required = true ∷ true ∷ []; open_rows = []; closed = []; last = 10 }
waits_for_both = refl

-- A has data for 11 when count 2 of column 0 comes from B: the tick drops the cell of column 0, and A stays taken
abbrev dropped : List Entry
dropped = merged [] (layout_of 0 1 1 ∷ layout_of 1 1 1 ∷ tick_at 10 ∷ data_of 0 1 11 3 100 7 ∷ layout_of 1 2 2 ∷ tick_at 11 ∷ [])

abbrev merging : List OpenRowView → List RowView → (last : ℕ) → Content
merging rows closed last = record { window = 8; columns = 2; lanes = 2; required = true ∷ true ∷ []; open_rows = rows; closed = closed; last = last }

a_tick_that_drops_cells : content_of merger dropped ≡ merging (record { instant = 11; age = 1; taken = true ∷ false ∷ []; columns = nothing ∷ column (cell (block_four 7) 3) None ∷ [] } ∷ []) [] 10
a_tick_that_drops_cells = refl

-- then B's data comes, and the tick closes 11
abbrev joined : List Entry
joined = merged dropped (data_of 1 2 11 6 104 8 ∷ [])

both_lanes : content_of merger joined ≡ merging (record { instant = 11; age = 1; taken = true ∷ true ∷ []; columns = column None (cell (block_three 104) 6) ∷ column (cell (block_four 7) 3) (cell (block_four 8) 6) ∷ [] } ∷ []) [] 10
both_lanes = refl

closes_with_both : content_of merger (merged joined (tick_at 12 ∷ [])) ≡ merging [] (record { instant = 11; start = 5; change = 2; quality = 6; blocks = block_three 104 ∷ block_four 7 ∷ [] } ∷ []) 11
closes_with_both = refl

and_is_popped : content_of merger (merged joined (tick_at 12 ∷ ToPop ∷ [])) ≡ merging [] [] 11
and_is_popped = refl
