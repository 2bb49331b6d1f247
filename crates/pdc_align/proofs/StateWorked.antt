-- What the tables of a node and of the merger contain, worked out step by step. What arrives is given as read.
use Rattle.std.specs.Prelude.{◌≡◌, ℕ, ◌+◌, Bool, true, false, List, [], ◌∷◌, ◌++◌, replicate, None, Some, refl}
use Rattle.std.proofs.Common.{arith}
use Rattle.pdc_arrival.specs.pdc_block.Block.{bytes_of_words}
use Rattle.pdc_arrival.specs.pdc_cfg.declared.shape.Shape.{Shape}
use Rattle.pdc_arrival.specs.pdc_cfg.Section.{SectionFields}
use Rattle.pdc_arrival.specs.pdc_row.declared.output.Output.{Output}
use Rattle.pdc_arrival.specs.pdc_row.declared.output.Nominal.TheVariants.{Hz50}
use Rattle.pdc_arrival.specs.pdc_row.Layout.{own_block}
use Rattle.pdc_arrival.specs.pdc_row.CellView.{BlockView, CellView}
use Rattle.pdc_arrival.specs.pdc_row.RowView.{RowView}
use Rattle.pdc_table.specs.Content.{Content}
use Rattle.pdc_table.specs.pdc_columns.Views.{ColumnView, empty_column}
use Rattle.pdc_table.specs.pdc_open_row.Views.{OpenRowView}
use Rattle.pdc_arrival.specs.pdc_life.declared.timing.WaitKind.TheVariants.{Relative}
use Rattle.pdc_arrival.specs.pdc_life.declared.outcome.Outcome.{Outcome}
use Rattle.pdc_arrival.specs.pdc_life.declared.outcome.Outcome.TheVariants.{Candidate, Refused, Taken}
use Rattle.pdc_arrival.specs.pdc_life.declared.outcome.Refusal.TheVariants.{Conflict, Duplicate}
use Rattle.pdc_arrival.specs.pdc_life.Answer.{ReadStep, ToArrive, ToPop, ToTick, life_from}
use Rattle.pdc_arrival.specs.pdc_life.Arrival.{Data, Layout}
use Rattle.pdc_arrival.specs.pdc_life.Given.{Given}
use Rattle.pdc_arrival.specs.pdc_life.Life.{Arrive, Entry}
use Rattle.pdc_arrival.specs.pdc_life.Merger.{merged_answer}
use Rattle.pdc_arrival.specs.pdc_life.Node.{node_answer}
use Rattle.pdc_align.specs.State.{content_of}

-- a block of three words: STAT, FREQ and DFREQ
abbrev shape : Shape
shape = record { phasors = 0; analogs = 0; digitals = 0; phasors_fit = omega arith; analogs_fit = omega arith; digitals_fit = omega arith }

-- the section of a PMU under this count; its bytes are looked at only where two have one count
abbrev section : (source count : ℕ) → SectionFields
section source count = record { bytes = source ∷ count ∷ []; shape = shape; source = source; count = count; polar = false }

abbrev output : Output
output = record {
  id = record { value = 201; low = omega arith; high = omega arith };
  rate = 50;
  nominal = Hz50;
  time_base = 1000000;
  rate_low = omega arith;
  rate_high = omega arith;
  time_base_low = omega arith;
  time_base_high = omega arith;
}

-- two columns, a wait of 2 ticks, a window of 8; the floor is 100, and so is now
abbrev given : (lanes : ℕ) → Given
given lanes = record {
  output = output;
  wait = 2;
  wait_kind = Relative;
  window = 8;
  ahead = 32;
  columns = 2;
  lanes = lanes;
  start = 1;
  floor = 100;
  counts = replicate 16 0;
  opening = 100;
}

abbrev all : List ℕ
all = replicate 16 65535

-- a tick, which clears all counts
abbrev tick : ReadStep
tick = ToTick 100 all

-- the cell of a block with this FREQ
abbrev cell : ℕ → CellView
cell freq = record { block = record { shape = shape; words = 0 ∷ freq ∷ 0 ∷ [] }; quality = 0 }

abbrev words : ℕ → List ℕ
words freq = 0 ∷ freq ∷ 0 ∷ []

abbrev in_first : ℕ → ColumnView
in_first freq = record { first = Some (cell freq); second = None }

abbrev in_second : ℕ → ColumnView
in_second freq = record { first = None; second = Some (cell freq) }

-- the answers to what arrived, the newest first
abbrev answers : List Entry → List Outcome
answers [] = []
answers (Arrive s bytes arrival answer ∷ E) = answer.outcome ∷ answers E
answers (e ∷ E) = answers E

-- ---- a node

abbrev node_given : Given
node_given = given 1

abbrev layout : (p count : ℕ) → ReadStep
layout p count = ToArrive p [] (Layout None ((p, section (11 + p) count) ∷ []))

abbrev data_of : (p instant freq : ℕ) → ReadStep
data_of p instant freq = ToArrive p [] (Data instant 0 (bytes_of_words (words freq)))

-- both PMUs are in force
abbrev node_begun : List Entry
node_begun = life_from node_answer node_given [] (layout 0 1 ∷ layout 1 1 ∷ tick ∷ [])

abbrev node_content : (required : List Bool) → List OpenRowView → List RowView → (last : ℕ) → Content
node_content required open_rows closed last = record {
  window = 8;
  columns = 2;
  lanes = 1;
  required = required;
  open_rows = open_rows;
  closed = closed;
  last = last;
}

abbrev both_required : List Bool
both_required = true ∷ true ∷ []

-- Before the first tick no instant waits for a PMU; after it each waits for both.
node_waits_for_none : content_of node_given [] ≡ node_content (false ∷ false ∷ []) [] [] 100
node_waits_for_none = refl

node_waits_for_both : content_of node_given node_begun ≡ node_content both_required [] [] 100
node_waits_for_both = refl

-- the first PMU is there, for 101
abbrev one_there : (age : ℕ) → OpenRowView
one_there age = record { instant = 101; age = age; taken = true ∷ false ∷ []; columns = in_first 7 ∷ empty_column ∷ [] }

abbrev node_one : List Entry
node_one = life_from node_answer node_given node_begun (data_of 0 101 7 ∷ [])

node_takes : content_of node_given node_one ≡ node_content both_required (one_there 0 ∷ []) [] 100
node_takes = refl

-- The same again is a duplicate, and other words are a conflict: both leave the table as it was.
abbrev node_again : List Entry
node_again = life_from node_answer node_given node_one (data_of 0 101 7 ∷ data_of 0 101 8 ∷ [])

node_keeps : content_of node_given node_again ≡ node_content both_required (one_there 0 ∷ []) [] 100
node_keeps = refl

node_refuses : answers node_again ≡ Refused Conflict ∷ Refused Duplicate ∷ Taken ∷ Candidate ∷ Candidate ∷ []
node_refuses = refl

-- A later instant stands behind it, one in between goes between them, and the ticks make them older.
abbrev later : (instant age freq : ℕ) → OpenRowView
later instant age freq = record { instant = instant; age = age; taken = false ∷ true ∷ []; columns = empty_column ∷ in_first freq ∷ [] }

node_places : content_of node_given (life_from node_answer node_given node_one (data_of 1 105 9 ∷ tick ∷ data_of 1 103 8 ∷ []))
    ≡ node_content both_required (one_there 1 ∷ later 103 0 8 ∷ later 105 1 9 ∷ []) [] 100
node_places = refl

-- The second PMU is there too: the next tick closes the instant, and a pop takes its row out.
abbrev node_both : List Entry
node_both = life_from node_answer node_given node_one (data_of 1 101 8 ∷ [])

node_takes_both : content_of node_given node_both
    ≡ node_content both_required (record { instant = 101; age = 0; taken = true ∷ true ∷ []; columns = in_first 7 ∷ in_first 8 ∷ [] } ∷ []) [] 100
node_takes_both = refl

abbrev blocks : List ℕ → List ℕ → List BlockView
blocks first second = record { shape = shape; words = first } ∷ record { shape = shape; words = second } ∷ []

abbrev row_101 : RowView
row_101 = record { instant = 101; start = 1; change = 1; quality = 0; blocks = blocks (words 7) (words 8) }

node_closes : content_of node_given (life_from node_answer node_given node_both (tick ∷ [])) ≡ node_content both_required [] (row_101 ∷ []) 101
node_closes = refl

node_pops : content_of node_given (life_from node_answer node_given node_both (tick ∷ ToPop ∷ [])) ≡ node_content both_required [] [] 101
node_pops = refl

-- A raised count of the first PMU is adopted at the tick: what was taken of it is dropped, and its instant stays open. It may be
-- taken again.
abbrev node_raised : List Entry
node_raised = life_from node_answer node_given node_one (layout 0 2 ∷ tick ∷ [])

node_drops : content_of node_given node_raised
    ≡ node_content both_required (record { instant = 101; age = 1; taken = false ∷ false ∷ []; columns = empty_column ∷ empty_column ∷ [] } ∷ []) [] 100
node_drops = refl

node_takes_again : content_of node_given (life_from node_answer node_given node_raised (data_of 0 101 6 ∷ []))
    ≡ node_content both_required (record { instant = 101; age = 1; taken = true ∷ false ∷ []; columns = in_first 6 ∷ empty_column ∷ [] } ∷ []) [] 100
node_takes_again = refl

-- ---- the merger

abbrev merger_given : Given
merger_given = given 2

abbrev layout_of : (s change count : ℕ) → ReadStep
layout_of s change count = ToArrive s [] (Layout (Some (record { start = 1; change = change })) ((0, section 11 count) ∷ (1, section 12 1) ∷ []))

abbrev merged_data : (s change instant first second : ℕ) → ReadStep
merged_data s change instant first second = ToArrive s [] (Data instant 0 (bytes_of_words (own_block 1 change ++ (words first ++ words second))))

abbrev merger_begun : List Entry
merger_begun = life_from merged_answer merger_given [] (layout_of 0 1 1 ∷ layout_of 1 1 1 ∷ tick ∷ [])

abbrev merger_content : List OpenRowView → List RowView → (last : ℕ) → Content
merger_content open_rows closed last = record {
  window = 8;
  columns = 2;
  lanes = 2;
  required = both_required;
  open_rows = open_rows;
  closed = closed;
  last = last;
}

-- It waits for both nodes from the start.
merger_waits_for_both : content_of merger_given [] ≡ merger_content [] [] 100
merger_waits_for_both = refl

-- Node B comes first: its cells stand in the second lane.
abbrev merger_one : List Entry
merger_one = life_from merged_answer merger_given merger_begun (merged_data 1 1 101 7 8 ∷ [])

merger_takes : content_of merger_given merger_one
    ≡ merger_content (record { instant = 101; age = 0; taken = false ∷ true ∷ []; columns = in_second 7 ∷ in_second 8 ∷ [] } ∷ []) [] 100
merger_takes = refl

merger_keeps : content_of merger_given (life_from merged_answer merger_given merger_one (merged_data 1 1 101 7 8 ∷ []))
    ≡ merger_content (record { instant = 101; age = 0; taken = false ∷ true ∷ []; columns = in_second 7 ∷ in_second 8 ∷ [] } ∷ []) [] 100
merger_keeps = refl

-- A raised count of the first PMU, adopted from A's layout: the cells of that column are dropped, and B stays taken. Then A comes.
abbrev merger_raised : List Entry
merger_raised = life_from merged_answer merger_given merger_one (layout_of 0 2 2 ∷ tick ∷ [])

merger_drops : content_of merger_given merger_raised
    ≡ merger_content (record { instant = 101; age = 1; taken = false ∷ true ∷ []; columns = empty_column ∷ in_second 8 ∷ [] } ∷ []) [] 100
merger_drops = refl

abbrev merger_both : List Entry
merger_both = life_from merged_answer merger_given merger_raised (merged_data 0 2 101 5 9 ∷ [])

merger_takes_both : content_of merger_given merger_both
    ≡ merger_content (record { instant = 101; age = 1; taken = true ∷ true ∷ []; columns = in_first 5 ∷ record { first = Some (cell 9); second = Some (cell 8) } ∷ [] } ∷ []) [] 100
merger_takes_both = refl

-- The row has the cells of the first lane.
abbrev merged_row : RowView
merged_row = record { instant = 101; start = 1; change = 2; quality = 0; blocks = blocks (words 5) (words 9) }

merger_closes : content_of merger_given (life_from merged_answer merger_given merger_both (tick ∷ [])) ≡ merger_content [] (merged_row ∷ []) 101
merger_closes = refl

merger_pops : content_of merger_given (life_from merged_answer merger_given merger_both (tick ∷ ToPop ∷ [])) ≡ merger_content [] [] 101
merger_pops = refl
