-- When an open instant closes, and the row that it closes to.
use Rattle.std.specs.Prelude.{if◌then◌else◌, ◌+◌, ◌==◌, ◌||◌, ◌∷◌, [], false}
use Rattle.pdc_life.specs.Names.{BlockView, Bool, CellView, filter, filter_map, is_some, List, list_all, map, nat_le, None, not, Option, option_map, quality_of, RowView, SectionFields, Some, time_quality_of, true, ℕ}
use Rattle.pdc_row.specs.Chosen.{block_or_absent, first_of, present_of}
use Rattle.pdc_life.specs.Given.{Given, columns_of, streams_of}
use Rattle.pdc_life.specs.Life.{Entry, age_of, cell_of, changes, open_instants, section_in_force, take_of}
use Rattle.pdc_life.specs.declared.timing.WaitKind.{WaitKind}
use Rattle.pdc_life.specs.declared.timing.WaitKind.TheVariants.{Relative, Absolute}

-- An instant waits for a stream: with one lane where its column has a section in force, with two always.
abbrev pub is_required : Given → List Entry → ℕ → Bool
is_required g E s = if g.lanes == 1 then is_some (section_in_force g E s) else true

abbrev pub is_not_awaited : Given → List Entry → ℕ → ℕ → Bool
is_not_awaited g E i s = not (is_required g E s) || is_some (take_of g E s i)

-- The wait of an instant is over, at this age or at this now. A relative wait counts ticks, an absolute one instants.
abbrev pub is_over : WaitKind → (wait age now i : ℕ) → Bool
is_over Relative wait age now i = nat_le wait age
is_over Absolute wait age now i = nat_le (i + wait) now

-- At a tick after E an instant is due where each stream that it waits for has come, or its wait is over, this tick counted.
abbrev pub is_due : Given → List Entry → (now i : ℕ) → Bool
is_due g E now i = list_all (is_not_awaited g E i) (streams_of g) || is_over g.wait_kind g.wait (age_of E i + 1) now i

-- An open instant is whole where each stream that it waits for has come.
abbrev pub is_whole_at : Given → List Entry → ℕ → Bool
is_whole_at g E i = list_all (is_not_awaited g E i) (streams_of g)

-- the first of these instants is whole; where there is none, nothing is
abbrev pub is_first_whole : Given → List Entry → List ℕ → Bool
is_first_whole g E [] = false
is_first_whole g E (i ∷ is) = is_whole_at g E i

-- The lowest open instant is whole: the open ones rise.
abbrev pub is_whole : Given → List Entry → Bool
is_whole g E = is_first_whole g E (open_instants g E)

-- The instants that close at the tick: the open ones for which every open one up to them is due.
abbrev pub closing : Given → List Entry → (now : ℕ) → List ℕ
closing g E now =
    filter (λ i. list_all (λ j. not (nat_le j i) || is_due g E now j) (open_instants g E)) (open_instants g E)

-- what the lanes of a column hold; with one lane each column has its own stream
abbrev pub first_cell : Given → List Entry → (c i : ℕ) → Option CellView
first_cell g E c i = cell_of E (if g.lanes == 1 then c else 0) c i

abbrev pub second_cell : Given → List Entry → (c i : ℕ) → Option CellView
second_cell g E c i = if g.lanes == 1 then None else cell_of E 1 c i

-- The cell of the lowest lane whose block is present.
abbrev pub chosen_of : Given → List Entry → (c i : ℕ) → Option CellView
chosen_of g E c i = first_of (present_of (first_cell g E c i)) (present_of (second_cell g E c i))

-- the block of a column under the section in force: the chosen one, else the absent one; none without a section
abbrev pub block_in : Option SectionFields → Option CellView → Option BlockView
block_in None chosen = None
block_in (Some s) chosen = Some (block_or_absent s.shape chosen)

-- the time quality that it gives
abbrev pub quality_in : Option SectionFields → Option CellView → Option ℕ
quality_in None chosen = None
quality_in (Some s) chosen = option_map time_quality_of chosen

-- The row of an instant, under the sections in force and the stamp before the tick.
abbrev pub row_of : Given → List Entry → ℕ → RowView
row_of g E i = record {
  start = g.start;
  change = changes E;
  instant = i;
  quality = quality_of (filter_map (λ c. quality_in (section_in_force g E c) (chosen_of g E c i)) (columns_of g));
  blocks = filter_map (λ c. block_in (section_in_force g E c) (chosen_of g E c i)) (columns_of g);
}

-- The rows that close at the tick, in rising order.
abbrev pub rows_of : Given → List Entry → (now : ℕ) → List RowView
rows_of g E now = map (row_of g E) (closing g E now)
