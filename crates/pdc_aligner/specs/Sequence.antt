-- What is put, and its instants.
use Rattle.std.specs.Prelude.{◌≡◌, ℕ, ◌+◌, ◌<◌, ◌≤◌, List, [], ◌∷◌, ◌++◌, length, OnOk, Result}
use Rattle.pdc_hub.specs.declared.fault.HubFault.{HubFault}
use Rattle.pdc_row.specs.declared.output.Output.{Output}
use Rattle.pdc_publisher.specs.PublishedRow.{row_of}
use Rattle.pdc_publisher.specs.declared.published_row.PublishedRow.{PublishedRow}
use Rattle.pdc_row.specs.RowView.{RowView}
use Rattle.pdc_pipe.specs.declared.message.Message.{Message}
use Rattle.pdc_pipe.specs.declared.message.Message.TheVariants.{Data, Layout, End}

-- the instants of the data frames, in order
abbrev pub instants_of : List Message → List ℕ
instants_of [] = []
instants_of (Data row ∷ ms) = (row_of row).instant ∷ instants_of ms
instants_of (Layout frame ∷ ms) = instants_of ms
instants_of (End ∷ ms) = instants_of ms

-- the numbers strictly rise, lie above the first and at most at the last
abbrev pub Rises : ℕ → List ℕ → ℕ → Type 0
Rises low [] high = low ≤ high
Rises low (n ∷ ns) high = (low < n) × Rises n ns high

-- Instants of what was put before that rose to the first number are, with those put since, ones that rise to the last.
abbrev pub RisesOn : (before : List Message) (first : ℕ) (after : List Message) (last : ℕ) → Type 0
RisesOn before first after last = (low : ℕ) → Rises low (instants_of before) first → Rises low (instants_of after) last

-- From the first number of rows on so many more were popped, each of which was put as a data frame behind what was there, but one at most,
-- which was lost; where it is Ok, none was.
pub record HasPutAll {A : Type 0} (first popped : ℕ) (before put : List Message) (result : Result A HubFault) : Type 0 where
  pub lost : ℕ
  pub all : popped + length (instants_of before) ≡ first + length (instants_of put) + lost
  pub one_at_most : lost ≤ 1
  pub whole : OnOk result (lost ≡ 0)

-- This row was put behind what was there, published with this output: what goes out is its data frame.
pub record HasPutRow (output : Output) (row : RowView) (before put : List Message) : Type 0 where
  pub frame : PublishedRow
  pub said : frame.output ≡ output
  pub itself : row_of frame ≡ row
  pub behind : put ≡ before ++ Data frame ∷ []
