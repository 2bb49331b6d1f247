-- The instants of a life's rows can be tagged.
use Rattle.std.specs.Prelude.{◌*◌, ◌<◌, ◌∷◌}
use Rattle.pdc_life.specs.Lives.{AllByRecursion, AreBelow, closed, Entry, Given, IsRun, List, Pop, popped, row_instants, RowView, Some, waiting}

-- Each row's instant lies in a second that SOC can name, which has 32 bits (C37.118.2-2011, 6.2, table 2): there are
-- 4294967296 seconds, of as many instants each as the rate.
abbrev pub HaveTags : Given → List RowView → Type 0
HaveTags g rows = AllByRecursion (λ n. n < 4294967296 * g.output.rate) (row_instants rows)

-- In every life it is so of the rows that closed, of those that wait and of those that were popped.
abbrev pub RowsHaveTags : Type 0
RowsHaveTags = (g : Given) (E : List Entry) → IsRun g E → HaveTags g (closed E) × HaveTags g (waiting E) × HaveTags g (popped E)

-- The next row to be popped is above the floor and above all that were popped before, and its instant can be tagged.
abbrev pub NextIsAbove : Type 0
NextIsAbove =
    (g : Given) (E : List Entry) (row : RowView) → IsRun g (Pop (Some row) ∷ E) →
    (g.floor < row.instant) × AreBelow row.instant (row_instants (popped E)) × (row.instant < 4294967296 * g.output.rate)
