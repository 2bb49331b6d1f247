-- What holds of every life: rows, change numbers and counts.
use Rattle.std.specs.Prelude.{if◌then◌else◌, ◌++◌, ◌+◌, ◌∷◌, ◌≡◌, ◌≤◌}
use Rattle.pdc_life.specs.Lives.{AllByRecursion, changes, cleared_count, closed, closing, Contains, CoreKind, count_for, Entry, Given, is_adoption, is_due, IsLifeOf, IsRun, IsTicked, List, open_instants, popped, Rises, row_instants, row_of, RowView, section_in_force, SectionFields, Some, Tick, TickAnswer, true, waiting, ℕ}

-- The premises of what node and merger have in common: ticks and pops are answered as in every life; and what was taken is sound.
abbrev pub LivesAreRuns : Type 0
LivesAreRuns = (kind : CoreKind) (g : Given) (E : List Entry) → IsLifeOf kind g E → IsRun g E

-- In every life the instants of the rows that closed rise strictly, and lie above the floor.
abbrev pub RowsRise : Type 0
RowsRise = (g : Given) (E : List Entry) → IsTicked g E → Rises g.floor (row_instants (closed E))

-- Each row that closed was popped or waits, in the order of closing.
abbrev pub RowsComeOutOnce : Type 0
RowsComeOutOnce = (g : Given) (E : List Entry) → IsTicked g E → closed E ≡ popped E ++ waiting E

-- The row closed at a tick of the life, and is the row of its instant in the life before that tick: start, change, quality and
-- every block.
pub record IsRowOfTick (g : Given) (E : List Entry) (row : RowView) : Type 0 where
  pub later : List Entry
  pub before : List Entry
  pub now : ℕ
  pub counts : List ℕ
  pub answer : TickAnswer
  pub stands : E ≡ later ++ Tick now counts answer ∷ before
  pub among : Contains answer.rows row
  pub closes : Contains (closing g before now) row.instant
  pub same : row ≡ row_of g before row.instant

abbrev pub RowsAreOfTheirTicks : Type 0
RowsAreOfTheirTicks = (g : Given) (E : List Entry) → IsTicked g E → AllByRecursion (IsRowOfTick g E) (closed E)

-- A step changes the change number only where it is a tick that adopts, and then by one.
abbrev pub ChangesRiseByOne : Type 0
ChangesRiseByOne = (E : List Entry) (e : Entry) → changes (e ∷ E) ≡ (if is_adoption e then changes E + 1 else changes E)

abbrev pub ChangesNeverFall : Type 0
ChangesNeverFall = (E F : List Entry) → changes E ≤ changes (F ++ E)

-- While one change number stands, nothing in force changes.
abbrev pub SameChangeSameSections : Type 0
SameChangeSameSections =
    (g : Given) (E F : List Entry) → changes (F ++ E) ≡ changes E → (c : ℕ) → section_in_force g (F ++ E) c ≡ section_in_force g E c

-- What is in force is cleared, and not below the opening count. So over marks that keep the cleared counts no life adopts a count
-- below one that an earlier life adopted.
abbrev pub InForceIsCleared : Type 0
InForceIsCleared =
    (g : Given) (E : List Entry) (c : ℕ) (s : SectionFields) → IsTicked g E → section_in_force g E c ≡ Some s →
    (count_for c g.counts ≤ s.count) × (s.count ≤ cleared_count g E c)

-- No instant closes while an open one below it is not due.
abbrev pub NoneOvertakes : Type 0
NoneOvertakes =
    (g : Given) (E : List Entry) (now : ℕ) →
    AllByRecursion (λ i. AllByRecursion (λ j. j ≤ i → is_due g E now j ≡ true) (open_instants g E)) (closing g E now)
