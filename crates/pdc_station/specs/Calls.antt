-- Calls of a core and of the publisher of its mark, one after the other, and the bytes that the publishes append.
use Rattle.std.specs.{List.{concat, Contains}, Prelude.{[], ◌++◌, ◌<◌, ◌∷◌, ◌≡◌, List, map, None, Option, Some, ℕ}}
use Rattle.pdc_row.specs.{Rising.{Rises}, RowView.{row_instants, RowView}}
use Rattle.pdc_row.specs.Layout.{wire_of}
use Rattle.pdc_life.specs.{Answer.{answered, pop_answer, Rules, ToArrive, ToPop, ToTick}, Arrival.{Arrival}, Given.{Given}, Life.{Entry, popped}, Published.{published}}

-- Something arrived, or ticked; a pop gave no row; a row was popped and its publish answered Ok; a row was popped and its publish
-- answered an error. The publisher's other calls append nothing.
pub data Call : Type 0 where
  Arrived : (stream : ℕ) (bytes : List ℕ) (arrival : Arrival) → Call
  Ticked : (now : ℕ) (counts : List ℕ) → Call
  Empty : Call
  Sent : (row : RowView) → Call
  Lost : (row : RowView) → Call

-- What both tell between two calls: a life that the core stands for, the greatest instant that it popped, and the bytes appended.
pub record Told : Type 0 where
  pub life : List Entry
  pub popped : ℕ
  pub bytes : List ℕ

-- A row was popped: the one that the life gives, above all that were popped before.
pub record HasPopped (rules : Rules) (g : Given) (row : RowView) (old new : Told) : Type 0 where
  pub given : pop_answer old.life ≡ Some row
  pub above : old.popped < row.instant
  pub life : new.life ≡ answered rules g old.life ToPop ∷ old.life
  pub popped : new.popped ≡ row.instant

-- What a call makes of it, as the contracts of both say.
abbrev pub Makes : Rules → Given → Call → (old new : Told) → Type 0
Makes rules g (Arrived s bytes arrival) old new =
    (new.life ≡ answered rules g old.life (ToArrive s bytes arrival) ∷ old.life) × (new.popped ≡ old.popped) × (new.bytes ≡ old.bytes)
Makes rules g (Ticked now counts) old new =
    (new.life ≡ answered rules g old.life (ToTick now counts) ∷ old.life) × (new.popped ≡ old.popped) × (new.bytes ≡ old.bytes)
Makes rules g Empty old new =
    (pop_answer old.life ≡ None) × (new.life ≡ answered rules g old.life ToPop ∷ old.life) × (new.popped ≡ old.popped) × (new.bytes ≡ old.bytes)
Makes rules g (Sent row) old new = HasPopped rules g row old new × (new.bytes ≡ old.bytes ++ wire_of g.output row)
Makes rules g (Lost row) old new = HasPopped rules g row old new × (new.bytes ≡ old.bytes)

-- What a publish of a station is, by the row that it answers: a pop that gave none, or a row that was popped and published.
abbrev pub publish_of : Option RowView → Call
publish_of None = Empty
publish_of (Some row) = Sent row

-- the calls, newest first
abbrev pub MakeAll : Rules → Given → List Call → (old new : Told) → Type 0
MakeAll rules g [] old new = new ≡ old
MakeAll rules g (call ∷ calls) old new = (mid : Told) × MakeAll rules g calls old mid × Makes rules g call mid new

-- The rows that were popped, those whose publish answered Ok, and the others, the first first.
abbrev pub rows_popped : List Call → List RowView
rows_popped [] = []
rows_popped (Sent row ∷ calls) = rows_popped calls ++ row ∷ []
rows_popped (Lost row ∷ calls) = rows_popped calls ++ row ∷ []
rows_popped (call ∷ calls) = rows_popped calls

abbrev pub rows_sent : List Call → List RowView
rows_sent [] = []
rows_sent (Sent row ∷ calls) = rows_sent calls ++ row ∷ []
rows_sent (call ∷ calls) = rows_sent calls

abbrev pub rows_lost : List Call → List RowView
rows_lost [] = []
rows_lost (Lost row ∷ calls) = rows_lost calls ++ row ∷ []
rows_lost (call ∷ calls) = rows_lost calls

-- What is appended are the frames of the rows whose publish answered Ok, in their order;
abbrev pub SentRowsAreAppended : Type 0
SentRowsAreAppended = (rules : Rules) (g : Given) (calls : List Call) (old new : Told) → MakeAll rules g calls old new
    → new.bytes ≡ old.bytes ++ concat (map (wire_of g.output) (rows_sent calls))

-- their instants strictly rise, above the greatest popped before;
abbrev pub SentRowsRise : Type 0
SentRowsRise = (rules : Rules) (g : Given) (calls : List Call) (old new : Told) → MakeAll rules g calls old new
    → Rises old.popped (row_instants (rows_sent calls))

-- no instant whose publish failed is among them;
abbrev pub NoLostRowIsSent : Type 0
NoLostRowIsSent = (rules : Rules) (g : Given) (calls : List Call) (old new : Told) (lost sent : RowView) → MakeAll rules g calls old new
    → Contains (rows_lost calls) lost → Contains (rows_sent calls) sent → lost.instant ≡ sent.instant → ⊥

-- they are rows that the life gave, all of them where no publish failed.
abbrev pub RowsAreOfTheLife : Type 0
RowsAreOfTheLife = (rules : Rules) (g : Given) (calls : List Call) (old new : Told) → MakeAll rules g calls old new
    → popped new.life ≡ popped old.life ++ rows_popped calls

abbrev pub AllAreSent : Type 0
AllAreSent = (rules : Rules) (g : Given) (calls : List Call) (old new : Told) → MakeAll rules g calls old new → old.life ≡ [] → old.bytes ≡ []
    → rows_lost calls ≡ [] → new.bytes ≡ concat (published g new.life)
