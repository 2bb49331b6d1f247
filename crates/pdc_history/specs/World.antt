-- The world of two nodes, a merger and the network between them, as the list of what happened in it, the newest first, each with
-- what followed from it. All else is recursion over that list: each definition speaks of what had happened before.
use Rattle.std.specs.Prelude.{[], ◌++◌, ◌∷◌, Bool, false, if◌then◌else◌, List, None, Option, option_map, Some, true, ℕ}
use Rattle.pdc_row.specs.RowView.{RowView}
use Rattle.pdc_row.specs.{declared.output.Output.{Output}, Layout.{wire_of}}
use Rattle.pdc_mark.specs.{declared.stored.Stored.{Stored}, Stored.{with_counts, with_due, with_waiting}}
use Rattle.pdc_life.specs.{Answer.{waiting_counts}, CoreKind.{CoreKind, given_of, OfMerger, OfNode, output_under}, declared.given.Settings.{Settings}, declared.merging.MergerSettings.{MergerSettings}, Given.{Given}, Life.{Entry, is_adoption, Pop, Tick}, Published.{layout_wire}}

-- node A, node B and the merger
pub data Who : Type 0 where
  A : Who
  B : Who
  M : Who

abbrev pub is_same : Who → Who → Bool
is_same A A = true
is_same B B = true
is_same M M = true
is_same v w = false

-- what a core of the world is: its settings, how far ahead its mark is reserved, and the mark with which its first life begins
pub record Owner (S : Type 0) : Type 0 where
  pub settings : S
  pub lead : ℕ
  pub mark : Stored

pub record World : Type 0 where
  pub a : Owner Settings
  pub b : Owner Settings
  pub m : Owner MergerSettings

-- one thing that happened
pub data Happened : Type 0 where
  -- a PMU sent this
  Sends : (bytes : List ℕ) → Happened
  -- bytes came to a core, and were answered
  Comes : (who : Who) (entry : Entry) → Happened
  -- bytes came to a core that has no such stream
  PassesBy : (who : Who) → Happened
  Ticks : (who : Who) (entry : Entry) → Happened
  -- a row was popped and published, if one waited
  Publishes : (who : Who) (row : Option RowView) → Happened
  -- a life ended; the next begins with this mark
  Ends : (who : Who) (mark : Stored) → Happened

-- What is fixed.

abbrev pub first_mark : World → Who → Stored
first_mark W A = W.a.mark
first_mark W B = W.b.mark
first_mark W M = W.m.mark

abbrev pub lead_of : World → Who → ℕ
lead_of W A = W.a.lead
lead_of W B = W.b.lead
lead_of W M = W.m.lead

-- what each core is, of these settings
abbrev pub kind_among : Settings → Settings → MergerSettings → Who → CoreKind
kind_among a b m A = OfNode a
kind_among a b m B = OfNode b
kind_among a b m M = OfMerger m

abbrev pub kind_of : World → Who → CoreKind
kind_of W who = kind_among W.a.settings W.b.settings W.m.settings who

-- what is given to a life that begins with this mark: its now is 0 until its first tick
abbrev pub given_by : World → Who → Stored → Given
given_by W who mark = given_of (kind_of W who) mark.start mark.floor mark.counts 0

abbrev pub output_of : World → Who → Output
output_of W who = output_under (kind_of W who)

-- The present life of a core.

-- the entry that this is in its life, and the mark with which a life of it begins here
abbrev pub entry_at : Who → Happened → Option Entry
entry_at who (Comes w entry) = if is_same w who then Some entry else None
entry_at who (Ticks w entry) = if is_same w who then Some entry else None
entry_at who (Publishes w row) = if is_same w who then Some (Pop row) else None
entry_at who h = None

abbrev pub begins_at : Who → Happened → Option Stored
begins_at who (Ends w mark) = if is_same w who then Some mark else None
begins_at who h = None

abbrev pub with_entry : Option Entry → List Entry → List Entry
with_entry None E = E
with_entry (Some entry) E = entry ∷ E

abbrev pub since : Option Stored → List Entry → List Entry
since None E = E
since (Some mark) E = []

abbrev pub begun_with : Option Stored → Stored → Stored
begun_with None mark = mark
begun_with (Some begun) mark = begun

-- The entries since its last end.
abbrev pub life_of : List Happened → Who → List Entry
life_of [] who = []
life_of (h ∷ H) who = since (begins_at who h) (with_entry (entry_at who h) (life_of H who))

-- The mark with which it began, and what that gives it.
abbrev pub opened_with : World → List Happened → Who → Stored
opened_with W [] who = first_mark W who
opened_with W (h ∷ H) who = begun_with (begins_at who h) (opened_with W H who)

abbrev pub given_in : World → List Happened → Who → Given
given_in W H who = given_by W who (opened_with W H who)

-- a life that ended, with what was given to it
pub record PastLife : Type 0 where
  pub given : Given
  pub life : List Entry

abbrev pub ended : Option Stored → PastLife → List PastLife
ended None past = []
ended (Some mark) past = past ∷ []

-- The lives of a core that ended, the last one first.
abbrev pub past_lives : World → List Happened → Who → List PastLife
past_lives W [] who = []
past_lives W (h ∷ H) who = ended (begins_at who h) (record { given = given_in W H who; life = life_of H who }) ++ past_lives W H who

-- Marks.

-- A publish reserves for the instant of its row, if there is one.
abbrev pub reserved : (lead : ℕ) → Option RowView → Stored → Stored
reserved lead row mark = with_due lead (option_map (λ (r : RowView). r.instant) row) mark

-- a tick is handed the counts of the mark
abbrev pub with_counts_of : Entry → Stored → Stored
with_counts_of (Tick now counts answer) mark = with_counts mark counts
with_counts_of e mark = mark

abbrev pub mark_after : World → Who → Happened → Stored → Stored
mark_after W who (Ticks w entry) mark = if is_same w who then with_counts_of entry mark else mark
mark_after W who (Publishes w row) mark = if is_same w who then reserved (lead_of W who) row mark else mark
mark_after W who h mark = begun_with (begins_at who h) mark

-- The mark that a core has stored.
abbrev pub mark_of : World → List Happened → Who → Stored
mark_of W [] who = first_mark W who
mark_of W (h ∷ H) who = mark_after W who h (mark_of W H who)

-- Before a tick the mark is raised to the counts that wait.
abbrev pub raised : World → List Happened → Who → Stored
raised W H who = with_waiting (waiting_counts (given_in W H who) (life_of H who)) (mark_of W H who)

-- What was sent, and what was published.

abbrev pub sent_at : World → List Happened → Happened → List (List ℕ)
sent_at W H (Sends bytes) = bytes ∷ []
sent_at W H (Ticks who entry) = if is_adoption entry then layout_wire (given_in W H who) (entry ∷ life_of H who) 0 ∷ [] else []
sent_at W H (Publishes who (Some row)) = wire_of (output_of W who) row ∷ []
sent_at W H h = []

-- Each frame that a PMU, a node or the merger ever sent, the first to be sent first. The layout of an adoption, of SOC 0, stands for
-- all layouts that go out under its stamp: they differ from it in SOC and the check word alone.
abbrev pub sent : World → List Happened → List (List ℕ)
sent W [] = []
sent W (h ∷ H) = sent W H ++ sent_at W H h

abbrev pub published_at : Happened → List (Who × RowView)
published_at (Publishes who (Some row)) = (who, row) ∷ []
published_at h = []

-- The rows that were published, the first to be published first.
abbrev pub published : List Happened → List (Who × RowView)
published [] = []
published (h ∷ H) = published H ++ published_at h
