-- What a record lacks that could not be written, and when it is tried again.
use Rattle.std.specs.Prelude.{◌≡◌, refl, ℕ, Bool, Option, None, Some, nat_lt, if◌then◌else◌}
use Rattle.pdc_journal.specs.Moment.{is_past}
use Rattle.pdc_journal.specs.declared.moment.Moment.{Moment}

-- a new file is tried five seconds after the last one was, or the record could not be written
abbrev pub is_tried : (last now : Moment) → Bool
is_tried last now = is_past 5 last now

-- The steps from the first that was not written up to the one before the next that will be are a gap. There is none where that is the next.
abbrev pub gap_between : (first next : ℕ) → Option ℕ
gap_between first next = if nat_lt first next then Some next else None

-- 120 to 131 are lacking where 132 is the next, and nothing is where 120 is
pub some_are : gap_between 120 132 ≡ Some 132
some_are = refl

pub none_is : gap_between 120 120 ≡ None
none_is = refl
