-- The lines that wait to be printed.
use Rattle.std.specs.Prelude.{◌≡◌, refl, ℕ, ◌+◌, ◌-◌, ◌^◌, Bool, List, [], ◌∷◌, ◌++◌, Option, None, Some, length, replicate, min, nat_lt, if◌then◌else◌}
use Rattle.pdc_journal.specs.declared.lines.TheConstants.{MOST_WAITING}

-- what waits behind a line that is told: it is the last one, where there is one and not 256 wait already
abbrev pub told_after : {L : Type 0} → Option L → List L → List L
told_after None waiting = waiting
told_after (Some line) waiting = if nat_lt (length waiting) MOST_WAITING then waiting ++ line ∷ [] else waiting

-- how many are dropped then: one more where it found no place, or there was no memory for it
abbrev pub dropped_after : {L : Type 0} → Option L → List L → ℕ → ℕ
dropped_after None waiting dropped = min (dropped + 1) (2 ^ 64 - 1)
dropped_after (Some line) waiting dropped = if nat_lt (length waiting) MOST_WAITING then dropped else min (dropped + 1) (2 ^ 64 - 1)

-- What is printed next: the line that waits longest; where none does, how many were dropped since that was told; and nothing more once the
-- journal is closed.
abbrev pub turn_of : {L T : Type 0} → (line : L → T) → (dropped : ℕ → T) → (nothing end : T) → List L → ℕ → (is_closed : Bool) → T
turn_of line dropped nothing end (first ∷ behind) count is_closed = line first
turn_of line dropped nothing end [] count is_closed = if nat_lt 0 count then dropped count else (if is_closed then end else nothing)

-- how many are dropped of which that is not told yet
abbrev pub untold_after : {L : Type 0} → List L → (dropped : ℕ) → ℕ
untold_after (first ∷ behind) dropped = dropped
untold_after [] dropped = 0

-- a second line waits behind the first one, and comes out behind it
pub second_waits : told_after {L = ℕ} (Some 8) (7 ∷ []) ≡ 7 ∷ 8 ∷ []
second_waits = refl

-- behind 256 lines one more is dropped
pub none_more : dropped_after {L = ℕ} (Some 8) (replicate 256 7) 2 ≡ 3
none_more = refl
