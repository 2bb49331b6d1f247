-- Marks bound what was published and adopted, so instants rise and counts never fall, over all lives.
use Rattle.std.specs.{List.{AllByRecursion}, Prelude.{◌++◌, ◌<◌, ◌^◌, ◌≡◌, ◌≤◌, length, List, Some, ℕ}}
use Rattle.pdc_block.specs.pdc_cfg.Section.{SectionFields}
use Rattle.pdc_row.specs.{Rising.{Rises}, RowView.{row_instants, RowView}}
use Rattle.pdc_mark.specs.declared.layout.TheConstants.{COUNTS}
use Rattle.pdc_life.specs.{Answer.{waiting_counts}, Given.{count_for}, Life.{section_in_force}}
use Rattle.pdc_history.specs.{History.{IsHistory}, Lives.{rows_of_one}, World.{first_mark, given_in, Happened, life_of, mark_of, opened_with, past_lives, PastLife, published, Who, World}}

-- The stored start is that of the present life, and those of earlier lives are below it; the stored floor is at or above each
-- instant published; what an earlier life had in force is at most the count with which the present one began, and what is in force
-- is at most the stored one.
pub record MarkBounds (W : World) (H : List Happened) (who : Who) : Type 0 where
  pub start : (mark_of W H who).start ≡ (opened_with W H who).start
  pub fits : (mark_of W H who).start < 2 ^ 32
  pub earlier : AllByRecursion (λ (past : PastLife). past.given.start < (mark_of W H who).start) (past_lives W H who)
  pub floor : AllByRecursion (λ (r : RowView). r.instant ≤ (mark_of W H who).floor) (rows_of_one who (published H))
  pub in_force :
      (c : ℕ) (s : SectionFields) → section_in_force (given_in W H who) (life_of H who) c ≡ Some s → s.count ≤ count_for c (mark_of W H who).counts
  pub past_in_force :
      (c : ℕ) → AllByRecursion (λ (past : PastLife). (s : SectionFields) → section_in_force past.given past.life c ≡ Some s →
      s.count ≤ count_for c (opened_with W H who).counts) (past_lives W H who)

abbrev pub MarksBound : Type 0
MarksBound = (W : World) (H : List Happened) (who : Who) → IsHistory W H → MarkBounds W H who

-- Over all lives of one owner the instants published strictly rise, above the floor with which its first life began.
abbrev pub InstantsRise : Type 0
InstantsRise = (W : World) (H : List Happened) (who : Who) → IsHistory W H → Rises (first_mark W who).floor (row_instants (rows_of_one who (published H)))

-- No life adopts a count below one that was adopted before, in that life or in an earlier one of the same owner: what is in force of
-- a column is never below what was in force of it.
abbrev pub AdoptedCountsNeverFall : Type 0
AdoptedCountsNeverFall =
    (W : World) (H later : List Happened) (who : Who) (c : ℕ) (s t : SectionFields) → IsHistory W (later ++ H) →
    section_in_force (given_in W H who) (life_of H who) c ≡ Some s →
    section_in_force (given_in W (later ++ H) who) (life_of (later ++ H) who) c ≡ Some t → s.count ≤ t.count

-- As many counts wait as a mark has.
abbrev pub WaitingIsWhole : Type 0
WaitingIsWhole = (W : World) (H : List Happened) (who : Who) → length (waiting_counts (given_in W H who) (life_of H who)) ≡ COUNTS
