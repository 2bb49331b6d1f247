-- Lives of the merger worked out by computing the definitions. What arrives is given as read; the bytes beside it stand for any
-- that say so.
use Rattle.pdc_life.proofs.Names.{[], ◌++◌, ◌+◌, ◌∷◌, ◌≡◌, Absolute, arith, BlockView, bytes_of_words, Candidate, check_word_of, Conflict, CountConflict, Data, Duplicate, Entry, Given, Known, Layout, length, life_from, List, map, merged_answer, nearest_of, NoConfig, OldStamp, OtherStamp, own_block, popped, published, ReadStep, refl, Refused, Relative, replicate, RowView, SectionFields, Some, tag_of, Taken, ToArrive, ToPop, ToTick, waiting_counts, WaitKind, words_in, WrongLength, ℕ}
use Rattle.pdc_life.specs.Vectors.{body_3, body_4, body_absent, body_other, e1, e3, o3, section_11, section_11_two}
use Rattle.pdc_life.proofs.Vectors.{fields_11, fields_12, output}
use Rattle.pdc_life.proofs.Worked.{adoptions, answers, tick_at, zeros}

-- merger 301 with the sources 11 and 12: wait 2, ahead 32, window 64
abbrev pub given : (kind : WaitKind) → (counts : List ℕ) → Given
given kind counts = record {
  output = output 301 (omega arith, omega arith);
  wait = 2;
  wait_kind = kind;
  window = 64;
  ahead = 32;
  columns = 2;
  lanes = 2;
  start = 1;
  floor = 0;
  counts = counts;
  opening = 57478860000;
}

abbrev pub both : Given
both = given Relative zeros

abbrev pub after : Given → List Entry → List ReadStep → List Entry
after = life_from merged_answer

-- node A is 0, node B is 1: a layout with this stamp and these sections
abbrev pub layout_of : (s start change : ℕ) → List (ℕ × SectionFields) → ReadStep
layout_of s start change sections = ToArrive s e1 (Layout (Some (record { start = start; change = change })) sections)

-- the sections of 11 and 12 under count 1, and with 11 under count 2
abbrev pub ones : List (ℕ × SectionFields)
ones = (0, fields_11 1 section_11) ∷ (1, fields_12) ∷ []

abbrev pub two_and_one : List (ℕ × SectionFields)
two_and_one = (0, fields_11 2 section_11_two) ∷ (1, fields_12) ∷ []

abbrev pub own_bytes : (start change : ℕ) → List ℕ
own_bytes start change = bytes_of_words (own_block start change)

-- data with this stamp for the instant that is so many after 57478860000
abbrev pub data_of : (s later start change : ℕ) → List ℕ → ReadStep
data_of s later start change blocks = ToArrive s e3 (Data (57478860000 + later) 0 (own_bytes start change ++ blocks))

abbrev pub begun : List Entry
begun = after both [] (layout_of 0 1 1 ones ∷ layout_of 1 1 1 ones ∷ tick_at 0 ∷ [])

-- A lost the data of 12, B that of 11: the row has both blocks.
merged_from_both : published both (after both begun (data_of 0 1 1 1 (body_3 ++ body_absent) ∷ data_of 1 1 1 1 (body_absent ++ body_4) ∷ tick_at 1 ∷ ToPop ∷ [])) ≡ o3 ∷ []
unfolding tag_of nearest_of check_word_of
merged_from_both = refl

-- The only tick before came before the layouts: the row has no block of a PMU, quality 15 and the stamp (1, 0), in 30 bytes.
abbrev pub too_early : List Entry
too_early =
    after both []
    (tick_at 0 ∷ layout_of 0 1 1 ones ∷ layout_of 1 1 1 ones ∷ data_of 0 1 1 1 (body_3 ++ body_absent)
    ∷ data_of 1 1 1 1 (body_absent ++ body_4) ∷ tick_at 1 ∷ ToPop ∷ [])

without_blocks : popped too_early ≡ record { instant = 57478860001; start = 1; change = 0; quality = 15; blocks = [] } ∷ []
without_blocks = refl

in_30_bytes : map length (published both too_early) ≡ 30 ∷ []
in_30_bytes = refl

-- New data comes before the new layout, which bears the stamp (1, 2): other stamp, nothing is cut. After the layout it is taken.
stamp_mismatch : answers (after both begun (data_of 0 1 1 2 (body_3 ++ body_4) ∷ layout_of 0 1 2 two_and_one ∷ data_of 0 1 1 2 (body_3 ++ body_4) ∷ [])) ≡ Taken ∷ Candidate ∷ Refused OtherStamp ∷ Candidate ∷ Candidate ∷ []
stamp_mismatch = refl

-- Node A starts again: data of its first life is taken by its stamp while that layout is held, and else has another stamp. The
-- same layout again is known; one with an older stamp is refused.
old_lives : answers (after both begun (data_of 0 1 1 1 (body_3 ++ body_4) ∷ layout_of 0 2 1 ones ∷ data_of 0 2 1 1 (body_3 ++ body_4) ∷ layout_of 0 2 1 ones ∷ layout_of 0 1 2 ones ∷ [])) ≡ Refused OldStamp ∷ Known ∷ Refused OtherStamp ∷ Candidate ∷ Taken ∷ Candidate ∷ Candidate ∷ []
old_lives = refl

-- A restart with the same counts adopts nothing and drops nothing.
same_counts_drop_nothing : adoptions (after both begun (layout_of 0 2 1 ones ∷ tick_at 1 ∷ [])) ≡ [] ∷ (0 ∷ 1 ∷ []) ∷ []
same_counts_drop_nothing = refl

-- At the held stamp nothing more is looked at; above it another section under one count is a conflict.
abbrev pub other_ones : List (ℕ × SectionFields)
other_ones = (0, fields_11 1 section_11_two) ∷ []

known_before_conflict : answers (after both begun (layout_of 0 1 1 other_ones ∷ layout_of 0 1 2 other_ones ∷ [])) ≡ Refused CountConflict ∷ Known ∷ Candidate ∷ Candidate ∷ []
known_before_conflict = refl

-- Data before a layout, too short for an own block, and of another length than the layout says.
causes_of_data : answers (after both [] (data_of 0 1 1 1 body_3 ∷ layout_of 0 1 1 ones ∷ ToArrive 0 e3 (Data 57478860001 0 body_3) ∷ data_of 0 1 1 1 body_3 ∷ [])) ≡ Refused WrongLength ∷ Refused WrongLength ∷ Candidate ∷ Refused NoConfig ∷ []
causes_of_data = refl

abbrev pub blocks_of : List RowView → List (List (List ℕ))
blocks_of rows = map (λ (r : RowView). map (λ (b : BlockView). b.words) r.blocks) rows

-- B raised 11 to count 2, A did not yet. The merger has count 2: A's data gives no cell of 11, and B's is used, though A's words
-- are present.
other_count_is_no_cell : blocks_of (popped (after both begun (layout_of 1 1 2 two_and_one ∷ tick_at 0 ∷ data_of 0 1 1 1 (body_other ++ body_4) ∷ data_of 1 1 1 2 (body_3 ++ body_absent) ∷ tick_at 1 ∷ ToPop ∷ []))) ≡ (words_in body_3 ∷ words_in body_4 ∷ []) ∷ []
other_count_is_no_cell = refl

-- Both lanes hold other words of 11 under one count: A's are kept.
first_lane_first : blocks_of (popped (after both begun (data_of 1 1 1 1 (body_other ++ body_4) ∷ data_of 0 1 1 1 (body_3 ++ body_absent) ∷ tick_at 1 ∷ ToPop ∷ []))) ≡ (words_in body_3 ∷ words_in body_4 ∷ []) ∷ []
first_lane_first = refl

-- Column 11 is adopted while A's data waits: its cell is dropped, and A stays taken. The same data again is a duplicate, other
-- words of 11 are not compared, other words of 12 conflict. The row has 11 of B and 12 of A.
abbrev pub dropped : List Entry
dropped =
    after both begun
    (data_of 0 1 1 1 (body_3 ++ body_4) ∷ layout_of 1 1 2 two_and_one ∷ tick_at 1
    ∷ data_of 0 1 1 1 (body_3 ++ body_4) ∷ data_of 0 1 1 1 (body_other ++ body_4) ∷ data_of 0 1 1 1 (body_3 ++ body_3) ∷ [])

stays_taken : answers dropped ≡ Refused Conflict ∷ Refused Duplicate ∷ Refused Duplicate ∷ Candidate ∷ Taken ∷ Candidate ∷ Candidate ∷ []
stays_taken = refl

cells_are_dropped : blocks_of (popped (after both dropped (data_of 1 1 1 2 (body_other ++ body_absent) ∷ tick_at 1 ∷ ToPop ∷ []))) ≡ (words_in body_other ∷ words_in body_4 ∷ []) ∷ []
cells_are_dropped = refl

-- Without B's data the instant closes by age, and 11 is absent in it.
closes_by_age : blocks_of (popped (after both dropped (tick_at 2 ∷ ToPop ∷ []))) ≡ (words_in body_absent ∷ words_in body_4 ∷ []) ∷ []
closes_by_age = refl

-- Opening counts: the section of 11 is below its own, and is no candidate; the layout is accepted, and its data taken.
abbrev pub restarted : Given
restarted = given Relative (2 ∷ 1 ∷ replicate 14 0)

below_opening : answers (after restarted [] (layout_of 0 1 1 ones ∷ tick_at 0 ∷ data_of 0 1 1 1 (body_3 ++ body_4) ∷ [])) ≡ Taken ∷ Candidate ∷ []
below_opening = refl

only_12_is_adopted : adoptions (after restarted [] (layout_of 0 1 1 ones ∷ tick_at 0 ∷ [])) ≡ (1 ∷ []) ∷ []
only_12_is_adopted = refl

only_12_has_a_block : blocks_of (popped (after restarted [] (layout_of 0 1 1 ones ∷ tick_at 0 ∷ data_of 0 1 1 1 (body_3 ++ body_4) ∷ tick_at 1 ∷ tick_at 2 ∷ ToPop ∷ []))) ≡ (words_in body_4 ∷ []) ∷ []
only_12_has_a_block = refl

-- Node B announces count 2 of 11, node A still count 1, which is below the opening one: the data of A is taken without a cell of 11.
abbrev pub one_still_below : List Entry
one_still_below =
    after restarted []
    (layout_of 0 1 1 ones ∷ layout_of 1 1 2 two_and_one ∷ tick_at 0 ∷ data_of 0 1 1 1 (body_other ++ body_4) ∷ data_of 1 1 1 2 (body_3 ++ body_absent) ∷ tick_at 1 ∷ ToPop ∷ [])

both_are_adopted : adoptions one_still_below ≡ [] ∷ (0 ∷ 1 ∷ []) ∷ []
both_are_adopted = refl

only_b_gives_11 : blocks_of (popped one_still_below) ≡ (words_in body_3 ∷ words_in body_4 ∷ []) ∷ []
only_b_gives_11 = refl

-- Count 1 is cleared and in force when B announces count 2 of 11: it waits for the tick that clears it.
abbrev pub cleared_later : List Entry
cleared_later =
    after both []
    (layout_of 0 1 1 ones ∷ ToTick 57478860000 (1 ∷ 1 ∷ replicate 14 0) ∷ layout_of 1 1 2 two_and_one ∷ ToTick 57478860000 (1 ∷ 1 ∷ replicate 14 0)
    ∷ ToTick 57478860000 (2 ∷ 1 ∷ replicate 14 0) ∷ [])

waits_to_be_cleared : adoptions cleared_later ≡ (0 ∷ []) ∷ [] ∷ (0 ∷ 1 ∷ []) ∷ []
waits_to_be_cleared = refl

waits_with_its_count : waiting_counts both (after both begun (layout_of 1 1 2 two_and_one ∷ [])) ≡ 65535 ∷ 65535 ∷ replicate 14 0
waits_with_its_count = refl

-- An absolute wait of 2: 57478860001 without the data of B closes where now is 57478860003, however often the merger ticked.
abbrev pub absolute : Given
absolute = given Absolute zeros

abbrev pub not_yet : List Entry
not_yet = after absolute (after absolute [] (layout_of 0 1 1 ones ∷ tick_at 0 ∷ [])) (data_of 0 1 1 1 (body_3 ++ body_4) ∷ tick_at 1 ∷ tick_at 2 ∷ tick_at 2 ∷ ToPop ∷ [])

early_ticks_close_nothing : popped not_yet ≡ []
early_ticks_close_nothing = refl

closes_by_now : blocks_of (popped (after absolute not_yet (tick_at 3 ∷ ToPop ∷ []))) ≡ (words_in body_3 ∷ words_in body_4 ∷ []) ∷ []
closes_by_now = refl
