-- Lives of a node worked out by computing the definitions. What arrives is given as read; where only the answer matters, the
-- bytes beside it stand for any that say so.
use Rattle.pdc_life.proofs.Names.{[], ◌+◌, ◌∷◌, ◌≡◌, Absolute, Ahead, arith, Arrive, Candidate, changes, check_word_of, Conflict, CountConflict, Data, Duplicate, Entry, Given, Known, Layout, layout_wire, length, life_from, List, map, nearest_of, node_answer, None, open_instants, Outcome, OutOfWindow, popped, published, ReadStep, refl, Refused, Relative, replicate, RowView, StaleCount, tag_of, Taken, Tick, ToArrive, ToPop, ToTick, waiting_counts, WaitKind, ℕ}
use Rattle.pdc_life.specs.Vectors.{body_3, body_4, body_absent, body_other, e1, e2, e3, e4, o1, o2, section_11, section_11_other, section_11_two}
use Rattle.pdc_life.proofs.Vectors.{fields_11, fields_12, output}

-- node 201 with the PMUs 11 and 12: wait 2, ahead 32
abbrev pub given : (kind : WaitKind) → (window : ℕ) → (counts : List ℕ) → Given
given kind window counts = record {
  output = output 201 (omega arith, omega arith);
  wait = 2;
  wait_kind = kind;
  window = window;
  ahead = 32;
  columns = 2;
  lanes = 1;
  start = 1;
  floor = 0;
  counts = counts;
  opening = 0;
}

abbrev pub zeros : List ℕ
zeros = replicate 16 0

-- everything is cleared
abbrev pub all : List ℕ
all = replicate 16 65535

abbrev pub wide : Given
wide = given Relative 64 zeros

abbrev pub after : Given → List Entry → List ReadStep → List Entry
after = life_from node_answer

-- a section of 11 under this count arrives, or that of 12
abbrev pub layout_11 : ℕ → List ℕ → ReadStep
layout_11 count section = ToArrive 0 e1 (Layout None ((0, fields_11 count section) ∷ []))

abbrev pub layout_12 : ReadStep
layout_12 = ToArrive 1 e2 (Layout None ((1, fields_12) ∷ []))

-- data of a PMU for the instant that is so many after 57478860000
abbrev pub data_of : ℕ → ℕ → List ℕ → ReadStep
data_of p later body = ToArrive p e3 (Data (57478860000 + later) 0 body)

-- a tick at the instant that is so many after it, with all counts cleared
abbrev pub tick_at : ℕ → ReadStep
tick_at later = ToTick (57478860000 + later) all

-- both configurations come, and a tick adopts them
abbrev pub begun : Given → List Entry
begun g = after g [] (layout_11 1 section_11 ∷ layout_12 ∷ tick_at 0 ∷ [])

-- the answers to arrivals, the newest first
abbrev pub answers : List Entry → List Outcome
answers [] = []
answers (Arrive p bytes arrival answer ∷ E) = answer.outcome ∷ answers E
answers (e ∷ E) = answers E

-- for each tick the columns that it adopted, the newest first
abbrev pub adoptions : List Entry → List (List ℕ)
adoptions [] = []
adoptions (Tick now counts answer ∷ E) = answer.adopted ∷ adoptions E
adoptions (e ∷ E) = adoptions E

-- the instants that were popped, so many after 57478860000 each
abbrev pub instants : List Entry → List ℕ
instants E = map (λ (r : RowView). r.instant) (popped E)

begins : (answers (begun wide) ≡ Candidate ∷ Candidate ∷ []) × (changes (begun wide) ≡ 1) × (length (layout_wire wide (begun wide) 0) ≡ 1194)
begins = (refl, refl, refl)

-- Both are there: the tick closes the instant, and the pop gives it.
both_present : published wide (after wide (begun wide) (ToArrive 0 e3 (Data 57478860001 0 body_3) ∷ ToArrive 1 e4 (Data 57478860001 0 body_4) ∷ tick_at 1 ∷ ToPop ∷ [])) ≡ o1 ∷ []
unfolding tag_of nearest_of check_word_of
both_present = refl

-- The data of 12 is lost: the first tick closes nothing, the second closes the instant with the absent block.
one_absent_waits : popped (after wide (begun wide) (data_of 0 1 body_3 ∷ tick_at 1 ∷ ToPop ∷ [])) ≡ []
one_absent_waits = refl

one_absent : published wide (after wide (begun wide) (data_of 0 1 body_3 ∷ tick_at 1 ∷ tick_at 2 ∷ ToPop ∷ [])) ≡ o2 ∷ []
unfolding tag_of nearest_of check_word_of
one_absent = refl

-- The same data twice, and other data for the same instant: the first stays.
duplicate_and_conflict : answers (after wide (begun wide) (data_of 0 1 body_3 ∷ data_of 0 1 body_3 ∷ data_of 0 1 body_other ∷ [])) ≡ Refused Conflict ∷ Refused Duplicate ∷ Taken ∷ Candidate ∷ Candidate ∷ []
duplicate_and_conflict = refl

-- A count that is raised while data waits: the next tick closes nothing, adopts, and drops the data of 11. The instant stays
-- open, and closes by age with no block present, quality 15 and the stamp of its closing.
abbrev pub raised : List Entry
raised =
    after wide (begun wide)
    (data_of 0 1 body_3 ∷ layout_11 2 section_11_two ∷ tick_at 1
    ∷ layout_11 1 section_11 ∷ layout_11 2 section_11_other ∷ layout_11 2 section_11_two ∷ [])

a_raised_count : answers raised ≡ Known ∷ Refused CountConflict ∷ Refused StaleCount ∷ Candidate ∷ Taken ∷ Candidate ∷ Candidate ∷ []
a_raised_count = refl

only_11_is_adopted : adoptions raised ≡ (0 ∷ []) ∷ (0 ∷ 1 ∷ []) ∷ []
only_11_is_adopted = refl

the_instant_stays_open : open_instants wide raised ≡ 57478860001 ∷ []
the_instant_stays_open = refl

abbrev pub quality_and_change : RowView → ℕ × ℕ
quality_and_change r = (r.quality, r.change)

closed_without_a_block : map quality_and_change (popped (after wide raised (tick_at 2 ∷ ToPop ∷ []))) ≡ (15, 2) ∷ []
closed_without_a_block = refl

-- PMU 11 itself sends the absent words, with quality 5: the frame is taken, and the row has quality 15.
absent_words_count_as_absent : map (λ (r : RowView). r.quality) (popped (after wide (begun wide) (ToArrive 0 e3 (Data 57478860001 5 body_absent) ∷ tick_at 1 ∷ tick_at 2 ∷ ToPop ∷ []))) ≡ 15 ∷ []
absent_words_count_as_absent = refl

-- Window 8: 57478860001 is held, 8 after it is out of the window, 7 after it is in it. Ahead 32: 33 is too far above now.
abbrev pub narrow : Given
narrow = given Relative 8 zeros

window_and_ahead : answers (after narrow (begun narrow) (data_of 0 1 body_3 ∷ data_of 0 9 body_3 ∷ data_of 0 8 body_3 ∷ data_of 0 33 body_3 ∷ [])) ≡ Refused Ahead ∷ Taken ∷ Refused OutOfWindow ∷ Taken ∷ Candidate ∷ Candidate ∷ []
window_and_ahead = refl

-- Opening counts. The opening count of 11 is 2: count 1 is stale, also where nothing is held.
abbrev pub restarted : Given
restarted = given Relative 64 (2 ∷ 1 ∷ replicate 14 0)

stale_below_opening : answers (after restarted [] (layout_11 1 section_11 ∷ layout_11 2 section_11_two ∷ layout_12 ∷ [])) ≡ Candidate ∷ Candidate ∷ Refused StaleCount ∷ []
stale_below_opening = refl

-- What the opening counts clear is adopted at once, whatever the tick hands in.
opening_counts_are_cleared : adoptions (after restarted [] (layout_11 2 section_11_two ∷ layout_12 ∷ ToTick 57478860000 zeros ∷ [])) ≡ (0 ∷ 1 ∷ []) ∷ []
opening_counts_are_cleared = refl

-- Counts of 0: both are candidates, and wait while no tick clears them. The next tick clears 12 alone, the last one both; what
-- was cleared stays so.
abbrev pub one_by_one : List Entry
one_by_one =
    after wide []
    (layout_11 1 section_11 ∷ layout_12 ∷ ToTick 57478860000 zeros ∷ ToTick 57478860000 (0 ∷ 1 ∷ replicate 14 0)
    ∷ ToTick 57478860000 (1 ∷ replicate 15 0) ∷ ToTick 57478860000 zeros ∷ [])

a_candidate_above_cleared_waits : adoptions one_by_one ≡ [] ∷ (0 ∷ []) ∷ (1 ∷ []) ∷ [] ∷ []
a_candidate_above_cleared_waits = refl

two_ticks_adopted : changes one_by_one ≡ 2
two_ticks_adopted = refl

-- Count 1 of 11 was cleared, and before the tick count 2 came: nothing of 11 is adopted, not even count 1.
a_greater_one_holds_back : adoptions (after wide [] (layout_11 1 section_11 ∷ layout_11 2 section_11_two ∷ ToTick 57478860000 (1 ∷ replicate 15 0) ∷ [])) ≡ [] ∷ []
a_greater_one_holds_back = refl

-- What waits to be stored: the greater of cleared and held.
counts_that_wait : waiting_counts restarted (after restarted [] (layout_11 2 section_11_two ∷ ToTick 57478860000 (0 ∷ 5 ∷ replicate 14 0) ∷ [])) ≡ 2 ∷ 5 ∷ replicate 14 0
counts_that_wait = refl

-- An absolute wait of 2: 57478860001 without the data of 12 closes at the first tick whose now is 57478860003 or later, however
-- often the table ticked.
abbrev pub absolute : Given
absolute = given Absolute 64 zeros

early_ticks_close_nothing : instants (after absolute (begun absolute) (data_of 0 1 body_3 ∷ tick_at 1 ∷ tick_at 2 ∷ tick_at 2 ∷ ToPop ∷ [])) ≡ []
early_ticks_close_nothing = refl

closes_by_now : published absolute (after absolute (begun absolute) (data_of 0 1 body_3 ∷ tick_at 1 ∷ tick_at 2 ∷ tick_at 2 ∷ tick_at 3 ∷ ToPop ∷ [])) ≡ o2 ∷ []
unfolding tag_of nearest_of check_word_of
closes_by_now = refl

-- Data for an instant whose wait is over already is taken, and the next tick closes it.
late_ones_are_taken : instants (after absolute (begun absolute) (tick_at 3 ∷ data_of 0 1 body_3 ∷ tick_at 3 ∷ ToPop ∷ [])) ≡ 57478860001 ∷ []
late_ones_are_taken = refl

-- A tick with now 1 closes no row that is not complete; one that is complete closes at any now.
now_1 : instants (after absolute (begun absolute) (data_of 0 1 body_3 ∷ ToTick 1 all ∷ ToTick 1 all ∷ ToPop ∷ [])) ≡ []
now_1 = refl

complete_at_any_now : instants (after absolute (begun absolute) (data_of 0 1 body_3 ∷ data_of 1 1 body_4 ∷ ToTick 1 all ∷ ToPop ∷ [])) ≡ 57478860001 ∷ []
complete_at_any_now = refl
