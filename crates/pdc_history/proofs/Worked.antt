-- Worlds worked out by computing the definitions: the script of both nodes and the merger, stops in each store, marks reserved ahead,
-- and an absolute wait beside a relative one. What arrives is given as read.
use Rattle.std.proofs.Common.{arith}
use Rattle.pdc_frame.specs.CheckWord.{check_word_of}
use Rattle.pdc_frame.specs.{Nearest.{nearest_of}, Tag.{tag_of}}
use Rattle.pdc_history.specs.Event.{Send}
use Rattle.pdc_history.proofs.Names.{[], ◌++◌, ◌+◌, ◌∷◌, ◌≡◌, A, Absolute, Answered, Arrive, B, Began, body_3, body_4, Bool, Bring, bytes_of_words, Candidate, Closed, Data, Do, e1, e2, e3, e4, Entry, Event, false, Gave, Happened, history_from, Late, Layout, length, life_of, List, M, map, mark_of, None, o1, o3, OfPublish, OfStart, OfTick, Outcome, own_block, past_lives, Publish, published, refl, Refused, Relative, replicate, RowView, section_11, section_11_two, SectionFields, Sends, sent, SentAs, slice_get, Some, StaleCount, Stop, StopDuring, Store, Stored, Taken, TickAt, Told, told_of, true, WaitKind, Who, words_in, World, ℕ}
use Rattle.pdc_history.proofs.Vectors.{fields_11, fields_12, merger, node, one_phasor}

abbrev pub zeros : List ℕ
zeros = replicate 16 0

abbrev pub new_mark : Stored
new_mark = record { start = 1; floor = 0; counts = zeros }

abbrev pub world_of : WaitKind → (lead : ℕ) → World
world_of kind lead = record {
  a = record { settings = node kind 201 (omega arith, omega arith) refl; lead = lead; mark = new_mark };
  b = record { settings = node Relative 202 (omega arith, omega arith) refl; lead = 0; mark = new_mark };
  m = record { settings = merger; lead = 0; mark = new_mark };
}

abbrev pub W : World
W = world_of Relative 0

abbrev pub to_11 : Who → ℕ → List ℕ → Event
to_11 who count section = Bring who 0 e1 (Layout None ((0, fields_11 count section) ∷ []))

abbrev pub to_12 : Who → Event
to_12 who = Bring who 1 e2 (Layout None ((1, fields_12) ∷ []))

-- data for the instant that is so many after 57478860000
abbrev pub data_11 : Who → ℕ → Event
data_11 who later = Bring who 0 e3 (Data (57478860000 + later) 0 body_3)

abbrev pub data_12 : Who → ℕ → Event
data_12 who later = Bring who 1 e4 (Data (57478860000 + later) 0 body_4)

abbrev pub tick : Who → ℕ → Event
tick who later = Do who (TickAt (57478860000 + later))

abbrev pub publish : Who → Event
publish who = Do who Publish

abbrev pub sends : List Event
sends = Send e1 ∷ Send e2 ∷ Send e3 ∷ Send e4 ∷ []

-- up to the second tick, which closes the row
abbrev pub to_the_tick : List Event
to_the_tick = sends ++ to_11 A 1 section_11 ∷ to_12 A ∷ tick A 0 ∷ data_11 A 1 ∷ data_12 A 1 ∷ tick A 1 ∷ []

abbrev pub play : World → List Event → List Happened
play V events = history_from V [] events

abbrev pub script : List Happened
script = play W (to_the_tick ++ publish A ∷ publish A ∷ [])

-- Six frames were sent: four by PMUs, the layout's, and the row's, which is the last.
six_frames : map length (sent W script) ≡ 74 ∷ 74 ∷ 26 ∷ 26 ∷ 1194 ∷ 50 ∷ []
six_frames = refl

the_last_is_the_row : slice_get (sent W script) 5 ≡ Some o1
unfolding tag_of nearest_of check_word_of
the_last_is_the_row = refl

-- One row was published; the second publish found none.
abbrev pub instants_of : List Happened → List (Who × ℕ)
instants_of H = map (λ (r : Who × RowView). (r.0, r.1.instant)) (published H)

one_row : instants_of script ≡ (A, 57478860001) ∷ []
one_row = refl

-- The tick raised the counts of the mark, the publish its floor; a stop begins the next life.
abbrev pub stopped : List Happened
stopped = history_from W script (Do A Stop ∷ [])

abbrev pub mark : (start floor : ℕ) → Stored
mark start floor = record { start = start; floor = floor; counts = 1 ∷ 1 ∷ replicate 14 0 }

the_mark : (mark_of W script A ≡ mark 1 57478860001) × (mark_of W stopped A ≡ mark 2 57478860001) × (mark_of W stopped B ≡ new_mark)
the_mark = (refl, refl, refl)

a_new_life : (life_of stopped A ≡ []) × (length (past_lives W stopped A) ≡ 1)
a_new_life = (refl, refl)

-- The stop falls into the publish, or into the next start.
abbrev pub during : Store → Bool → Event
during store landed = Do A (StopDuring store landed)

abbrev pub after : List Event → Stored
after events = mark_of W (play W (to_the_tick ++ events)) A

stops : (after (during OfPublish true ∷ []) ≡ mark 2 57478860001) × (after (during OfPublish false ∷ []) ≡ mark 2 0)
stops = (refl, refl)

-- With no row due a stop in a publish is a stop.
stop_with_none_due : (after (publish A ∷ during OfPublish true ∷ []) ≡ mark 2 57478860001)
    × (after (publish A ∷ during OfPublish false ∷ []) ≡ mark 2 57478860001)
stop_with_none_due = (refl, refl)

stops_at_start : (after (publish A ∷ during OfStart false ∷ []) ≡ mark 2 57478860001) × (after (publish A ∷ during OfStart true ∷ []) ≡ mark 3 57478860001)
stops_at_start = (refl, refl)

-- After the stop the row is late, or else is published for the first time.
abbrev pub answers : List Entry → List Outcome
answers [] = []
answers (Arrive p bytes arrival answer ∷ E) = answer.outcome ∷ answers E
answers (e ∷ E) = answers E

abbrev pub answers_of : Who → List Event → List Outcome
answers_of who events = answers (life_of (play W events) who)

abbrev pub again : List Event
again = to_11 A 1 section_11 ∷ to_12 A ∷ tick A 0 ∷ data_11 A 1 ∷ []

landed_is_late : answers_of A (to_the_tick ++ during OfPublish true ∷ again) ≡ Refused Late ∷ Candidate ∷ Candidate ∷ []
landed_is_late = refl

lost_is_taken : answers_of A (to_the_tick ++ during OfPublish false ∷ again) ≡ Taken ∷ Candidate ∷ Candidate ∷ []
lost_is_taken = refl

-- After a stop the same data is late; the next instant is published under the new start.
rises_after_a_stop : instants_of (play W (to_the_tick ++ publish A ∷ Do A Stop ∷ again ++ data_11 A 2 ∷ data_12 A 2 ∷ tick A 2 ∷ publish A ∷ [])) ≡ (A, 57478860001) ∷ (A, 57478860002) ∷ []
rises_after_a_stop = refl

-- The stop falls into the raise of a tick: no tick is made. With count 1 waiting it is a candidate after either; with count 2
-- waiting it is stale where the raise landed.
abbrev pub in_the_raise : (count : ℕ) → List ℕ → Event → List Event
in_the_raise count section stop = to_11 A count section ∷ to_12 A ∷ stop ∷ to_11 A 1 section_11 ∷ []

counts_that_landed : (answers_of A (in_the_raise 1 section_11 (during OfTick true)) ≡ Candidate ∷ []) × (answers_of A (in_the_raise 2 section_11_two (during OfTick true)) ≡ Refused StaleCount ∷ [])
counts_that_landed = (refl, refl)

counts_that_were_lost : (answers_of A (in_the_raise 1 section_11 (during OfTick false)) ≡ Candidate ∷ []) × (answers_of A (in_the_raise 2 section_11_two (during OfTick false)) ≡ Candidate ∷ [])
counts_that_were_lost = (refl, refl)

-- Where nothing is to be raised it is a stop.
nothing_to_raise : (after (during OfTick true ∷ []) ≡ mark 2 0) × (after (during OfTick false ∷ []) ≡ mark 2 0)
nothing_to_raise = (refl, refl)

-- A count that was adopted is adopted again after a stop, and a lower one never: it is stale.
lower_is_stale : answers_of A (to_11 A 2 section_11_two ∷ tick A 0 ∷ Do A Stop ∷ to_11 A 1 section_11 ∷ to_11 A 2 section_11_two ∷ []) ≡ Candidate ∷ Refused StaleCount ∷ []
lower_is_stale = refl

-- With a lead of 10 a publish stores 10 instants more, and up to there nothing is stored.
abbrev pub ahead : World
ahead = world_of Relative 10

abbrev pub leading : List Event → Stored
leading events = mark_of ahead (play ahead (to_the_tick ++ publish A ∷ events)) A

reserves_ahead : leading (Do A Stop ∷ []) ≡ mark 2 57478860011
reserves_ahead = refl

needs_no_store : leading (data_11 A 2 ∷ data_12 A 2 ∷ tick A 2 ∷ during OfPublish false ∷ []) ≡ mark 2 57478860011
needs_no_store = refl

stores_again : leading (data_11 A 12 ∷ data_12 A 12 ∷ tick A 12 ∷ publish A ∷ []) ≡ mark 1 57478860022
stores_again = refl

-- An absolute wait of 2: 57478860001 without the data of 12 closes where now is 57478860003, however often A ticked; a relative one
-- closes it at the second tick.
abbrev pub without_12 : World → List Event → List (Who × ℕ)
without_12 V ticks = instants_of (play V (to_11 A 1 section_11 ∷ to_12 A ∷ tick A 0 ∷ data_11 A 1 ∷ ticks ++ publish A ∷ []))

relative_counts_ticks : (without_12 W (tick A 0 ∷ []) ≡ []) × (without_12 W (tick A 0 ∷ tick A 0 ∷ []) ≡ (A, 57478860001) ∷ [])
relative_counts_ticks = (refl, refl)

absolute_counts_instants : (without_12 (world_of Absolute 0) (tick A 0 ∷ tick A 2 ∷ tick A 2 ∷ []) ≡ []) × (without_12 (world_of Absolute 0) (tick A 3 ∷ []) ≡ (A, 57478860001) ∷ [])
absolute_counts_instants = (refl, refl)

-- A lost the data of 12, B that of 11; both publish, and the merger's row has both.
abbrev pub ones : List (ℕ × SectionFields)
ones = (0, fields_11 1 section_11) ∷ (1, fields_12) ∷ []

abbrev pub layout_from : ℕ → Event
layout_from s = Bring M s e1 (Layout (Some (record { start = 1; change = 1 })) ones)

abbrev pub body_absent : List ℕ
body_absent = bytes_of_words (0xA1F0 ∷ replicate 4 0x8000)

abbrev pub data_from : ℕ → List ℕ → Event
data_from s blocks = Bring M s e3 (Data 57478860001 0 (bytes_of_words (own_block 1 1) ++ blocks))

abbrev pub merged : List Happened
merged = play W (layout_from 0 ∷ layout_from 1 ∷ tick M 0 ∷ data_from 0 (body_3 ++ body_absent) ∷ data_from 1 (body_absent ++ body_4) ∷ tick M 1 ∷ publish M ∷ [])

merged_from_both : slice_get (sent W merged) 1 ≡ Some o3
unfolding tag_of nearest_of check_word_of
merged_from_both = refl

merged_mark : mark_of W merged M ≡ mark 1 57478860001
merged_mark = refl

-- What is told of the script, the first first: six frames are sent, 4 and 5 by A itself.
abbrev pub told : World → List Happened → List Told
told V [] = []
told V (h ∷ H) = told V H ++ told_of V H h ∷ []

abbrev pub row_1 : RowView
row_1 = record {
  instant = 57478860001;
  start = 1;
  change = 1;
  quality = 0;
  blocks = record { shape = one_phasor; words = words_in body_3 } ∷ record { shape = one_phasor; words = words_in body_4 } ∷ [];
}

told_of_the_script : told W stopped
    ≡ SentAs 0 ∷ SentAs 1 ∷ SentAs 2 ∷ SentAs 3 ∷ Answered Candidate ∷ Answered Candidate ∷ Closed 0 (Some 1) false ∷ Answered Taken ∷ Answered Taken
    ∷ Closed 1 None false ∷ Gave (Some row_1) ∷ Gave None ∷ Began 2 57478860001 ∷ []
told_of_the_script = refl

-- The next send is number 6.
the_next_is_6 : told_of W stopped (Sends e1) ≡ SentAs 6
the_next_is_6 = refl
