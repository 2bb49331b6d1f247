-- Faults worked out: a frame that was not sent, start numbers used up, bytes that are no frame of a PMU, and another body for an instant.
use Rattle.std.proofs.Common.{ap, arith, get_or, inr}
use Rattle.pdc_history.specs.Asked.{Do}
use Rattle.pdc_history.proofs.Names.{[], ◌∷◌, ◌≡◌, A, body_3, DataFrame, e3, false, Fields, Foreign, FrameLaws, IsFault, IsFrame, List, MayHappen, NoSuchFrame, OfStart, OtherBody, refl, Relative, Send, Sends, spelling_of, StartsUsedUp, Stop, StopDuring, Stored, To, true, World, ℕ}
use Rattle.pdc_history.proofs.{Vectors.{merger, node, pmu_11}, Worked.{new_mark, script, W, zeros}, WorkedHistory.{bytes_by_test, data_3, the_slot}}
use Rattle.pdc_history.specs.Event as events

-- Six frames were sent: there is no number 9.
no_frame_9 : IsFault W script (To A 9) NoSuchFrame
no_frame_9 = omega arith

-- A's life has the last start number but one: a stop is left, and where a second one falls into its start, none if that landed.
abbrev pub late_mark : Stored
late_mark = record { start = 4294967294; floor = 0; counts = zeros }

abbrev pub late : World
late = record {
  a = record { settings = node Relative 201 (omega arith, omega arith) refl; lead = 0; mark = late_mark };
  b = record { settings = node Relative 202 (omega arith, omega arith) refl; lead = 0; mark = new_mark };
  m = record { settings = merger; lead = 0; mark = new_mark };
}

a_stop_is_left : MayHappen late [] (events.Do A Stop)
a_stop_is_left = omega arith

lost_is_left : MayHappen late [] (events.Do A (StopDuring OfStart false))
lost_is_left = omega arith

landed_is_used_up : IsFault late [] (Do A (StopDuring OfStart true)) StartsUsedUp
landed_is_used_up = omega arith

-- after one stop the last start number is used
after_one_stop : IsFault late (events.happens late [] (events.Do A Stop) ∷ []) (Do A Stop) StartsUsedUp
after_one_stop = omega arith

-- no bytes are no frame
no_spelling : (f : Fields) → [] ≡ spelling_of f → ⊥
no_spelling f q = cc

nothing_is_foreign : IsFault W [] (Send []) Foreign
nothing_is_foreign p pmu k = no_spelling k.fields k.of_stream.frame.spelled

-- 11 sent e3 for the instant 57478860001; other words for it are another body.
abbrev pub body_other : List ℕ
body_other = 0 ∷ 0 ∷ 57 ∷ 44 ∷ 0 ∷ 0 ∷ 9 ∷ 196 ∷ 0 ∷ 0 ∷ []

abbrev other_fields : Fields
other_fields = record { kind = DataFrame; version = 2; id = 11; soc = 1149577200; quality = 0; frac = 20000; payload = body_other }

other_frame : IsFrame (spelling_of other_fields) other_fields
other_frame = record { fits = record { version = inr refl; id_low = omega arith; id_high = omega arith; soc = omega arith; quality = omega arith; frac = omega arith; size = omega arith; bytes = bytes_by_test body_other refl }; spelled = refl }

other_words : body_other ≡ body_3 → ⊥
other_words q = let third : ◌≡◌ {A = ℕ} 44 43 = ap (λ (xs : List ℕ). get_or xs 3 0) q in omega (arith, third)

other_body : FrameLaws → IsFault W (Sends e3 ∷ []) (Send (spelling_of other_fields)) OtherBody
other_body F = record {
  p = 0;
  pmu = pmu_11;
  of_pmu = record { listed = refl; fields = other_fields; of_stream = record { frame = other_frame; id = refl } };
  instant = 57478860001;
  quality = 0;
  payload = body_other;
  is_data = record {
    fields = other_fields;
    of_stream = record { frame = other_frame; id = refl };
    kind = refl;
    same_quality = refl;
    same_payload = refl;
    tag = (F.instant 1149577200 20000 1000000 50 57478860001).0 the_slot;
  };
  other = e3;
  among = (0, omega arith, refl);
  its_quality = 0;
  its_payload = body_3;
  was = data_3 F;
  differs = other_words;
}
