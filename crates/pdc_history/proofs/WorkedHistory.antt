-- The worked script is a history: its premises hold, so what is proved of all histories is proved of something.
use Rattle.std.proofs.Common.{[], ◌&&◌, ◌++◌, ◌+◌, ◌<◌, ◌^◌, ◌∙◌, ◌∷◌, ◌≡◌, ap, arith, Bool, drop, false, get_or, inr, length, List, None, refl, rules, Some, suc, sym, take, true, zero, ℕ}
use Rattle.pdc_frame.specs.CheckWord.{check_word_of}
use Rattle.pdc_frame.specs.{Instant.{instant_of}, Nearest.{nearest_of}, Slot.{slot_of}}
use Rattle.pdc_history.proofs.Names.{◌-◌, ◌≢◌, A, AllByRecursion, AreBytes, B, body_3, body_4, cast_signed, Cfg2, ConfigFields, Data, DataFrame, Do, e1, e2, e3, e4, Event, EventsMakeHistories, false≢true, Fields, first_mark, Fits, FrameLaws, Happened, history_from, is_same, IsConfig, IsData, IsFrame, IsHistory, IsSection, IsValid, Kind, Layout, list_all, M, MayAllHappen, MayBegin, MayCome, MaySend, nat_lt, output_of, Pmu, Publish, section_11, section_12, SectionFields, Sends, Stop, Stream, stream_of, w16, Who}
use Rattle.pdc_history.proofs.{Lists.{element, not_in_none}, Vectors.{fields_11, fields_12, pmu_11, pmu_12}, Worked.{data_11, sends, tick, to_11, to_12, to_the_tick, W}}

-- ---- the settings agree

one_rate : (who : Who) → (output_of W who).rate ≡ 50
one_rate A = refl
one_rate who = refl

three_ids : (v w : Who) → (output_of W v).id.value ≡ (output_of W w).id.value → is_same v w ≡ true
three_ids A A q = refl
three_ids B B q = refl
three_ids M M q = refl
three_ids v w q = absurd (omega (arith, q))

none_is_a_pmu : (who : Who) → AllByRecursion (λ (pmu : Pmu). pmu.stream.value ≢ (output_of W who).id.value) (pmu_11 ∷ pmu_12 ∷ [])
none_is_a_pmu A = (λ q. omega (arith, q), (λ q. omega (arith, q), tt))
none_is_a_pmu who = (λ q. omega (arith, q), (λ q. omega (arith, q), tt))

one_start : (who : Who) → (first_mark W who).start < 2 ^ 32
one_start A = omega arith
one_start who = omega arith

begins : MayBegin W
begins = record {
  settings = record {
    streams = refl;
    time_bases = refl;
    sources = refl;
    merged = refl;
    first_id = refl;
    first_time_base = refl;
    second_id = refl;
    second_time_base = refl;
    rate = one_rate;
    own_ids = three_ids;
    no_pmu = none_is_a_pmu;
  };
  starts = one_start;
}

-- ---- the frames of the PMUs

both : (a b : Bool) → (a && b) ≡ true → (a ≡ true) × (b ≡ true)
both true b h = (refl, h)
both false b h = absurd (false≢true h)

is_below : (a b : ℕ) → nat_lt a b ≡ true → a < b
is_below a b h = search rules

pub bytes_by_test : (xs : List ℕ) → list_all (λ byte. nat_lt byte 256) xs ≡ true → AreBytes xs
bytes_by_test [] h i = nothing_there i
  where
    nothing_there : (i : ℕ) → get_or [] i 0 < 256
    nothing_there zero = omega arith
    nothing_there (suc i) = omega arith
bytes_by_test (x ∷ xs) h zero = is_below x 256 (both (nat_lt x 256) (list_all (λ byte. nat_lt byte 256) xs) h).0
bytes_by_test (x ∷ xs) h (suc i) = bytes_by_test xs (both (nat_lt x 256) (list_all (λ byte. nat_lt byte 256) xs) h).1 i

abbrev pub frame_of : Kind → (id frac : ℕ) → (bytes : List ℕ) → Fields
frame_of kind id frac bytes = record { kind = kind; version = 1 + 1; id = id; soc = 1149577200; quality = 0; frac = frac; payload = take (length bytes - 16) (drop 14 bytes) }

pub fits_of : (kind : Kind) (id frac : ℕ) (bytes : List ℕ) → 0 < id → id < 65535 → frac < 2 ^ 24 → length (take (length bytes - 16) (drop 14 bytes)) + 16 < 2 ^ 16 → list_all (λ byte. nat_lt byte 256) (take (length bytes - 16) (drop 14 bytes)) ≡ true
    → Fits (frame_of kind id frac bytes)
fits_of kind id frac bytes low high few size test = record {
  version = inr refl;
  id_low = low;
  id_high = high;
  soc = omega arith;
  quality = omega arith;
  frac = few;
  size = size;
  bytes = bytes_by_test (take (length bytes - 16) (drop 14 bytes)) test;
}

frame_1 : IsFrame e1 (frame_of Cfg2 11 0 e1)
unfolding check_word_of
frame_1 = record { fits = fits_of Cfg2 11 0 e1 (omega arith) (omega arith) (omega arith) (omega arith) refl; spelled = refl }

frame_2 : IsFrame e2 (frame_of Cfg2 12 0 e2)
unfolding check_word_of
frame_2 = record { fits = fits_of Cfg2 12 0 e2 (omega arith) (omega arith) (omega arith) (omega arith) refl; spelled = refl }

pub frame_3 : IsFrame e3 (frame_of DataFrame 11 20000 e3)
unfolding check_word_of
frame_3 = record { fits = fits_of DataFrame 11 20000 e3 (omega arith) (omega arith) (omega arith) (omega arith) refl; spelled = refl }

frame_4 : IsFrame e4 (frame_of DataFrame 12 20000 e4)
unfolding check_word_of
frame_4 = record { fits = fits_of DataFrame 12 20000 e4 (omega arith) (omega arith) (omega arith) (omega arith) refl; spelled = refl }

is_section_11 : IsSection (fields_11 1 section_11)
is_section_11 = record { fits = bytes_by_test section_11 refl; size = refl; source = refl; integers = refl; polar = refl; phasors = refl; analogs = refl; digitals = refl; count = refl }

is_section_12 : IsSection fields_12
is_section_12 = record { fits = bytes_by_test section_12 refl; size = refl; source = refl; integers = refl; polar = refl; phasors = refl; analogs = refl; digitals = refl; count = refl }

abbrev config_of : SectionFields → ConfigFields
config_of s = record { flags = 0; time_base = 1000000; sections = s ∷ []; rate = cast_signed w16 50 }

config_1 : IsConfig (frame_of Cfg2 11 0 e1).payload (config_of (fields_11 1 section_11))
config_1 = record { flags = omega arith; time_base = omega arith; some = omega arith; few = omega arith; sections = (is_section_11, tt); rate = record { sfits = omega arith }; spelled = refl }

config_2 : IsConfig (frame_of Cfg2 12 0 e2).payload (config_of fields_12)
config_2 = record { flags = omega arith; time_base = omega arith; some = omega arith; few = omega arith; sections = (is_section_12, tt); rate = record { sfits = omega arith }; spelled = refl }

valid_1 : IsValid W.a.settings pmu_11 e1 (fields_11 1 section_11)
valid_1 = record {
  config = config_of (fields_11 1 section_11);
  base = record { has = record { fields = frame_of Cfg2 11 0 e1; of_stream = record { frame = frame_1; id = refl }; kind = refl; config = config_1 }; time_base = refl; rate = refl };
  one = refl;
  source = refl;
}

valid_2 : IsValid W.a.settings pmu_12 e2 fields_12
valid_2 = record {
  config = config_of fields_12;
  base = record { has = record { fields = frame_of Cfg2 12 0 e2; of_stream = record { frame = frame_2; id = refl }; kind = refl; config = config_2 }; time_base = refl; rate = refl };
  one = refl;
  source = refl;
}

pub the_slot : instant_of 1149577200 20000 1000000 50 ≡ Some 57478860001
unfolding instant_of slot_of nearest_of
the_slot = refl

pub data_3 : FrameLaws → IsData (stream_of W.a.settings pmu_11) e3 57478860001 0 body_3
data_3 F = record {
  fields = frame_of DataFrame 11 20000 e3;
  of_stream = record { frame = frame_3; id = refl };
  kind = refl;
  same_quality = refl;
  same_payload = refl;
  tag = (F.instant 1149577200 20000 1000000 50 57478860001).0 the_slot;
}

data_4 : FrameLaws → IsData (stream_of W.a.settings pmu_12) e4 57478860001 0 body_4
data_4 F = record {
  fields = frame_of DataFrame 12 20000 e4;
  of_stream = record { frame = frame_4; id = refl };
  kind = refl;
  same_quality = refl;
  same_payload = refl;
  tag = (F.instant 1149577200 20000 1000000 50 57478860001).0 the_slot;
}

-- ---- a frame is one kind of thing

no_data : FrameLaws → (stream : Stream) (bytes : List ℕ) (f : Fields) (i q : ℕ) (payload : List ℕ) → IsFrame bytes f → f.kind ≡ Cfg2 → IsData stream bytes i q payload → ⊥
no_data F stream bytes f i q payload frame kind d =
    let e : Cfg2 ≡ DataFrame = sym kind ∙ ap (λ (x : Fields). x.kind) (F.one_frame bytes f d.fields frame d.of_stream.frame) ∙ d.kind in cc

no_valid : FrameLaws → (pmu : Pmu) (bytes : List ℕ) (f : Fields) (s : SectionFields) → IsFrame bytes f → f.kind ≡ DataFrame → IsValid W.a.settings pmu bytes s → ⊥
no_valid F pmu bytes f s frame kind v =
    let e : DataFrame ≡ Cfg2 = sym kind ∙ ap (λ (x : Fields). x.kind) (F.one_frame bytes f v.base.has.fields frame v.base.has.of_stream.frame) ∙ v.base.has.kind in cc

other_data : FrameLaws → (stream : Stream) (bytes : List ℕ) (f : Fields) (i q : ℕ) (payload : List ℕ) → IsFrame bytes f → f.id ≢ stream.id → IsData stream bytes i q payload → ⊥
other_data F stream bytes f i q payload frame differs d =
    differs (ap (λ (x : Fields). x.id) (F.one_frame bytes f d.fields frame d.of_stream.frame) ∙ d.of_stream.id)

other_valid : FrameLaws → (pmu : Pmu) (bytes : List ℕ) (f : Fields) (s : SectionFields) → IsFrame bytes f → f.id ≢ pmu.stream.value → IsValid W.a.settings pmu bytes s → ⊥
other_valid F pmu bytes f s frame differs v =
    differs (ap (λ (x : Fields). x.id) (F.one_frame bytes f v.base.has.fields frame v.base.has.of_stream.frame) ∙ v.base.has.of_stream.id)

twelve : ◌≢◌ {A = ℕ} 11 12
twelve q = omega (arith, q)

-- ---- the premises of the script's events

send_1 : FrameLaws → MaySend W [] e1
send_1 F = record {
  p = 0;
  pmu = pmu_11;
  of_pmu = record { listed = refl; fields = frame_of Cfg2 11 0 e1; of_stream = record { frame = frame_1; id = refl } };
  one_body = λ other i q r payload body k d e. absurd (no_data F (stream_of W.a.settings pmu_11) e1 (frame_of Cfg2 11 0 e1) i q payload frame_1 refl d);
  one_section = λ other s t k v w same. absurd (not_in_none other k);
}

send_2 : FrameLaws → MaySend W (Sends e1 ∷ []) e2
send_2 F = record {
  p = 1;
  pmu = pmu_12;
  of_pmu = record { listed = refl; fields = frame_of Cfg2 12 0 e2; of_stream = record { frame = frame_2; id = refl } };
  one_body = λ other i q r payload body k d e. absurd (no_data F (stream_of W.a.settings pmu_12) e2 (frame_of Cfg2 12 0 e2) i q payload frame_2 refl d);
  one_section = λ other s t k v w same.
      absurd (element (λ (x : List ℕ). (z : SectionFields) → IsValid W.a.settings pmu_12 x z → ⊥) (e1 ∷ []) other (λ z. other_valid F pmu_12 e1 (frame_of Cfg2 11 0 e1) z frame_1 twelve, tt) k t w);
}

send_3 : FrameLaws → MaySend W (Sends e2 ∷ Sends e1 ∷ []) e3
send_3 F = record {
  p = 0;
  pmu = pmu_11;
  of_pmu = record { listed = refl; fields = frame_of DataFrame 11 20000 e3; of_stream = record { frame = frame_3; id = refl } };
  one_body = λ other i q r payload body k d e.
      absurd (element (λ (x : List ℕ). (j n : ℕ) (words : List ℕ) → IsData (stream_of W.a.settings pmu_11) x j n words → ⊥) (e1 ∷ e2 ∷ []) other
      (λ j n words. no_data F (stream_of W.a.settings pmu_11) e1 (frame_of Cfg2 11 0 e1) j n words frame_1 refl, (λ j n words. no_data F (stream_of W.a.settings pmu_11) e2 (frame_of Cfg2 12 0 e2) j n words frame_2 refl, tt)) k i r body e);
  one_section = λ other s t k v w same. absurd (no_valid F pmu_11 e3 (frame_of DataFrame 11 20000 e3) s frame_3 refl v);
}

send_4 : FrameLaws → MaySend W (Sends e3 ∷ Sends e2 ∷ Sends e1 ∷ []) e4
send_4 F = record {
  p = 1;
  pmu = pmu_12;
  of_pmu = record { listed = refl; fields = frame_of DataFrame 12 20000 e4; of_stream = record { frame = frame_4; id = refl } };
  one_body = λ other i q r payload body k d e.
      absurd (element (λ (x : List ℕ). (j n : ℕ) (words : List ℕ) → IsData (stream_of W.a.settings pmu_12) x j n words → ⊥) (e1 ∷ e2 ∷ e3 ∷ []) other (
        λ j n words. no_data F (stream_of W.a.settings pmu_12) e1 (frame_of Cfg2 11 0 e1) j n words frame_1 refl,
        (
          λ j n words. no_data F (stream_of W.a.settings pmu_12) e2 (frame_of Cfg2 12 0 e2) j n words frame_2 refl,
          (λ j n words. other_data F (stream_of W.a.settings pmu_12) e3 (frame_of DataFrame 11 20000 e3) j n words frame_3 twelve, tt),
        ),
      ) k i r body e);
  one_section = λ other s t k v w same. absurd (no_valid F pmu_12 e4 (frame_of DataFrame 12 20000 e4) s frame_4 refl v);
}

abbrev after : List Event → List Happened
after events = history_from W [] events

come_1 : MayCome W (after sends) A 0 e1 (Layout None ((0, fields_11 1 section_11) ∷ []))
come_1 = record { says = record { sender = pmu_11; listed = refl; reads = (refl, valid_1) }; was_sent = λ k. (0, omega arith, refl) }

come_2 : MayCome W (after (sends ++ to_11 A 1 section_11 ∷ [])) A 1 e2 (Layout None ((1, fields_12) ∷ []))
come_2 = record { says = record { sender = pmu_12; listed = refl; reads = (refl, valid_2) }; was_sent = λ k. (1, omega arith, refl) }

come_3 : FrameLaws → MayCome W (after (sends ++ to_11 A 1 section_11 ∷ to_12 A ∷ tick A 0 ∷ [])) A 0 e3 (Data 57478860001 0 body_3)
come_3 F = record { says = record { sender = pmu_11; listed = refl; reads = data_3 F }; was_sent = λ k. (2, omega arith, refl) }

come_4 : FrameLaws → MayCome W (after (sends ++ to_11 A 1 section_11 ∷ to_12 A ∷ tick A 0 ∷ data_11 A 1 ∷ [])) A 1 e4 (Data 57478860001 0 body_4)
come_4 F = record { says = record { sender = pmu_12; listed = refl; reads = data_4 F }; was_sent = λ k. (3, omega arith, refl) }

-- The script may happen, up to the stop after its publish.
the_script_may_happen : FrameLaws → MayAllHappen W [] (to_the_tick ++ Do A Publish ∷ Do A Publish ∷ Do A Stop ∷ [])
the_script_may_happen F = (send_1 F, (send_2 F, (send_3 F, (send_4 F, (come_1, (come_2, (tt, (come_3 F, (come_4 F, (tt, (tt, (tt, (omega arith, tt)))))))))))))

pub the_script_is_a_history : FrameLaws → EventsMakeHistories → IsHistory W (after (to_the_tick ++ Do A Publish ∷ Do A Publish ∷ Do A Stop ∷ []))
the_script_is_a_history F made = made W [] (to_the_tick ++ Do A Publish ∷ Do A Publish ∷ Do A Stop ∷ []) begins (the_script_may_happen F)
