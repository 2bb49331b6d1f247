-- The PMUs, sections and settings of the worked world, whose frames are those of the worked lives.
use Rattle.std.proofs.Common.{arith}
use Rattle.pdc_history.proofs.Names.{[], ◌<◌, ◌∷◌, ◌≡◌, ◌≤◌, are_distinct, false, Hz50, List, MergedNode, MergerSettings, Output, Pmu, refl, Relative, section_12, SectionFields, Settings, Shape, Timing, true, WaitKind, ℕ}

abbrev pub one_phasor : Shape
one_phasor = record { phasors = 1; analogs = 0; digitals = 0; phasors_fit = omega arith; analogs_fit = omega arith; digitals_fit = omega arith }

abbrev pub fields_11 : ℕ → List ℕ → SectionFields
fields_11 count bytes = record { bytes = bytes; shape = one_phasor; source = 11; count = count; polar = false }

abbrev pub fields_12 : SectionFields
fields_12 = record { bytes = section_12; shape = one_phasor; source = 12; count = 1; polar = false }

-- ---- settings

abbrev pub pmu_11 : Pmu
pmu_11 = record { stream = record { value = 11; low = omega arith; high = omega arith }; source = 11; time_base = 1000000; source_low = omega arith; source_high = omega arith; time_base_high = omega arith }

abbrev pub pmu_12 : Pmu
pmu_12 = record { stream = record { value = 12; low = omega arith; high = omega arith }; source = 12; time_base = 1000000; source_low = omega arith; source_high = omega arith; time_base_high = omega arith }

abbrev pub output : (id : ℕ) → (0 < id) × (id ≤ 65534) → Output
output id in_range = record {
  id = record { value = id; low = in_range.0; high = in_range.1 };
  rate = 50;
  nominal = Hz50;
  time_base = 1000000;
  rate_low = omega arith;
  rate_high = omega arith;
  time_base_low = omega arith;
  time_base_high = omega arith;
}

-- wait 2, window 64, ahead 32
abbrev pub timing : WaitKind → Timing
timing kind = record {
  wait = 2;
  wait_kind = kind;
  window = 64;
  ahead = 32;
  wait_low = omega arith;
  wait_high = omega arith;
  window_low = omega arith;
  window_high = omega arith;
  ahead_high = omega arith;
}

-- nodes 201 and 202
abbrev pub node : (kind : WaitKind) → (id : ℕ) → (0 < id) × (id ≤ 65534) → are_distinct (id ∷ 11 ∷ 12 ∷ []) ≡ true → Settings
node kind id in_range distinct = record {
  output = output id in_range;
  timing = timing kind;
  pmus = record { items = pmu_11 ∷ pmu_12 ∷ [] };
  some = omega arith;
  few = omega arith;
  bases = refl;
  streams = distinct;
  sources = distinct;
}

abbrev pub merged_node : (id : ℕ) → (0 < id) × (id ≤ 65534) → MergedNode
merged_node id in_range = record { id = record { value = id; low = in_range.0; high = in_range.1 }; time_base = 1000000; time_base_high = omega arith }

-- merger 301
abbrev pub merger : MergerSettings
merger = record {
  output = output 301 (omega arith, omega arith);
  timing = timing Relative;
  first = merged_node 201 (omega arith, omega arith);
  second = merged_node 202 (omega arith, omega arith);
  sources = record { items = 11 ∷ 12 ∷ [] };
  first_base = omega arith;
  second_base = omega arith;
  some = omega arith;
  few = omega arith;
  in_range = refl;
  own = refl;
  distinct = refl;
}
