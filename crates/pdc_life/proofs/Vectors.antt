-- The PMUs, sections and outputs of the worked lives, whose frames stand in the definitions.
use Rattle.pdc_life.proofs.Names.{◌<◌, ◌≤◌, arith, false, Hz50, List, Pmu, SectionFields, Shape, ℕ}
use Rattle.pdc_row.specs.declared.output.Output.{Output}
use Rattle.pdc_life.specs.Vectors.{section_12, section_13}

abbrev pub one_phasor : Shape
one_phasor = record { phasors = 1; analogs = 0; digitals = 0; phasors_fit = omega arith; analogs_fit = omega arith; digitals_fit = omega arith }

abbrev pub fields_11 : ℕ → List ℕ → SectionFields
fields_11 count bytes = record { bytes = bytes; shape = one_phasor; source = 11; count = count; polar = false }

abbrev pub fields_12 : SectionFields
fields_12 = record { bytes = section_12; shape = one_phasor; source = 12; count = 1; polar = false }

abbrev pub fields_13 : SectionFields
fields_13 = record { bytes = section_13; shape = one_phasor; source = 13; count = 1; polar = false }

abbrev pub pmu_11 : Pmu
pmu_11 = record { stream = record { value = 11; low = omega arith; high = omega arith }; source = 11; time_base = 1000000; source_low = omega arith; source_high = omega arith; time_base_high = omega arith }

abbrev pub pmu_12 : Pmu
pmu_12 = record { stream = record { value = 12; low = omega arith; high = omega arith }; source = 12; time_base = 1000000; source_low = omega arith; source_high = omega arith; time_base_high = omega arith }

-- nodes 201 and 202, and merger 301
abbrev pub output : (id : ℕ) → (0 < id) × (id ≤ 65534) → Output
output id in_range = record {
  id = record { value = id; low = in_range.0; high = in_range.1 };
  rate = 50;
  nominal = Hz50;
  time_base = 1000000;
  rate_low = omega arith;
  rate_high = omega arith;
  time_base_low = omega arith;
  time_base_high = omega arith;
}
