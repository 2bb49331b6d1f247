-- Whether bytes are a valid configuration with a section can be told.
use Rattle.std.proofs.Common.{[], ◌%◌, ◌*◌, ◌+◌, ◌/◌, ◌<◌, ◌^◌, ◌∙◌, ◌∷◌, ◌≡◌, ap, arith, if◌then◌else◌, length, List, refl, subst, sym, ℕ}
use Rattle.pdc_world.proofs.HeadlineNames.{analogs_in, AreBytes, cast_signed, cast_unsigned, Cfg2, ConfigFields, count_in, digitals_in, Fields, format_in, HasIntegers, IsConfig, IsFrame, IsSection, IsValid, long_at, payload_of, phasors_in, Pmu, read_sfits, section_len_of, SectionFields, Settings, source_in, to_z-of_z, w16, word_at}
use Rattle.pdc_world.proofs.{Reading.{config_in, frame_stands_there, is_frame}, Told.{are_below, both, is_below, is_list, is_number, IsTold, likewise}}

-- ---- sections

abbrev SectionParts : SectionFields → Type 0
SectionParts s =
    AreBytes s.bytes × ((length s.bytes ≡ section_len_of s.shape) × ((source_in s.bytes ≡ s.source) × (HasIntegers s.bytes × ((format_in s.bytes % 2 ≡ (if s.polar then 1 else 0))
    × ((phasors_in s.bytes ≡ s.shape.phasors) × ((analogs_in s.bytes ≡ s.shape.analogs) × ((digitals_in s.bytes ≡ s.shape.digitals) × (count_in s.bytes ≡ s.count))))))))

section_of_parts : (s : SectionFields) → SectionParts s → IsSection s
section_of_parts s (fits, (size, (source, (integers, (polar, (phasors, (analogs, (digitals, count)))))))) = record {
  fits = fits;
  size = size;
  source = source;
  integers = integers;
  polar = polar;
  phasors = phasors;
  analogs = analogs;
  digitals = digitals;
  count = count;
}

parts_of_section : (s : SectionFields) → IsSection s → SectionParts s
parts_of_section s k = (k.fits, (k.size, (k.source, (k.integers, (k.polar, (k.phasors, (k.analogs, (k.digitals, k.count))))))))

pub is_section : (s : SectionFields) → IsTold (IsSection s)
is_section s =
    likewise
    (both (are_below 256 s.bytes (omega arith)) (both (is_number (length s.bytes) (section_len_of s.shape)) (both (is_number (source_in s.bytes) s.source)
    (both (is_number (format_in s.bytes / 2 % 8) 0) (both (is_number (format_in s.bytes % 2) (if s.polar then 1 else 0)) (both (is_number (phasors_in s.bytes) s.shape.phasors)
    (both (is_number (analogs_in s.bytes) s.shape.analogs) (both (is_number (digitals_in s.bytes) s.shape.digitals) (is_number (count_in s.bytes) s.count)))))))))
    (section_of_parts s) (parts_of_section s)

-- ---- a configuration of one section, with this TIME_BASE and rate

abbrev config_with : (payload : List ℕ) (time_base rate : ℕ) → SectionFields → ConfigFields
config_with payload time_base rate s = record { flags = long_at payload 0 / 2 ^ 24; time_base = time_base; sections = s ∷ []; rate = cast_signed w16 rate }

is_config : (payload : List ℕ) (time_base rate : ℕ) (s : SectionFields) → IsTold (IsConfig payload (config_with payload time_base rate s))
is_config payload time_base rate s =
    likewise
    (both (is_below (long_at payload 0 / 2 ^ 24) (2 ^ 8)) (both (is_below time_base (2 ^ 24)) (both (is_section s) (is_list payload (payload_of (config_with payload time_base rate s))))))
    (λ p. record {
      flags = p.0;
      time_base = p.1.0;
      some = omega arith;
      few = omega arith;
      sections = (p.1.1.0, tt);
      rate = read_sfits w16 rate;
      spelled = p.1.1.1;
    }) (λ k. (k.flags, (k.time_base, (k.sections.0, k.spelled))))

flags_again : (c : ConfigFields) → c.flags < 2 ^ 8 → c.time_base < 2 ^ 24 → c.flags ≡ long_at (payload_of c) 0 / 2 ^ 24
flags_again c flags base =
    let whole : c.flags * 2 ^ 24 + c.time_base ≡ long_at (payload_of c) 0 = omega (arith, flags, base) in
    omega (arith, whole, base)

same_config : (payload : List ℕ) (time_base rate : ℕ) (s : SectionFields) (c : ConfigFields) → IsConfig payload c → c.time_base ≡ time_base → cast_unsigned w16 c.rate ≡ rate → c.sections ≡ s ∷ []
    → c ≡ config_with payload time_base rate s
same_config payload time_base rate s c is base rates sections =
    let flags : c.flags ≡ long_at payload 0 / 2 ^ 24 = flags_again c is.flags is.time_base ∙ ap (λ (b : List ℕ). long_at b 0 / 2 ^ 24) (sym is.spelled) in
    let signed : c.rate ≡ cast_signed w16 rate = sym (to_z-of_z w16 c.rate is.rate) ∙ ap (cast_signed w16) rates in
    λ i. record { flags = flags i; time_base = base i; sections = sections i; rate = signed i }

-- ---- a valid configuration

abbrev ValidParts : Settings → Pmu → List ℕ → SectionFields → Type 0
ValidParts settings pmu bytes s =
    IsFrame bytes (config_in bytes) × ((word_at bytes 4 ≡ pmu.stream.value) × (IsConfig (config_in bytes).payload (config_with (config_in bytes).payload pmu.time_base settings.output.rate s)
    × ((cast_unsigned w16 (cast_signed w16 settings.output.rate) ≡ settings.output.rate) × (s.source ≡ pmu.source))))

valid_of_parts : (settings : Settings) (pmu : Pmu) (bytes : List ℕ) (s : SectionFields) → ValidParts settings pmu bytes s → IsValid settings pmu bytes s
valid_of_parts settings pmu bytes s (frame, (id, (config, (rate, source)))) = record {
  config = config_with (config_in bytes).payload pmu.time_base settings.output.rate s;
  base = record {
    has = record { fields = config_in bytes; of_stream = record { frame = frame; id = id }; kind = refl; config = config };
    time_base = refl;
    rate = rate;
  };
  one = refl;
  source = source;
}

parts_of_valid : (settings : Settings) (pmu : Pmu) (bytes : List ℕ) (s : SectionFields) → IsValid settings pmu bytes s → ValidParts settings pmu bytes s
parts_of_valid settings pmu bytes s v =
    let f : Fields = v.base.has.fields in
    let same : f ≡ config_in bytes = frame_stands_there Cfg2 bytes f v.base.has.of_stream.frame v.base.has.kind in
    let is : IsConfig (config_in bytes).payload v.config = subst (λ (x : Fields). IsConfig x.payload v.config) same v.base.has.config in
    let signed : v.config.rate ≡ cast_signed w16 settings.output.rate = sym (to_z-of_z w16 v.config.rate is.rate) ∙ ap (cast_signed w16) v.base.rate in (
      subst (IsFrame bytes) same v.base.has.of_stream.frame,
      (
        sym (ap (λ (x : Fields). x.id) same) ∙ v.base.has.of_stream.id,
        (
          subst (IsConfig (config_in bytes).payload) (same_config (config_in bytes).payload pmu.time_base settings.output.rate s v.config is v.base.time_base v.base.rate v.one) is,
          (ap (cast_unsigned w16) (sym signed) ∙ v.base.rate, v.source),
        ),
      ),
    )

pub is_valid : (settings : Settings) (pmu : Pmu) (bytes : List ℕ) (s : SectionFields) → IsTold (IsValid settings pmu bytes s)
is_valid settings pmu bytes s =
    likewise
    (both (is_frame bytes (config_in bytes)) (both (is_number (word_at bytes 4) pmu.stream.value) (both (is_config (config_in bytes).payload pmu.time_base settings.output.rate s)
    (both (is_number (cast_unsigned w16 (cast_signed w16 settings.output.rate)) settings.output.rate) (is_number s.source pmu.source)))))
    (valid_of_parts settings pmu bytes s) (parts_of_valid settings pmu bytes s)
