-- The spelling of a configuration: the payload of a frame CFG-1 or CFG-2 (IEEE C37.118.2-2011, 6.4 and table 8).
use Rattle.std.specs.Prelude.{◌≡◌, ◌⊎◌, ℕ, ℤ, ◌+◌, ◌-◌, ◌*◌, ◌^◌, ◌<◌, ◌≤◌, List, ◌++◌, length, map, slice_range, FitsSigned}
use Rattle.std.specs.List.{flat_map, AllByRecursion}
use Rattle.std.specs.Int.{w16, w32, to_be_bytes, cast_unsigned}
use Rattle.pdc_frame.specs.Bytes.{word_at}
use Rattle.pdc_frame.specs.Frame.{Fields}
use Rattle.pdc_frame.specs.declared.frame.Kind.{Kind}
use Rattle.pdc_frame.specs.declared.frame.Kind.TheVariants.{Cfg1, Cfg2}
use Rattle.pdc_cfg.specs.declared.config.ConfigView.{ConfigView}
use Rattle.pdc_cfg.specs.declared.fault.CfgFault.{CfgFault}
use Rattle.pdc_cfg.specs.declared.fault.CfgFault.TheVariants.{WrongKind, Cut, TooMany, FloatFormat}
use Rattle.pdc_cfg.specs.Section.{SectionFields, fields_of_view, IsSection, IsSectionFault}

-- a frame of this kind has a configuration
abbrev pub IsConfigKind : Kind → Type 0
IsConfigKind Cfg1 = Unit {0}
IsConfigKind Cfg2 = Unit {0}
IsConfigKind _ = ⊥

-- what a configuration says, wherever its sections lie in memory
pub record ConfigFields : Type 0 where
  pub flags : ℕ
  pub time_base : ℕ
  pub sections : List SectionFields
  pub rate : ℤ

abbrev pub config_fields_of : ConfigView → ConfigFields
config_fields_of c = record {
  flags = c.flags;
  time_base = c.time_base;
  sections = map fields_of_view c.sections.items;
  rate = c.rate;
}

-- the bytes of the sections, one after the other
abbrev pub bytes_of_sections : List SectionFields → List ℕ
bytes_of_sections sections = flat_map (λ s. s.bytes) sections

-- TIME_BASE with its flags in the high byte, NUM_PMU, the sections, DATA_RATE
abbrev pub payload_of : ConfigFields → List ℕ
payload_of c =
    to_be_bytes w32 (c.flags * 2 ^ 24 + c.time_base) ++ to_be_bytes w16 (length c.sections)
    ++ bytes_of_sections c.sections ++ to_be_bytes w16 (cast_unsigned w16 c.rate)

-- The payload is a configuration that says this.
pub record IsConfig (payload : List ℕ) (c : ConfigFields) : Type 0 where
  pub flags : c.flags < 2 ^ 8
  pub time_base : c.time_base < 2 ^ 24
  pub some : 0 < length c.sections
  pub few : length c.sections ≤ 17
  pub sections : AllByRecursion IsSection c.sections
  pub rate : FitsSigned w16 c.rate
  pub spelled : payload ≡ payload_of c

-- NUM_PMU
abbrev pub section_count_in : List ℕ → ℕ
section_count_in payload = word_at payload 4

-- what stands between NUM_PMU and DATA_RATE
abbrev pub body_in : List ℕ → List ℕ
body_in payload = slice_range payload 6 (length payload - 2)

-- The body begins with these sections, and this is the rest.
pub record Begins (body : List ℕ) (sections : List SectionFields) (rest : List ℕ) : Type 0 where
  pub whole : AllByRecursion IsSection sections
  pub parts : body ≡ bytes_of_sections sections ++ rest

-- Why a body is not this many sections: so many sections stand there, and either none of those that are wanted
-- follows, for this cause, or bytes are left over.
pub record StopsAt (count : ℕ) (body : List ℕ) (fault : CfgFault) : Type 0 where
  pub sections : List SectionFields
  pub rest : List ℕ
  pub begins : Begins body sections rest
  pub fewer : length sections < count
  pub cause : IsSectionFault rest fault

pub record HasMore (count : ℕ) (body : List ℕ) : Type 0 where
  pub sections : List SectionFields
  pub rest : List ℕ
  pub begins : Begins body sections rest
  pub all : length sections ≡ count
  pub more : 0 < length rest

abbrev pub IsBodyFault : ℕ → List ℕ → CfgFault → Type 0
IsBodyFault count body Cut = StopsAt count body Cut ⊎ HasMore count body
IsBodyFault count body fault = StopsAt count body fault

-- NUM_PMU is 1 to 17.
abbrev pub IsSome : List ℕ → Type 0
IsSome payload = (0 < section_count_in payload) × (section_count_in payload ≤ 17)

abbrev pub IsBodyFaultIn : List ℕ → CfgFault → Type 0
IsBodyFaultIn payload fault =
    (8 ≤ length payload) × IsSome payload × IsBodyFault (section_count_in payload) (body_in payload) fault

-- Why a payload is no configuration: the first cause that holds, in reading order.
abbrev pub IsPayloadFault : List ℕ → CfgFault → Type 0
IsPayloadFault payload WrongKind = ⊥
IsPayloadFault payload Cut = (length payload < 8) ⊎ IsBodyFaultIn payload Cut
IsPayloadFault payload TooMany = ((8 ≤ length payload) × (IsSome payload → ⊥)) ⊎ IsBodyFaultIn payload TooMany
IsPayloadFault payload FloatFormat = IsBodyFaultIn payload FloatFormat

-- Why a frame of this kind with this payload is no configuration: its kind comes first.
abbrev pub IsFirstFault : Kind → List ℕ → CfgFault → Type 0
IsFirstFault kind payload WrongKind = IsConfigKind kind → ⊥
IsFirstFault kind payload fault = IsConfigKind kind × IsPayloadFault payload fault

-- the frame that has this configuration: version 2, time quality 0 and count 0 in FRACSEC
abbrev pub config_frame_of : Kind → ℕ → ℕ → ConfigFields → Fields
config_frame_of kind id soc c = record { kind = kind; version = 2; id = id; soc = soc; quality = 0; frac = 0; payload = payload_of c }
