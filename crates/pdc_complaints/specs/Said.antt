-- What a datagram says of its sender, as far as it is reported (IEEE C37.118.2-2011, 6.2 and 6.4, tables 2, 8 and 9).
use Rattle.std.specs.Prelude.{◌≡◌, refl, ℕ, List, [], ◌∷◌, length, map, nat_le, if◌then◌else◌, Option, Some, None}
use Rattle.pdc_life.specs.pdc_frame.Bytes.{word_at}
use Rattle.pdc_life.specs.pdc_frame.Frame.{Fields, IsFrame}
use Rattle.pdc_life.specs.pdc_frame.declared.frame.Kind.TheVariants.{Cfg2}
use Rattle.pdc_life.specs.pdc_cfg.Config.{ConfigFields, IsConfig}
use Rattle.pdc_life.specs.pdc_cfg.Section.{SectionFields}
use Rattle.pdc_complaints.specs.declared.said.SaidConfiguration.{SaidConfiguration}
use Rattle.pdc_complaints.specs.declared.said.SaidSection.{SaidSection}

-- IDCODE is the word at byte 4 (table 2). Bytes that end before its end have none.
abbrev pub id_in : List ℕ → Option ℕ
id_in bytes = if nat_le 6 (length bytes) then Some (word_at bytes 4) else None

-- of the front AA31 0012 00C9 it is 201
pub of_201 : id_in (0xAA ∷ 0x31 ∷ 0 ∷ 18 ∷ 0 ∷ 201 ∷ []) ≡ Some 201
of_201 = refl

pub ends_early : id_in (0xAA ∷ 0x31 ∷ 0 ∷ 18 ∷ 0 ∷ []) ≡ None
ends_early = refl

-- what a section says: IDCODE of the data's source, and CFGCNT
abbrev pub section_said : SectionFields → SaidSection
section_said section = record { source = section.source; count = section.count }

-- what a configuration says of its sender: TIME_BASE, DATA_RATE, and of each section what it says
pub record IsSaid (said : SaidConfiguration) (config : ConfigFields) : Type 0 where
  pub time_base : said.time_base ≡ config.time_base
  pub rate : said.rate ≡ config.rate
  pub sections : said.first ∷ said.others.items ≡ map section_said config.sections

-- the bytes are a CFG-2 frame with a configuration that says this
pub record IsSaidIn (bytes : List ℕ) (said : SaidConfiguration) : Type 0 where
  pub fields : Fields
  pub is_frame : IsFrame bytes fields
  pub kind : fields.kind ≡ Cfg2
  pub config : ConfigFields
  pub is_config : IsConfig fields.payload config
  pub is_said : IsSaid said config
