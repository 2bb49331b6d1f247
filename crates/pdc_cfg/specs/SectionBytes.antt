-- The spelling of a section: what a configuration says of one PMU (IEEE C37.118.2-2011, 6.4 and table 9).
use Rattle.std.specs.Prelude.{◌≡◌, ◌⊎◌, ℕ, ◌-◌, ◌/◌, ◌%◌, ◌<◌, ◌≤◌, Bool, List, length, if◌then◌else◌}
use Rattle.pdc_frame.specs.Bytes.{AreBytes, word_at}
use Rattle.pdc_cfg.specs.Shape.{section_len, section_len_of}
use Rattle.pdc_cfg.specs.declared.shape.Shape.{Shape}
use Rattle.pdc_cfg.specs.declared.fault.CfgFault.{CfgFault}
use Rattle.pdc_cfg.specs.declared.fault.CfgFault.TheVariants.{WrongKind, Cut, TooMany, FloatFormat}

-- what a section says, and its bytes, wherever they lie in memory
pub record SectionFields : Type 0 where
  pub bytes : List ℕ
  pub shape : Shape
  pub source : ℕ
  pub count : ℕ
  pub polar : Bool

-- The places of the fields, from STN on: STN has 16 bytes; then come IDCODE (the source), FORMAT, PHNMR, ANNMR and
-- DGNMR. The names and factors of the channels and FNOM follow. CFGCNT ends the section.
abbrev pub source_in : List ℕ → ℕ
source_in bytes = word_at bytes 16

abbrev pub format_in : List ℕ → ℕ
format_in bytes = word_at bytes 18

abbrev pub phasors_in : List ℕ → ℕ
phasors_in bytes = word_at bytes 20

abbrev pub analogs_in : List ℕ → ℕ
analogs_in bytes = word_at bytes 22

abbrev pub digitals_in : List ℕ → ℕ
digitals_in bytes = word_at bytes 24

abbrev pub count_in : List ℕ → ℕ
count_in bytes = word_at bytes (length bytes - 2)

-- Bits 1, 2 and 3 of FORMAT are 0: phasors, analog values, FREQ and DFREQ are 16-bit integers.
abbrev pub HasIntegers : List ℕ → Type 0
HasIntegers bytes = format_in bytes / 2 % 8 ≡ 0

-- The bytes are a section that says this.
pub record IsSection (s : SectionFields) : Type 0 where
  pub fits : AreBytes s.bytes
  pub size : length s.bytes ≡ section_len_of s.shape
  pub source : source_in s.bytes ≡ s.source
  pub integers : HasIntegers s.bytes
  -- bit 0 of FORMAT: phasors are magnitude and angle, else real and imaginary part
  pub polar : format_in s.bytes % 2 ≡ (if s.polar then 1 else 0)
  pub phasors : phasors_in s.bytes ≡ s.shape.phasors
  pub analogs : analogs_in s.bytes ≡ s.shape.analogs
  pub digitals : digitals_in s.bytes ≡ s.shape.digitals
  pub count : count_in s.bytes ≡ s.count

-- the numbers of channels are within the limits of this profile
pub record AreFew (bytes : List ℕ) : Type 0 where
  pub phasors : phasors_in bytes ≤ 32
  pub analogs : analogs_in bytes ≤ 32
  pub digitals : digitals_in bytes ≤ 8

-- one of them is not
abbrev pub AreMany : List ℕ → Type 0
AreMany bytes = (32 < phasors_in bytes) ⊎ (32 < analogs_in bytes) ⊎ (8 < digitals_in bytes)

-- what a section that begins here takes
abbrev pub len_in : List ℕ → ℕ
len_in bytes = section_len (phasors_in bytes) (analogs_in bytes) (digitals_in bytes)

-- Why no section stands at the front of these bytes: the first cause that holds, in reading order.
abbrev pub IsSectionFault : List ℕ → CfgFault → Type 0
IsSectionFault rest WrongKind = ⊥
IsSectionFault rest Cut = (length rest < 26) ⊎ ((26 ≤ length rest) × AreFew rest × HasIntegers rest × (length rest < len_in rest))
IsSectionFault rest TooMany = (26 ≤ length rest) × AreMany rest
IsSectionFault rest FloatFormat = (26 ≤ length rest) × AreFew rest × (HasIntegers rest → ⊥)
