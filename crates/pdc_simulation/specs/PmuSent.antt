-- The frames that a PMU sent, over every list of them.
use Rattle.std.specs.Prelude.{◌≡◌, ◌⊎◌, ℕ, ◌+◌, ◌<◌, ◌≤◌, true, List, [], ◌∷◌, Some}
use Rattle.pdc_frame.specs.Frame.{Fields, IsFrame, spelling_of}
use Rattle.pdc_frame.specs.declared.frame.Kind.TheVariants.{Cfg2, DataFrame}
use Rattle.pdc_cfg.specs.Config.{ConfigFields, IsConfig, config_frame_of, payload_of}
use Rattle.pdc_cfg.specs.Section.{SectionFields}
use Rattle.pdc_frame.specs.Command.{header_fields}
use Rattle.pdc_frame.specs.Instant.{instant_of}
use Rattle.pdc_simulation.specs.declared.pmu.TheConstants.{MAX_COUNT}
use Rattle.pdc_simulation.specs.Pmu.{PmuView, after_config, after_data, after_header, data_fields, is_later, new_pmu, next_config}

-- one frame that was sent
pub data Sent : Type 0 where
  HeaderSent : (soc : ℕ) → (text : List ℕ) → Sent
  ConfigSent : (soc : ℕ) → (section : SectionFields) → Sent
  DataSent : (instant : ℕ) → (words : List ℕ) → Sent

-- its fields, where the PMU stood so before it
abbrev pub fields_sent : PmuView → Sent → Fields
fields_sent pmu (HeaderSent soc text) = header_fields pmu.id soc text
fields_sent pmu (ConfigSent soc section) = config_frame_of Cfg2 pmu.id soc (next_config pmu section)
fields_sent pmu (DataSent instant words) = data_fields pmu instant words

-- what it makes of the PMU
abbrev pub after : PmuView → Sent → PmuView
after pmu (HeaderSent soc text) = after_header pmu
after pmu (ConfigSent soc section) = after_config pmu section
after pmu (DataSent instant words) = after_data pmu instant

-- Where it is sent: a configuration, while counts are left, is one; a data frame's instant is above the last one.
abbrev pub IsAllowed : PmuView → Sent → Type 0
IsAllowed pmu (HeaderSent soc text) = Unit {0}
IsAllowed pmu (ConfigSent soc section) = (pmu.count < MAX_COUNT) × IsConfig (payload_of (next_config pmu section)) (next_config pmu section)
IsAllowed pmu (DataSent instant words) = is_later pmu.last instant ≡ true

-- What a call does where it answers Ok, each as its contract says: what it appends is the frame, and the PMU is as after it.
pub record Sends (pmu : PmuView) (frame : Sent) (next : PmuView) : Type 0 where
  pub is_frame : IsFrame (spelling_of (fields_sent pmu frame)) (fields_sent pmu frame)
  pub allowed : IsAllowed pmu frame
  pub left : next ≡ after pmu frame

-- After these frames, the newest first, the PMU that was p is q.
abbrev pub HasSent : PmuView → List Sent → PmuView → Type 0
HasSent p [] q = p ≡ q
HasSent p (frame ∷ frames) q = (r : PmuView) × HasSent p frames r × Sends r frame q

-- the bytes are one of these frames
abbrev pub IsOneOf : List ℕ → PmuView → List Sent → Type 0
IsOneOf bytes p [] = ⊥
IsOneOf bytes p (frame ∷ frames) = ((r : PmuView) × HasSent p frames r × (bytes ≡ spelling_of (fields_sent r frame))) ⊎ IsOneOf bytes p frames

-- the instants of the data frames, the newest first
abbrev pub instants_of : List Sent → List ℕ
instants_of [] = []
instants_of (DataSent instant words ∷ frames) = instant ∷ instants_of frames
instants_of (frame ∷ frames) = instants_of frames

-- how many configurations there are: the newest has this count, the one before it the count before, and so on down to 1
abbrev pub config_count : List Sent → ℕ
config_count [] = 0
config_count (ConfigSent soc section ∷ frames) = config_count frames + 1
config_count (frame ∷ frames) = config_count frames

-- each is below this number
abbrev pub AreBelow : ℕ → List ℕ → Type 0
AreBelow n [] = Unit {0}
AreBelow n (m ∷ ms) = (m < n) × AreBelow n ms

-- each is above all behind it
abbrev pub AreFalling : List ℕ → Type 0
AreFalling [] = Unit {0}
AreFalling (n ∷ ns) = AreBelow n ns × AreFalling ns

-- The instants of a PMU's data frames rise strictly, from the first it ever sent.
abbrev pub InstantsRise : Type 0
InstantsRise = (id rate time_base : ℕ) (frames : List Sent) (pmu : PmuView) → HasSent (new_pmu id rate time_base) frames pmu → AreFalling (instants_of frames)

-- The counts of its configurations are 1, 2, and so on: the last one's is the number of them.
abbrev pub CountsRise : Type 0
CountsRise = (id rate time_base : ℕ) (frames : List Sent) (pmu : PmuView) → HasSent (new_pmu id rate time_base) frames pmu → pmu.count ≡ config_count frames

-- In bytes: two data frames that it sent and whose tags have one instant are the same frame.
abbrev pub OneFrameAnInstant : Type 0
OneFrameAnInstant = (id rate time_base : ℕ) (frames : List Sent) (pmu : PmuView) (a b : List ℕ) (f g : Fields) (instant : ℕ)
    → 1 ≤ rate → rate ≤ time_base → HasSent (new_pmu id rate time_base) frames pmu
    → IsOneOf a (new_pmu id rate time_base) frames → IsFrame a f → f.kind ≡ DataFrame → instant_of f.soc f.frac time_base rate ≡ Some instant
    → IsOneOf b (new_pmu id rate time_base) frames → IsFrame b g → g.kind ≡ DataFrame → instant_of g.soc g.frac time_base rate ≡ Some instant
    → a ≡ b

-- Two CFG-2 frames that it sent, whose sections have one count, have one section.
abbrev pub OneSectionACount : Type 0
OneSectionACount = (id rate time_base : ℕ) (frames : List Sent) (pmu : PmuView) (a b : List ℕ) (f g : Fields) (c d : ConfigFields) (s t : SectionFields)
    → HasSent (new_pmu id rate time_base) frames pmu
    → IsOneOf a (new_pmu id rate time_base) frames → IsFrame a f → f.kind ≡ Cfg2 → IsConfig f.payload c → c.sections ≡ s ∷ []
    → IsOneOf b (new_pmu id rate time_base) frames → IsFrame b g → g.kind ≡ Cfg2 → IsConfig g.payload d → d.sections ≡ t ∷ []
    → s.count ≡ t.count → s ≡ t
