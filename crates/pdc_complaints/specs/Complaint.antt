-- What a refusal says of a sender, and with which values.
use Rattle.std.specs.Prelude.{◌≡◌, refl, ℕ, ◌==◌, List, [], ◌∷◌, nat_lt, if◌then◌else◌, Option, None, Some}
use Rattle.pdc_life.specs.declared.outcome.Refusal.{Refusal}
use Rattle.pdc_life.specs.declared.outcome.Refusal.TheVariants.{NoFrame, WrongId, NoConfiguration, WrongTimeBase, WrongRate, WrongSource, BadOwnBlock, UnknownSource, OldStamp, StaleCount, CountConflict, BadTag, NoConfig, WrongLength, OtherStamp, Late, Ahead, OutOfWindow, Duplicate, Conflict}
use Rattle.pdc_life.specs.pdc_cfg.declared.fault.CfgFault.{CfgFault}
use Rattle.pdc_life.specs.pdc_cfg.declared.fault.CfgFault.TheVariants.{WrongKind, Cut, TooMany, FloatFormat}
use Rattle.pdc_complaints.specs.declared.complaint.Complaint.{Complaint}
use Rattle.pdc_complaints.specs.declared.complaint.Complaint.TheVariants as is
use Rattle.pdc_complaints.specs.declared.expected.Expected.{Expected}
use Rattle.pdc_complaints.specs.declared.said.Said.{Said}
use Rattle.pdc_complaints.specs.declared.said.SaidConfiguration.{SaidConfiguration}
use Rattle.pdc_complaints.specs.declared.said.SaidSection.{SaidSection}

-- the count that sections have of a source: that of the first that is of it
abbrev pub count_of : (source : ℕ) → List SaidSection → Option ℕ
count_of source [] = None
count_of source (section ∷ sections) = if section.source == source then Some section.count else count_of source sections

-- a section has a lower count than one that is held
abbrev pub lower_than : SaidSection → (held : Option ℕ) → Option Complaint
lower_than section (Some held) = if nat_lt section.count held then Some (is.LowerCount section.source section.count held) else None
lower_than section None = None

-- the first of some answers that is one
abbrev pub first_of : (one other : Option Complaint) → Option Complaint
first_of (Some complaint) other = Some complaint
first_of None other = other

-- the first section whose count is lower than that of its source among those that are held
abbrev pub lower_in : (held : List SaidSection) → List SaidSection → Option Complaint
lower_in held [] = None
lower_in held (section ∷ sections) = first_of (lower_than section (count_of section.source held)) (lower_in held sections)

-- the first section whose source is not among these, in their order
abbrev pub unplaced_in : (sources : List ℕ) → List SaidSection → Option Complaint
unplaced_in sources [] = None
unplaced_in [] (section ∷ sections) = Some (is.OtherPmu section.source)
unplaced_in (source ∷ sources) (section ∷ sections) =
    if source == section.source then unplaced_in sources sections else unplaced_in sources (section ∷ sections)

-- the count of a configuration that has one section
abbrev pub count_if_alone : (count : ℕ) → List SaidSection → Option ℕ
count_if_alone count [] = Some count
count_if_alone count (section ∷ sections) = None

abbrev pub only_count : SaidConfiguration → Option ℕ
only_count said = count_if_alone said.first.count said.others.items

-- the complaint that there is, and else that a count is lower than one that is not known
abbrev pub or_unknown : Option Complaint → SaidConfiguration → Complaint
or_unknown (Some complaint) said = complaint
or_unknown None said = is.StaleCount (only_count said)

-- what is lower beside a configuration that is held: the count of the first section, where both are of one source, or of another section
abbrev pub lower_beside : (said held : SaidConfiguration) → Option Complaint
lower_beside said held =
    first_of (if held.first.source == said.first.source then lower_than said.first (Some held.first.count) else None) (lower_in held.others.items said.others.items)

abbrev pub stale : SaidConfiguration → (held : Option SaidConfiguration) → Complaint
stale said None = is.StaleCount (only_count said)
stale said (Some held) = or_unknown (lower_beside said held) said

-- a node's layout is of another node, or its first section is none that a node makes
abbrev pub of_first : (came expected : ℕ) → Complaint
of_first came expected = if came == expected then is.NoOwnSection else is.OtherNode came expected

-- What is wrong with a configuration that says this, beside what the settings say and the configuration that is held.
abbrev pub of_configuration : Refusal → SaidConfiguration → Expected → (held : Option SaidConfiguration) → Option Complaint
of_configuration WrongTimeBase said expected held = Some (is.OtherTimeBase said.time_base expected.time_base)
of_configuration WrongRate said expected held = Some (is.OtherRate said.rate expected.rate)
of_configuration WrongSource said expected held = Some (is.OtherSource said.first.source expected.source)
of_configuration StaleCount said expected held = Some (stale said held)
of_configuration CountConflict said expected held = Some (is.SameCount (only_count said))
of_configuration BadOwnBlock said expected held = Some (of_first said.first.source expected.source)
of_configuration UnknownSource said expected held = unplaced_in expected.others.items said.others.items
of_configuration WrongId said expected held = None
of_configuration (NoConfiguration _) said expected held = None
of_configuration (NoFrame _) said expected held = None
of_configuration OldStamp said expected held = None
of_configuration BadTag said expected held = None
of_configuration NoConfig said expected held = None
of_configuration WrongLength said expected held = None
of_configuration OtherStamp said expected held = None
of_configuration Late said expected held = None
of_configuration Ahead said expected held = None
of_configuration OutOfWindow said expected held = None
of_configuration Duplicate said expected held = None
of_configuration Conflict said expected held = None

abbrev pub of_said : Refusal → Option SaidConfiguration → Expected → (held : Option SaidConfiguration) → Option Complaint
of_said cause (Some said) expected held = of_configuration cause said expected held
of_said cause None expected held = None

-- frames of this stream arrive, and others are expected
abbrev pub of_id : (came : Option ℕ) → Expected → Option Complaint
of_id (Some came) expected = Some (is.OtherStream came expected.id)
of_id None expected = None

-- a configuration that is none: one with values in floating point alone is told
abbrev pub of_fault : CfgFault → Option Complaint
of_fault FloatFormat = Some is.FloatFormat
of_fault WrongKind = None
of_fault Cut = None
of_fault TooMany = None

-- What there is to tell of a refusal: of what only somebody can mend who sets up the sender, or this concentrator. Late data, a second copy
-- and the like come and go, and nothing is told of each.
abbrev pub complaint_of : Refusal → Said → Expected → (held : Option SaidConfiguration) → Option Complaint
complaint_of WrongId said expected held = of_id said.id expected
complaint_of (NoConfiguration fault) said expected held = of_fault fault
complaint_of WrongTimeBase said expected held = of_said WrongTimeBase said.configuration expected held
complaint_of WrongRate said expected held = of_said WrongRate said.configuration expected held
complaint_of WrongSource said expected held = of_said WrongSource said.configuration expected held
complaint_of StaleCount said expected held = of_said StaleCount said.configuration expected held
complaint_of CountConflict said expected held = of_said CountConflict said.configuration expected held
complaint_of BadOwnBlock said expected held = of_said BadOwnBlock said.configuration expected held
complaint_of UnknownSource said expected held = of_said UnknownSource said.configuration expected held
complaint_of (NoFrame _) said expected held = None
complaint_of OldStamp said expected held = None
complaint_of BadTag said expected held = None
complaint_of NoConfig said expected held = None
complaint_of WrongLength said expected held = None
complaint_of OtherStamp said expected held = None
complaint_of Late said expected held = None
complaint_of Ahead said expected held = None
complaint_of OutOfWindow said expected held = None
complaint_of Duplicate said expected held = None
complaint_of Conflict said expected held = None

-- Worked: of sections of PMUs 11 and 12 with counts 4 and 2, where 11 has 4 and 12 has 3, PMU 12's is lower; where the settings have 11 and 13,
-- PMU 12 is not in them; where they have 12 and 11, it is PMU 12 that stands in another order.
abbrev pub two_sections : (count : ℕ) → List SaidSection
two_sections count = record { source = 11; count = 4 } ∷ record { source = 12; count = count } ∷ []

pub lower : lower_in (two_sections 3) (two_sections 2) ≡ Some (is.LowerCount 12 2 3)
lower = refl

pub none_lower : lower_in (two_sections 3) (two_sections 3) ≡ None
none_lower = refl

pub unknown : unplaced_in (11 ∷ 13 ∷ []) (two_sections 2) ≡ Some (is.OtherPmu 12)
unknown = refl

pub out_of_order : unplaced_in (12 ∷ 11 ∷ []) (two_sections 2) ≡ Some (is.OtherPmu 12)
out_of_order = refl

pub in_order : unplaced_in (10 ∷ 11 ∷ 12 ∷ []) (two_sections 2) ≡ None
in_order = refl
