-- The causes of refusal, each with its text and its number.
use Rattle.std.specs.Prelude.{◌≡◌, ℕ, List, codes}
use Rattle.pdc_row.specs.pdc_cfg.Texts.{cfg_fault}
use Rattle.pdc_row.specs.pdc_frame.Texts.{frame_fault}
use Rattle.pdc_row.specs.pdc_cfg.declared.fault.CfgFault.TheVariants.{WrongKind, Cut, TooMany, FloatFormat}
use Rattle.pdc_row.specs.pdc_frame.declared.fault.FrameFault.TheVariants.{Short, BadSync, SizeMismatch, BadCheck, BadId}
use Rattle.pdc_life.specs.declared.outcome.Refusal.{Refusal}
use Rattle.pdc_life.specs.declared.outcome.Refusal.TheVariants.{NoFrame, WrongId, NoConfiguration, WrongTimeBase, WrongRate, WrongSource, BadOwnBlock, UnknownSource, OldStamp, StaleCount, CountConflict, BadTag, NoConfig, WrongLength, OtherStamp, Late, Ahead, OutOfWindow, Duplicate, Conflict}

-- its code and its name
abbrev pub refusal : Refusal → List ℕ
refusal (NoFrame fault) = frame_fault fault
refusal WrongId = codes "I1 WrongId"
refusal (NoConfiguration fault) = cfg_fault fault
refusal WrongTimeBase = codes "C5 WrongTimeBase"
refusal WrongRate = codes "C6 WrongRate"
refusal WrongSource = codes "C7 WrongSource"
refusal StaleCount = codes "C8 StaleCount"
refusal CountConflict = codes "C9 CountConflict"
refusal NoConfig = codes "B1 NoConfig"
refusal WrongLength = codes "B2 WrongLength"
refusal BadTag = codes "B3 BadTag"
refusal Late = codes "B4 Late"
refusal Ahead = codes "B5 Ahead"
refusal OutOfWindow = codes "B6 OutOfWindow"
refusal Duplicate = codes "B7 Duplicate"
refusal Conflict = codes "B8 Conflict"
refusal OldStamp = codes "G1 OldStamp"
refusal OtherStamp = codes "G2 OtherStamp"
refusal BadOwnBlock = codes "G3 BadOwnBlock"
refusal UnknownSource = codes "G4 UnknownSource"

-- its number, from 0: its place among counters, and in the entries of a record
abbrev pub number_of : Refusal → ℕ
number_of (NoFrame Short) = 0
number_of (NoFrame BadSync) = 1
number_of (NoFrame SizeMismatch) = 2
number_of (NoFrame BadCheck) = 3
number_of (NoFrame BadId) = 4
number_of WrongId = 5
number_of (NoConfiguration WrongKind) = 6
number_of (NoConfiguration Cut) = 7
number_of (NoConfiguration TooMany) = 8
number_of (NoConfiguration FloatFormat) = 9
number_of WrongTimeBase = 10
number_of WrongRate = 11
number_of WrongSource = 12
number_of BadOwnBlock = 13
number_of UnknownSource = 14
number_of OldStamp = 15
number_of StaleCount = 16
number_of CountConflict = 17
number_of BadTag = 18
number_of NoConfig = 19
number_of WrongLength = 20
number_of OtherStamp = 21
number_of Late = 22
number_of Ahead = 23
number_of OutOfWindow = 24
number_of Duplicate = 25
number_of Conflict = 26

-- each cause has a number of its own
abbrev pub CausesAreToldApart : Type 0
CausesAreToldApart = (a b : Refusal) → number_of a ≡ number_of b → a ≡ b
