-- Each cause of refusal has a number of its own, and there are no others.
use Rattle.std.proofs.Common.{◌≡◌, ◌<◌, [], ◌∷◌, List, ap, arith, get_or, refl, sym, ◌∙◌}
use Rattle.pdc_row.specs.pdc_frame.declared.fault.FrameFault.TheVariants.{Short, BadSync, SizeMismatch, BadCheck, BadId}
use Rattle.pdc_row.specs.pdc_cfg.declared.fault.CfgFault.TheVariants.{WrongKind, Cut, TooMany, FloatFormat}
use Rattle.pdc_life.specs.Causes.{number_of}
use Rattle.pdc_life.specs.declared.outcome.TheConstants.{CAUSES}
use Rattle.pdc_life.specs.declared.outcome.Refusal.{Refusal}
use Rattle.pdc_life.specs.declared.outcome.Refusal.TheVariants.{NoFrame, WrongId, NoConfiguration, WrongTimeBase, WrongRate, WrongSource, BadOwnBlock, UnknownSource, OldStamp, StaleCount, CountConflict, BadTag, NoConfig, WrongLength, OtherStamp, Late, Ahead, OutOfWindow, Duplicate, Conflict}

pub within : (r : Refusal) → number_of r < CAUSES
within (NoFrame Short) = omega arith
within (NoFrame BadSync) = omega arith
within (NoFrame SizeMismatch) = omega arith
within (NoFrame BadCheck) = omega arith
within (NoFrame BadId) = omega arith
within WrongId = omega arith
within (NoConfiguration WrongKind) = omega arith
within (NoConfiguration Cut) = omega arith
within (NoConfiguration TooMany) = omega arith
within (NoConfiguration FloatFormat) = omega arith
within WrongTimeBase = omega arith
within WrongRate = omega arith
within WrongSource = omega arith
within BadOwnBlock = omega arith
within UnknownSource = omega arith
within OldStamp = omega arith
within StaleCount = omega arith
within CountConflict = omega arith
within BadTag = omega arith
within NoConfig = omega arith
within WrongLength = omega arith
within OtherStamp = omega arith
within Late = omega arith
within Ahead = omega arith
within OutOfWindow = omega arith
within Duplicate = omega arith
within Conflict = omega arith

abbrev causes : List Refusal
causes = NoFrame Short ∷ NoFrame BadSync ∷ NoFrame SizeMismatch ∷ NoFrame BadCheck ∷ NoFrame BadId ∷ WrongId ∷ NoConfiguration WrongKind ∷ NoConfiguration Cut ∷ NoConfiguration TooMany ∷ NoConfiguration FloatFormat ∷ WrongTimeBase ∷ WrongRate ∷ WrongSource ∷ BadOwnBlock ∷ UnknownSource ∷ OldStamp ∷ StaleCount ∷ CountConflict ∷ BadTag ∷ NoConfig ∷ WrongLength ∷ OtherStamp ∷ Late ∷ Ahead ∷ OutOfWindow ∷ Duplicate ∷ Conflict ∷ []

named : (r : Refusal) → get_or causes (number_of r) Conflict ≡ r
named (NoFrame Short) = refl
named (NoFrame BadSync) = refl
named (NoFrame SizeMismatch) = refl
named (NoFrame BadCheck) = refl
named (NoFrame BadId) = refl
named WrongId = refl
named (NoConfiguration WrongKind) = refl
named (NoConfiguration Cut) = refl
named (NoConfiguration TooMany) = refl
named (NoConfiguration FloatFormat) = refl
named WrongTimeBase = refl
named WrongRate = refl
named WrongSource = refl
named BadOwnBlock = refl
named UnknownSource = refl
named OldStamp = refl
named StaleCount = refl
named CountConflict = refl
named BadTag = refl
named NoConfig = refl
named WrongLength = refl
named OtherStamp = refl
named Late = refl
named Ahead = refl
named OutOfWindow = refl
named Duplicate = refl
named Conflict = refl

pub told_apart : (a b : Refusal) → number_of a ≡ number_of b → a ≡ b
told_apart a b e = sym (named a) ∙ ap (λ n. get_or causes n Conflict) e ∙ named b
