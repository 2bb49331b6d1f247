-- The text of each answer to an arrival.
use Rattle.pdc_life.specs.Names.{codes, List, ℕ}
pub use Rattle.pdc_life.specs.Causes.{refusal}
use Rattle.pdc_life.specs.declared.outcome.Outcome.{Outcome}
use Rattle.pdc_life.specs.declared.outcome.Outcome.TheVariants.{Taken, Candidate, Known, Refused}

abbrev pub outcome_of : Outcome → List ℕ
outcome_of Taken = codes "Taken"
outcome_of Candidate = codes "Candidate"
outcome_of Known = codes "Known"
outcome_of (Refused fault) = refusal fault
