-- What is taken from its entry, since its datagram was not kept whole.
use Rattle.pdc_life.specs.declared.outcome.Outcome.{Outcome}
use Rattle.pdc_life.specs.declared.outcome.Outcome.TheVariants.{Refused}
use Rattle.pdc_life.specs.declared.outcome.Refusal.TheVariants.{NoFrame}

-- the refusal of what is no frame, and nothing else
abbrev pub IsNoFrame : Outcome → Type 0
IsNoFrame (Refused (NoFrame fault)) = Unit {0}
IsNoFrame outcome = ⊥
