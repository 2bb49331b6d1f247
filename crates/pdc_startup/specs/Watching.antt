-- Sources that are watched, and what is known of them.
use Rattle.pdc_journal.specs.declared.observed_source.ObservedSource.{ObservedSource}
use Rattle.pdc_recording.specs.declared.recorded_source.RecordedSource.{RecordedSource}
use Rattle.pdc_ticking.specs.declared.holding_source.HoldingSource.{HoldingSource}

-- the source of a run, within what watches it, records it and holds it back
abbrev pub source_in : {S R : Type 0} → HoldingSource (RecordedSource (ObservedSource S R) R) R → S
source_in watched = watched.inner.inner.inner
