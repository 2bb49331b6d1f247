-- What a publisher keeps.
use Rattle.std.specs.Prelude.{ℕ, Bool}
use Rattle.pdc_mark.specs.declared.mark.Mark.{Ghosts}
use Rattle.pdc_row.specs.declared.output.Output.{Output}
use Rattle.pdc_publisher.specs.declared.publisher.Publisher.{Publisher}

-- the mark that it stores into
abbrev pub mark_in : {M : Type 0} {marks : Ghosts M} → Publisher M marks → M
mark_in publisher = publisher.mark

-- what its frames say of the concentrator
abbrev pub output_in : {M : Type 0} {marks : Ghosts M} → Publisher M marks → Output
output_in publisher = publisher.output

-- how many instants it reserves ahead
abbrev pub lead_in : {M : Type 0} {marks : Ghosts M} → Publisher M marks → ℕ
lead_in publisher = publisher.lead

-- the greatest instant that it published, at first the stored floor
abbrev pub last_in : {M : Type 0} {marks : Ghosts M} → Publisher M marks → ℕ
last_in publisher = publisher.last

-- a store of it was answered `Device`
abbrev pub has_failed_in : {M : Type 0} {marks : Ghosts M} → Publisher M marks → Bool
has_failed_in publisher = publisher.has_failed
