-- How grave a finding is.
use Rattle.pdc_check.specs.declared.finding.Finding.{Finding}
use Rattle.pdc_check.specs.declared.finding.Finding.TheVariants.{NoLead, Open, PortTwice}
use Rattle.pdc_check.specs.declared.finding.Level.{Level}
use Rattle.pdc_check.specs.declared.finding.Level.TheVariants as Is
use Rattle.pdc_check.specs.declared.misfit.Misfit.{Misfit}
use Rattle.pdc_check.specs.declared.misfit.Misfit.TheVariants.{PerhapsSamePort, Preferred, ShortWait}

abbrev pub level_of_finding : Finding → Level
level_of_finding NoLead = Is.Warning
level_of_finding (Open table port) = Is.Warning
level_of_finding (PortTwice first second port) = Is.Error

abbrev pub level_of_misfit : Misfit → Level
level_of_misfit (Preferred id) = Is.Note
level_of_misfit (ShortWait here there) = Is.Warning
level_of_misfit (PerhapsSamePort here there port) = Is.Warning
level_of_misfit _ = Is.Error
