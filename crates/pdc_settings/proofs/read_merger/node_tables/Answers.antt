use Rattle.std.proofs.Common.{◌∙◌, ap, sym}
use Rattle.std.specs.Prelude.{option_and_then}
use Rattle.pdc_settings.specs.Entries.{two_of}
use Rattle.pdc_settings.proofs.Tables.{two-none}
use Rattle.pdc_settings.proofs.read_merger.node_tables.Goals as goal

pub returns-then-values-ne2-clause-none : goal.returns-then-values-ne2-clause-none
returns-then-values-ne2-clause-none c = ap (option_and_then two_of) (sym c.in-Some.ensures) ∙ two-none c.in-Some.values.now c.if-values-ne2.true
