use Rattle.std.proofs.Common.{refl}
use Rattle.pdc_row.proofs.OwnSections.{own_is_section}
use Rattle.pdc_row.proofs.section.own_section.Goals as goal

pub invariant_of-result-2 : goal.invariant_of-result-2
invariant_of-result-2 c = record { whole = own_is_section c.args.output.now c.args.start c.args.change _ c.section_bytes.ensures refl refl refl refl c.low_word.ensures refl }
