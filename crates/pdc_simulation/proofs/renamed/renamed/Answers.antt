use Rattle.std.proofs.Common.{ap, sym, subst, List, ℕ}
use Rattle.pdc_cfg.specs.Section.{IsSection, fields_of_view}
use Rattle.pdc_simulation.specs.Renamed.{renamed}
use Rattle.pdc_simulation.proofs.Words.{renamed_is_section}
use Rattle.pdc_simulation.proofs.renamed.renamed.Goals as goal

pub invariant_of-result : goal.invariant_of-result
invariant_of-result c = record {
  whole = subst IsSection (ap (λ (bytes : List ℕ). record (renamed c.args.source c.args.count (fields_of_view c.args.section.now)) { bytes = bytes }) (sym c.renamed_bytes.ensures))
      (renamed_is_section c.args.source c.args.count (fields_of_view c.args.section.now) c.ranges.source.fits c.ranges.count.fits c.args.section.now.whole);
}
