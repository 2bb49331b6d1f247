use Rattle.std.proofs.Common.{◌≡◌, List, [], ◌∷◌, length, map, slice_index_or, ap, arith, rules, sym}
use Rattle.pdc_row.specs.pdc_cfg.Config.{config_fields_of}
use Rattle.pdc_row.specs.pdc_cfg.Section.{fields_of_view}
use Rattle.pdc_row.specs.pdc_cfg.declared.section.SectionView.{SectionView}
use Rattle.pdc_life.proofs.reading.read_section.Goals as goal

-- the only section of a list is its first
only_one : (sections : List SectionView) (s : SectionView) → length sections ≡ 1 → s ≡ slice_index_or sections 0 s → map fields_of_view sections ≡ fields_of_view s ∷ []
only_one [] s len e = absurd (omega (arith, len))
only_one (x ∷ []) s len e = ap (λ (t : SectionView). fields_of_view t ∷ []) (sym e)
only_one (x ∷ y ∷ sections) s len e = absurd (omega (arith, len))

pub returns-then-section-pmu-clause-refused : goal.returns-then-section-pmu-clause-refused
returns-then-section-pmu-clause-refused c bytes has = record {
  config = config_fields_of c.args.config.now;
  base = record { has = has; time_base = c.if-config-pmu.false; rate = search rules };
  section = fields_of_view c.index-deref-0.result;
  one = only_one c.args.config.now.sections.items c.index-deref-0.result (search rules) (search rules);
  differs = c.if-section-pmu.true;
}
