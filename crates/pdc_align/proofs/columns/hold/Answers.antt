use Rattle.std.proofs.Common.{◌≡◌, ◌+◌, ◌∷◌, drop, get_or, length-set, map, set, arith, sym, ◌∙◌, ap}
use Rattle.std.proofs.lemmas.List.{drop_more, get_or_default}
use Rattle.pdc_arrival.specs.pdc_cfg.Section.{fields_of_view}
use Rattle.pdc_arrival.specs.Views.{section_part}
use Rattle.pdc_arrival.specs.declared.arrival.ColumnSection.{ColumnSection}
use Rattle.pdc_align.specs.Calls.{no_column, with_section, with_sections}
use Rattle.pdc_align.proofs.columns.hold.Goals as goal

pub loop-section-preserved : goal.loop-section-preserved
loop-section-preserved c =
    let s = c.section-item.result in
    let left = drop (c.loop-section.section-index + 1) c.args.sections.now in
    let first : drop c.loop-section.section-index c.args.sections.now ≡ s ∷ left =
    drop_more c.args.sections.now c.loop-section.section-index s (omega arith) ∙ ap (λ x. x ∷ left) (sym c.section-item.is) in
    let new : c.hold.new.self ≡ with_section (fields_of_view s.section) (get_or c.loop-section.columns s.column no_column) =
    c.hold.ensures ∙ ap (with_section (fields_of_view s.section)) (get_or_default c.loop-section.columns s.column _ no_column (omega (arith, c.requires c.loop-section.section-index s (omega arith), ap (λ (x : ColumnSection). x.column) c.section-item.is))) in
    record {
      columns =
          ap (λ x. with_sections (map section_part left) (set c.loop-section.columns s.column x)) new
          ∙ sym (ap (λ xs. with_sections (map section_part xs) c.loop-section.columns) first)
          ∙ c.loop-section.invariant.columns;
      len = length-set c.loop-section.columns s.column c.hold.new.self ∙ c.loop-section.invariant.len;
    }
