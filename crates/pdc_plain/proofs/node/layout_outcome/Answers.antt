use Rattle.std.proofs.Common.{◌≡◌, ◌<◌, ◌≤◌, ◌∷◌, ◌∙◌, [], List, ℕ, ap, arith, length, map, rules, slice_index_or, sym, Option}
use Rattle.std.specs.Prelude.{option_map}
use Rattle.pdc_cfg.specs.Section.{SectionFields, fields_of_view}
use Rattle.pdc_life.specs.Answer.{bare}
use Rattle.pdc_life.specs.Arrival.{Layout}
use Rattle.pdc_life.specs.Given.{count_for}
use Rattle.pdc_life.specs.Node.{node_answer, section_answer}
use Rattle.pdc_plain_steps.specs.Views.{given_view, life_view}
use Rattle.pdc_arrival.specs.Views.{section_part}
use Rattle.pdc_arrival.specs.declared.arrival.ColumnSection.{ColumnSection}
use Rattle.pdc_plain.proofs.node.layout_outcome.Goals as goal

-- the only section of a layout
only_one : (sections : List ColumnSection) (s : ColumnSection) → 1 ≤ length sections → length sections < 2 → s ≡ slice_index_or sections 0 s → map section_part sections ≡ section_part s ∷ []
only_one [] s h k e = absurd (omega (arith, h))
only_one (x ∷ []) s h k e = ap (λ (t : ColumnSection). section_part t ∷ []) (sym e)
only_one (x ∷ y ∷ sections) s h k e = absurd (omega (arith, k))

pub returns-in-len1 : goal.returns-in-len1
returns-in-len1 c stamp =
    let g = given_view c.args.given.now in
    let E = life_view c.args.life.now in
    let p = c.args.stream in
    let section : SectionFields = fields_of_view c.only-item.result.section in
    ap bare (c.section_answer.ensures ∙ ap (λ (n : ℕ). section_answer n (option_map fields_of_view c.held_section.result) section) c.count_for-opening.ensures ∙ ap (λ (held : Option SectionFields). section_answer (count_for p g.counts) held section) c.held_section.ensures)
    ∙ ap (λ (sections : List (ℕ × SectionFields)). node_answer g E p (Layout stamp sections)) (sym (only_one c.args.sections.now c.only-item.result (search rules) (search rules) c.only-item.is))
