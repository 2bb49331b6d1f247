use Rattle.std.proofs.Common.{◌++◌, ◌∙◌, List, ℕ, ap, filter, map, sym}
use Rattle.std.specs.Prelude.{nat_le}
use Rattle.pdc_cfg.specs.Section.{SectionFields}
use Rattle.pdc_life.specs.Life.{Entry, first_greatest, held_section, is_of_column, sections_for}
use Rattle.pdc_life.specs.Given.{count_for}
use Rattle.pdc_arrival.specs.Views.{section_part}
use Rattle.pdc_plain_steps.specs.Views.{entry_view, given_view, life_view}
use Rattle.pdc_plain_steps.specs.declared.steps.Answered.{Answered}
use Rattle.pdc_plain_steps.proofs.Held.{held_step}
use Rattle.pdc_plain_steps.proofs.past.+held_section.Goals as goal

-- what the newest step brought stands before what the earlier ones did
pub returns : goal.returns
returns t c =
    let g = given_view c.args.given.now in
    let E : List Entry = life_view c.in_ok-newest.earlier.now in
    let column = c.args.column in
    let among = λ (n : ℕ) (ss : List SectionFields). first_greatest (filter (λ (s : SectionFields). nat_le n s.count) ss ++ sections_for g E column) in
    let brought : List SectionFields = map (λ (part : ℕ × SectionFields). part.1) (filter (is_of_column column) (map section_part c.accepted_sections.result.now)) in
    c.greatest_section.ensures (sections_for g E column) c.held_section-held.ensures
    ∙ ap (λ (n : ℕ). among n brought) c.count_for-opening.ensures ∙ ap (among (count_for column g.counts)) (sym (c.accepted_sections.ensures column))
    ∙ held_step g E (entry_view c.in_ok-newest.newest.now) column ∙ ap (λ (life : List Answered). held_section g (life_view life) column) (sym c.in_ok-newest.ensures.cases.0)
