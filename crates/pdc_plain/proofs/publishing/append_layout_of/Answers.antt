use Rattle.std.proofs.Common.{◌≡◌, ◌++◌, ◌∙◌, List, ℕ, ap, map, subst}
use Rattle.std.specs.Prelude.{OnOk}
use Rattle.pdc_cfg.specs.Section.{SectionFields, fields_of_view}
use Rattle.pdc_row.specs.Layout.{layout_wire_of}
use Rattle.pdc_life.specs.Life.{changes}
use Rattle.pdc_life.specs.Published.{sections_in_force}
use Rattle.pdc_plain_steps.specs.Views.{given_view, life_view}
use Rattle.pdc_plain.proofs.publishing.append_layout_of.Goals as goal

pub returns-clause-ok : goal.returns-clause-ok
returns-clause-ok c =
    let g = given_view c.args.given.now in
    let E = life_view c.args.life.now in
    let e : map fields_of_view c.as_slice.result.now ≡ sections_in_force g E = ap (map fields_of_view) c.as_slice.ensures.value ∙ c.sections_in_force-sections.ensures.sections in
    subst (λ (ss : List SectionFields). OnOk c.append_layout.result (c.append_layout.new.out.items ≡ c.args.out.now.items ++ layout_wire_of g.output g.start (changes E) ss c.args.soc)) e
    (subst (λ (n : ℕ). OnOk c.append_layout.result (c.append_layout.new.out.items ≡ c.args.out.now.items ++ layout_wire_of g.output g.start n (map fields_of_view c.as_slice.result.now) c.args.soc)) c.changes-change.ensures.count c.append_layout.ensures.ok)
