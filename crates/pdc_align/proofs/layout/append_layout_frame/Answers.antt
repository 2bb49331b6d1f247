use Rattle.std.proofs.Common.{◌≡◌, ◌++◌, ◌∙◌, ◌+◌, ◌≤◌, List, ℕ, ap, length, map, subst}
use Rattle.std.specs.Prelude.{IsOk, OnOk}
use Rattle.pdc_arrival.specs.pdc_cfg.Section.{fields_of_view}
use Rattle.pdc_arrival.specs.pdc_row.Layout.{layout_wire_of}
use Rattle.pdc_arrival.specs.pdc_life.Published.{layout_wire}
use Rattle.pdc_align.proofs.Wire.{wire_is}
use Rattle.pdc_align.proofs.layout.append_layout_frame.Goals as goal

pub returns-clause-ok : goal.returns-clause-ok
returns-clause-ok g c h E stands o s n =
    let is : layout_wire_of c.args.output.now c.args.start c.change.result (map fields_of_view c.as_slice.result.now) c.args.soc ≡ layout_wire h E c.args.soc =
    wire_is h E c.args.output.now c.args.start c.args.columns c.change.result c.args.soc (map fields_of_view c.as_slice.result.now) o s n (c.change.ensures h E stands)
    (ap (map fields_of_view) c.as_slice.ensures.value ∙ c.sections_in_force-sections.ensures.sections h E stands) in
    subst (λ (wire : List ℕ). OnOk c.append_layout.result (g.B.Buffer.content c.append_layout.new.out ≡ g.B.Buffer.content c.args.out.now ++ wire)) is c.append_layout.ensures.ok

pub returns-clause-room : goal.returns-clause-room
returns-clause-room g c h E stands o s n =
    let is : layout_wire_of c.args.output.now c.args.start c.change.result (map fields_of_view c.as_slice.result.now) c.args.soc ≡ layout_wire h E c.args.soc =
    wire_is h E c.args.output.now c.args.start c.args.columns c.change.result c.args.soc (map fields_of_view c.as_slice.result.now) o s n (c.change.ensures h E stands)
    (ap (map fields_of_view) c.as_slice.ensures.value ∙ c.sections_in_force-sections.ensures.sections h E stands) in
    subst (λ (wire : List ℕ). length (g.B.Buffer.content c.args.out.now) + length wire ≤ g.B.Buffer.capacity c.args.out.now → IsOk c.append_layout.result) is c.append_layout.ensures.room

pub returns-clause-in_place : goal.returns-clause-in_place
returns-clause-in_place g c h E stands o s n =
    let is : layout_wire_of c.args.output.now c.args.start c.change.result (map fields_of_view c.as_slice.result.now) c.args.soc ≡ layout_wire h E c.args.soc =
    wire_is h E c.args.output.now c.args.start c.args.columns c.change.result c.args.soc (map fields_of_view c.as_slice.result.now) o s n (c.change.ensures h E stands)
    (ap (map fields_of_view) c.as_slice.ensures.value ∙ c.sections_in_force-sections.ensures.sections h E stands) in
    subst (λ (wire : List ℕ). length (g.B.Buffer.content c.args.out.now) + length wire ≤ g.B.Buffer.capacity c.args.out.now → g.B.Buffer.capacity c.append_layout.new.out ≡ g.B.Buffer.capacity c.args.out.now) is c.append_layout.ensures.in_place
