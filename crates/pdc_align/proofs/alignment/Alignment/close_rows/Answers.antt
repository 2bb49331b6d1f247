use Rattle.std.proofs.Common.{◌∙◌, ap, sym}
use Rattle.pdc_table.specs.Content.{Content}
use Rattle.pdc_table.specs.Steps.{after_tick}
use Rattle.pdc_table.specs.pdc_columns.Layout.{layout_view}
use Rattle.pdc_align.specs.Align.{AlignmentView, State}
use Rattle.pdc_align.specs.Calls.{row_layout_in}
use Rattle.pdc_align.proofs.Popped.{popped_tick}
use Rattle.pdc_align.proofs.alignment.Alignment.close_rows.Goals as goal

pub invariant_of-self : goal.invariant_of-self
invariant_of-self g c = record {
  well_formed = c.tick.ensures.well_formed;
  each = c.self.invariant.each ∙ sym c.tick.ensures.sizes.columns;
  lanes = c.self.invariant.lanes ∙ sym c.tick.ensures.sizes.lanes;
  gone = popped_tick c.self.inside.popped (g.T.Table.content c.self.inside.table) (g.T.Table.content c.tick.new.self) c.args.rule (layout_view c.self.inside.layout) c.tick.ensures.content c.self.invariant.well_formed c.self.invariant.gone;
  shapes = c.self.invariant.shapes;
  quiet = c.self.invariant.quiet;
}

pub returns-clause-state : goal.returns-clause-state
returns-clause-state g c =
    let a = c.self.inside in
    let state : Content → State = λ content. record {
      wait = a.wait;
      wait_kind = a.wait_kind;
      ahead = a.ahead;
      start = a.layout.start;
      current = a.current;
      change = a.layout.change;
      columns = a.columns.items;
      content = content;
    } in
    ap state
    (c.tick.ensures.content
    ∙ ap (λ shapes. after_tick (g.T.Table.content a.table) c.args.rule (record { start = a.layout.start; change = a.layout.change; shapes = shapes })) c.self.invariant.shapes)
    ∙ ap (λ (v : AlignmentView). record v.state { content = after_tick v.state.content c.args.rule (row_layout_in v.state) }) c.self.view_is
