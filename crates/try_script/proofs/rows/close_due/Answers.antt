use Rattle.std.proofs.Common.{rules, refl, ◌+◌, ◌++◌, ◌∙◌, ap, map}
use Rattle.std.specs.List.{prefix_len}
use Rattle.pdc_table.specs.Closing.{counter}
use Rattle.pdc_table.specs.pdc_open_row.Due.{is_due}
use Rattle.pdc_row.specs.RowView.{row_view}
use Rattle.pdc_table.specs.pdc_columns.Layout.{layout_view}
use Rattle.pdc_table.specs.pdc_open_row.Row.{row_of}
use Rattle.pdc_row.specs.Quality.{greatest}
use Rattle.pdc_table.specs.OpenInstants.{instants_of}
use Rattle.pdc_table.specs.Steps.{disagreements_in}
use Rattle.pdc_table.proofs.Closes.{front_is, back_is, front_length}
use Rattle.try_script.proofs.rows.close_due.Goals as goal

pub returns-clause-answer : goal.returns-clause-answer
returns-clause-answer c = front_length c.args.rule.now.required.now c.args.rule.now.wait c.args.last.now c.args.rows.now.items c.deref.result.now c.count_due-count.result c.deref.ensures.value c.count_due-count.ensures.count c.requires.rising

pub returns-clause-rows : goal.returns-clause-rows
returns-clause-rows c = c.leave_front.ensures.items ∙ back_is c.args.rule.now.required.now c.args.rule.now.wait c.args.last.now c.args.rows.now.items c.deref.result.now c.count_due-count.result c.deref.ensures.value c.count_due-count.ensures.count c.requires.rising

pub returns-clause-free : goal.returns-clause-free
returns-clause-free c =
    c.leave_front.ensures.free ∙ ap (λ rows. c.args.free.now.items ++ rows)
    (front_is c.args.rule.now.required.now c.args.rule.now.wait c.args.last.now c.args.rows.now.items c.args.rows.now.items c.count_due-count.result refl (c.count_due-count.ensures.count ∙ ap (prefix_len (is_due c.args.rule.now.required.now c.args.rule.now.wait)) c.deref.ensures.value) c.requires.rising)

pub returns-clause-closed : goal.returns-clause-closed
returns-clause-closed c =
    c.close.ensures.items ∙ ap (λ rows. map row_view c.args.closed.now.items ++ map (row_of (layout_view c.args.layout.now)) rows)
    (front_is c.args.rule.now.required.now c.args.rule.now.wait c.args.last.now c.args.rows.now.items c.deref-2.result.now c.count_due-count.result c.deref-2.ensures.value (c.count_due-count.ensures.count ∙ search rules) c.requires.rising)

pub returns-clause-last : goal.returns-clause-last
returns-clause-last c =
    c.greatest.ensures ∙ ap (λ rows. greatest c.args.last.now (instants_of rows))
    (front_is c.args.rule.now.required.now c.args.rule.now.wait c.args.last.now c.args.rows.now.items c.deref-2.result.now c.count_due-count.result c.deref-2.ensures.value (c.count_due-count.ensures.count ∙ search rules) c.requires.rising)

pub returns-clause-disagree : goal.returns-clause-disagree
returns-clause-disagree c =
    c.count_disagreements.ensures ∙ ap (λ rows. counter (c.args.disagree.now + disagreements_in (layout_view c.args.layout.now) rows))
    (front_is c.args.rule.now.required.now c.args.rule.now.wait c.args.last.now c.args.rows.now.items c.deref-2.result.now c.count_due-count.result c.deref-2.ensures.value (c.count_due-count.ensures.count ∙ search rules) c.requires.rising)
