use Rattle.std.proofs.Common.{◌+◌, ◌++◌, ◌∙◌, ap, refl, sym, take}
use Rattle.pdc_open_row.specs.pdc_row.Quality.{greatest}
use Rattle.pdc_table.specs.Closing.{counter}
use Rattle.pdc_open_row.specs.pdc_columns.Layout.{layout_view}
use Rattle.pdc_table.specs.OpenInstants.{instants_of}
use Rattle.pdc_table.specs.RingRows.{rows_in, with_ages}
use Rattle.pdc_table.specs.Steps.{disagreements_in}
use Rattle.pdc_table.proofs.RingAges.{aged_disagreements}
use Rattle.pdc_table.proofs.RingRows.{back_in, front_in, instants_in, length_in, placed-take}
use Rattle.pdc_table.proofs.ring_closing.Closed.close_due.Goals as goal

pub returns-clause-answer : goal.returns-clause-answer
returns-clause-answer c =
    length_in c.args.required.now c.args.rule c.args.self.now.last (with_ages c.args.rows.now.places.items c.args.rows.now.ages.items) c.args.circle.now.window c.args.rows.now.open.items c.args.rows.now.open.items c.count_due-count.result
    refl c.count_due-count.ensures.count c.requires.rising c.requires.placed

pub returns-clause-staying : goal.returns-clause-staying
returns-clause-staying c =
    back_in c.args.required.now c.args.rule c.args.self.now.last (with_ages c.args.rows.now.places.items c.args.rows.now.ages.items) c.args.circle.now.window c.args.rows.now.open.items c.args.rows.now.open.items c.count_due-count.result
    refl c.count_due-count.ensures.count c.requires.rising c.requires.placed

pub returns-clause-closed : goal.returns-clause-closed
returns-clause-closed c = c.close.ensures.items ∙ ap (λ is. c.args.self.now.instants.items ++ take c.count_due-count.result is) c.as_slice.ensures.value

pub returns-clause-due_rows : goal.returns-clause-due_rows
returns-clause-due_rows c =
    front_in c.args.required.now c.args.rule c.args.self.now.last (with_ages c.args.rows.now.places.items c.args.rows.now.ages.items) c.args.circle.now.window c.args.rows.now.open.items c.args.rows.now.open.items c.count_due-count.result
    refl c.count_due-count.ensures.count c.requires.rising c.requires.placed

pub returns-clause-front : goal.returns-clause-front
returns-clause-front c = c.greatest-self.ensures ∙ ap (λ is. greatest c.args.self.now.last (take c.count_due-count.result is)) c.as_slice.ensures.value

pub returns-clause-last : goal.returns-clause-last
returns-clause-last c =
    c.greatest-self.ensures
    ∙ ap (λ is. greatest c.args.self.now.last (take c.count_due-count.result is)) c.as_slice.ensures.value
    ∙ ap (greatest c.args.self.now.last) (sym (instants_in (with_ages c.args.rows.now.places.items c.args.rows.now.ages.items) c.args.circle.now.window (take c.count_due-count.result c.args.rows.now.open.items) (placed-take (with_ages c.args.rows.now.places.items c.args.rows.now.ages.items) c.args.circle.now.window c.count_due-count.result c.args.rows.now.open.items c.requires.placed)))
    ∙ ap (λ rows. greatest c.args.self.now.last (instants_of rows))
    (front_in c.args.required.now c.args.rule c.args.self.now.last (with_ages c.args.rows.now.places.items c.args.rows.now.ages.items) c.args.circle.now.window c.args.rows.now.open.items c.args.rows.now.open.items c.count_due-count.result
    refl c.count_due-count.ensures.count c.requires.rising c.requires.placed)

pub returns-clause-disagree : goal.returns-clause-disagree
returns-clause-disagree c =
    c.count_disagreements-self.ensures
    ∙ ap (λ is. counter (c.args.self.now.disagree + disagreements_in (layout_view c.args.layout.now) (rows_in c.args.rows.now.places.items c.args.circle.now.window (take c.count_due-count.result is)))) c.as_slice.ensures.value
    ∙ ap (λ n. counter (c.args.self.now.disagree + n)) (sym (aged_disagreements c.args.rows.now.places.items c.args.rows.now.ages.items (layout_view c.args.layout.now) c.args.circle.now.window (take c.count_due-count.result c.args.rows.now.open.items) c.args.circle.now.least c.requires.size c.requires.ages_size))
    ∙ ap (λ rows. counter (c.args.self.now.disagree + disagreements_in (layout_view c.args.layout.now) rows))
    (front_in c.args.required.now c.args.rule c.args.self.now.last (with_ages c.args.rows.now.places.items c.args.rows.now.ages.items) c.args.circle.now.window c.args.rows.now.open.items c.args.rows.now.open.items c.count_due-count.result
    refl c.count_due-count.ensures.count c.requires.rising c.requires.placed)
