use Rattle.std.proofs.Common.{◌*◌, ◌<◌}
use Rattle.std.proofs.lemmas.List.Elements.{All-from_recursion}
use Rattle.pdc_row.specs.RowView.{row_instants}
use Rattle.pdc_life.specs.Life.{popped}
use Rattle.pdc_plain_steps.specs.Views.{given_view, life_view}
use Rattle.pdc_plain.proofs.living.life_of.Goals as goal

pub invariant_of-result : goal.invariant_of-result
invariant_of-result c =
    let g = given_view c.args.given in
    let E = life_view c.args.entries.items in
    record {
      tagged = All-from_recursion (λ n. n < 4294967296 * g.output.rate) (row_instants (popped E)) (c.rows_have_tags.ensures.tags g E c.requires).2;
      changes_fit = c.closed_rows_are_frames.ensures.changes g E c.requires.ticked;
    }
