use Rattle.std.proofs.Common.{arith, ◌∙◌, ap}
use Rattle.pdc_table.specs.RingRows.{with_ages}
use Rattle.pdc_table.specs.Steps.{next_answer}
use Rattle.pdc_table.specs.TableView.{TableView}
use Rattle.pdc_table.proofs.RingAges.{aged_placed}
use Rattle.pdc_table.proofs.RingClosed.{first_instant}
use Rattle.pdc_table.proofs.ring_table.RingTableTable.next_due.Goals as goal

pub returns : goal.returns
returns c =
    c.first.ensures
    ∙ first_instant (with_ages c.self.inside.rows.places.items c.self.inside.rows.ages.items) c.self.inside.closed.layouts.items c.self.inside.circle.window c.self.inside.closed.instants.items
    (aged_placed c.self.inside.rows.places.items c.self.inside.rows.ages.items c.self.inside.circle.window c.self.inside.closed.instants.items (omega (arith, c.self.invariant.content.window_least)) c.self.invariant.size c.self.invariant.ages c.self.invariant.closed_placed)
    ∙ ap (λ (t : TableView). next_answer t.content) c.self.view_is
