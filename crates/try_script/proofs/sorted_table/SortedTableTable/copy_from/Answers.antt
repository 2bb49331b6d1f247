use Rattle.std.proofs.Common.{arith, refl, ◌≡◌, ◌≤◌, ◌+◌, ◌∙◌, ap, length, sym}
use Rattle.std.proofs.lemmas.List.{length-map}
use Rattle.pdc_row.specs.RisingLaws.{RisingLaws}
use Rattle.pdc_row.specs.RowView.{row_view}
use Rattle.pdc_table.specs.Content.{HasSizesOf}
use Rattle.pdc_table.specs.TableView.{TableView}
use Rattle.pdc_table.proofs.Keeps.{held_fit}
use Rattle.try_script.specs.SortedTable.{content_of, IsKept, view_of}
use Rattle.try_script.specs.declared.sorted_table.SortedTable.TheInside.{Inside}
use Rattle.try_script.proofs.sorted_table.SortedTableTable.copy_from.Goals as goal

-- both have one window
window : (t other : Inside) (a b : TableView) → view_of t ≡ a → view_of other ≡ b → HasSizesOf b.content a.content → t.window ≡ other.window
window t other a b s o h = ap (λ (v : TableView). v.content.window) s ∙ h.window ∙ sym (ap (λ (v : TableView). v.content.window) o)

-- what is held has room in the window
fits : (R : RisingLaws) (t : Inside) → IsKept t → length t.closed.items + length t.rows.items ≤ t.window
fits R t k =
    let fit : length (content_of t).closed + length t.rows.items ≤ t.window = held_fit R (content_of t) k.content in
    omega (arith, length-map t.closed.items row_view)

pub copy_rows-requires-clause-room : goal.copy_rows-requires-clause-room
copy_rows-requires-clause-room c =
    omega (arith, fits c.numbers_rise.ensures c.other.inside c.other.invariant, window c.self.inside c.other.inside c.args.self.now c.args.other.now c.self.view_is c.other.view_is c.requires, c.self.invariant.room)

pub copy_closed-requires : goal.copy_closed-requires
copy_closed-requires c =
    let closed : length c.other.inside.closed.items ≡ length c.other.inside.closed.items = refl in
    omega (arith, fits c.numbers_rise.ensures c.other.inside c.other.invariant, window c.self.inside c.other.inside c.args.self.now c.args.other.now c.self.view_is c.other.view_is c.requires, c.self.invariant.closed_room)
