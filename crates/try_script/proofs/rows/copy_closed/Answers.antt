use Rattle.std.proofs.Common.{ℕ, ◌+◌, length, length-append, ◌++◌, ◌∷◌, [], ◌∙◌, List, ap, map, rules, sym, take, arith}
use Rattle.std.proofs.lemmas.List.{map-append, take_more}
use Rattle.pdc_row.specs.RowView.{row_view, RowView}
use Rattle.pdc_row.specs.declared.due_row.DueRow.{DueRow}
use Rattle.try_script.proofs.rows.copy_closed.Goals as goal

pub loop-place-preserved : goal.loop-place-preserved
loop-place-preserved c =
    let i = c.loop-place.place in
    let others = c.args.others.now.items in
    record {
      items =
          ap (map row_view) c.push_back.ensures.items
          ∙ map-append row_view c.loop-place.closed.items (c.again.result ∷ [])
          ∙ ap (λ (rows : List RowView). rows ++ row_view c.again.result ∷ []) c.loop-place.invariant.items
          ∙ ap (λ (row : RowView). map row_view (take i others) ++ row ∷ []) c.again.ensures
          ∙ sym (map-append row_view (take i others) (c.item.result.now ∷ []))
          ∙ ap (map row_view) (sym (take_more others i c.item.result.now (omega (arith, c.len-place-end.ensures)) ∙ ap (λ (row : DueRow). take i others ++ row ∷ []) (sym c.item.ensures)));
      count = ap length c.push_back.ensures.items ∙ length-append c.loop-place.closed.items (c.again.result ∷ []) ∙ ap (λ (n : ℕ). n + 1) c.loop-place.invariant.count;
      capacity = search (rules, c.loop-place.invariant.capacity);
    }
