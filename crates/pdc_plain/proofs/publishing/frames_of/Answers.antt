use Rattle.std.proofs.Common.{◌≡◌, ◌<◌, ◌*◌, ◌∙◌, Global, List, Vec, ℕ, [], ◌∷◌, ap, arith, length, map, refl, slice_index_or, subst, suc, sym, zero}
use Rattle.std.specs.Prelude.{IfOk}
use Rattle.std.specs.List.{All}
use Rattle.pdc_row.specs.RowView.{RowView, row_instants, row_view}
use Rattle.pdc_row.specs.declared.due_row.DueRow.{DueRow}
use Rattle.pdc_row.specs.declared.output.Output.{Output}
use Rattle.pdc_row.specs.Layout.{wire_of}
use Rattle.pdc_life.specs.Published.{published}
use Rattle.pdc_plain_steps.specs.Views.{given_view, life_view}
use Rattle.pdc_plain.proofs.publishing.frames_of.Goals as goal

low_at : (top : ℕ) (rows : List DueRow) (k : ℕ) (d : DueRow) → All (λ n. n < top) (row_instants (map row_view rows)) → k < length rows → (slice_index_or rows k d).instant < top
low_at top [] k d a h = absurd (omega (arith, h))
low_at top (r ∷ rows) zero d a h = a 0 d.instant (omega arith)
low_at top (r ∷ rows) (suc k) d a h = low_at top rows k d (λ j e l. a (suc j) e (omega (arith, l))) (omega (arith, h))

of_views : (output : Output) (rows : List DueRow) → map (λ (row : DueRow). wire_of output (row_view row)) rows ≡ map (wire_of output) (map row_view rows)
of_views output [] = refl
of_views output (r ∷ rows) = ap (λ ws. wire_of output (row_view r) ∷ ws) (of_views output rows)

pub frames-requires : goal.frames-requires
frames-requires c k d h =
    let g = given_view c.args.given.now in
    let top : ℕ = 4294967296 * g.output.rate in
    let tags : All (λ n. n < top) (row_instants (map row_view c.deref.result.now)) =
    subst (λ (rs : List RowView). All (λ n. n < top) (row_instants rs)) (sym (ap (map row_view) c.deref.ensures.value ∙ c.in_ok-rows.ensures)) c.requires in
    low_at top c.deref.result.now k d tags h

pub returns : goal.returns
returns c =
    let g = given_view c.args.given.now in
    let E = life_view c.args.life.now in
    let e : map (λ (row : DueRow). wire_of g.output (row_view row)) c.deref.result.now ≡ published g E =
    ap (map (λ (row : DueRow). wire_of g.output (row_view row))) c.deref.ensures.value ∙ of_views g.output c.in_ok-rows.rows.items ∙ ap (map (wire_of g.output)) c.in_ok-rows.ensures in
    subst (λ (ws : List (List ℕ)). IfOk c.frames.result (λ frames. map (λ (frame : Vec ℕ Global). frame.items) frames.items ≡ ws)) e c.frames.ensures
