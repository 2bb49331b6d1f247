use Rattle.std.proofs.Common.{◌∙◌, ◌<◌, ◌++◌, ◌∷◌, [], List, ap, arith, length}
use Rattle.pdc_row.specs.CellView.{BlockView, body_view}
use Rattle.pdc_row.proofs.PlacedBlocks.{kept_there, put_so_far, put_there}
use Rattle.pdc_row.proofs.row_blocks.RowBlocks.put_anew.Goals as goal
use Rattle.pdc_row.proofs.row_blocks.RowBlocks.put_anew.Goals.{else-at-place, then-at-place}

pub push-requires : goal.push-requires
push-requires g c =
    put_so_far c.loop-at.at c.args.place c.args.self.now c.loop-at.blocks (g.B.Offered.view c.args.block.now) (omega (arith, c.loop-at-test.true, c.len-at-end.ensures)) c.are_few.ensures c.loop-at.invariant

pub push-requires-else-at-place : goal.push-requires-else-at-place
push-requires-else-at-place g c =
    put_so_far c.loop-at.at c.args.place c.args.self.now c.loop-at.blocks (g.B.Offered.view c.args.block.now) (omega (arith, c.loop-at-test.true, c.len-at-end.ensures)) c.are_few.ensures c.loop-at.invariant

pub loop-at-preserved : goal.loop-at-preserved
loop-at-preserved g c =
    let block : BlockView = g.B.Offered.view c.args.block.now in
    let inside : c.loop-at.at < length c.args.self.now = omega (arith, c.loop-at-test.true, c.len-at-end.ensures) in
    elim c.if-at-place.branch [
      | then-at-place w ↦
          w.blocks-is ∙ w.push.ensures ∙ ap (λ (bs : List BlockView). bs ++ block ∷ []) c.loop-at.invariant
          ∙ put_there c.loop-at.at c.args.place c.args.self.now block (omega (arith, w.if-at-place)) c.requires
      | else-at-place w ↦
          w.blocks-is ∙ w.push-else-at-place.ensures ∙ ap (λ (bs : List BlockView). bs ++ body_view w.body.result ∷ []) c.loop-at.invariant
          ∙ kept_there c.loop-at.at c.args.place c.args.self.now block (body_view w.body.result) (λ e. omega (arith, w.if-at-place, e)) inside (w.body.ensures (body_view w.body.result))
    ]
