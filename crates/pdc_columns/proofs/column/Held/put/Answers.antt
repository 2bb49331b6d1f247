use Rattle.std.proofs.Common.{◌≡◌, ◌∙◌, get_or, refl, sym}
use Rattle.std.proofs.lemmas.Bool.{ne_eqb}
use Rattle.pdc_row.proofs.SameBlocks.{block_is}
use Rattle.pdc_columns.proofs.column.Held.put.Goals as goal

-- what is the same in lane 0 stands there
pub returns-then-holds-clause-column : goal.returns-then-holds-clause-column
returns-then-holds-clause-column g c = λ default.
    let same : get_or c.args.first.now c.args.place default ≡ g.B.Offered.view c.args.block.now =
    block_is (get_or c.args.first.now c.args.place default) (g.B.Offered.view c.args.block.now) (sym (c.holds.ensures default) ∙ c.if-holds.true) in
    rw (ne_eqb c.args.lane 0 c.if-lane-eq0.false, ← same) refl
