use Rattle.std.proofs.Common.{◌∙◌, ◌<◌, ap, get_or, length, subst, sym}
use Rattle.std.proofs.lemmas.List.{length-set}
use Rattle.pdc_row.specs.CellView.{BlockView, same_block}
use Rattle.pdc_columns.proofs.column.Held.meet.Goals as goal

pub returns-clause-held : goal.returns-clause-held
returns-clause-held g c = λ default.
    ap (λ alike. record c.args.self.now { alike = alike })
    (c.holds-self.ensures default ∙ ap (λ (b : BlockView). same_block b (g.B.Offered.view c.args.block.now)) (c.part.ensures.block default))

pub holds-self-requires : goal.holds-self-requires
holds-self-requires g c =
    let view : BlockView = g.B.Offered.view c.args.block.now in
    subst (λ n. c.args.place < n)
    (sym (ap length (c.part.ensures.second view) ∙ length-set c.args.second.now c.args.place (get_or c.part.new.second c.args.place view)))
    c.requires.second
