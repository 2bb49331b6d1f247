use Rattle.std.proofs.Common.{◌∙◌, List, ap, sym}
use Rattle.std.proofs.lemmas.Bool.{false≢true}
use Rattle.std.specs.Cmp.Lexicographic.{pointwise}
use Rattle.pdc_block.specs.pdc_cfg.declared.shape.Shape.{Shape}
use Rattle.pdc_row.proofs.SameBlocks.{alike, shapes_are_same, shapes_found_same}
use Rattle.pdc_row.proofs.shapes.are_each_same.Goals as goal

pub returns : goal.returns
returns c =
    let some : List Shape = c.args.some.now in
    record {
      same = λ e. shapes_found_same some c.args.others.now (sym c.eq.ensures ∙ e);
      other = λ e same. false≢true (sym e ∙ c.eq.ensures ∙ ap (pointwise alike some) (sym same) ∙ shapes_are_same some);
    }
