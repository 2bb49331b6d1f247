use Rattle.std.proofs.Common.{ap, arith, length}
use Rattle.std.proofs.lemmas.List.{length-map}
use Rattle.pdc_row.specs.CellView.{BlockView}
use Rattle.pdc_columns.proofs.whole.lay_out_as_many.Goals as goal

pub returns-then-len : goal.returns-then-len
returns-then-len c =
    omega (
      arith,
      ap length c.lay_out_as.ensures,
      length-map c.lay_out_as.new.self (λ (b : BlockView). b.shape),
      length-map c.args.others.now (λ (b : BlockView). b.shape),
    )
