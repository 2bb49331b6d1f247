use Rattle.std.proofs.Common.{◌≡◌, ap, arith, length}
use Rattle.std.proofs.lemmas.List.{length-map}
use Rattle.pdc_row.specs.CellView.{BlockView}
use Rattle.pdc_columns.proofs.Lent.{as_lent, many_lent}
use Rattle.pdc_columns.proofs.ColumnParts.{laid_out_again}
use Rattle.pdc_columns.proofs.columns.Columns.lay_out_as.Goals as goal

pub returns : goal.returns
returns c =
    let first : length c.lay_out_as.new.self ≡ length c.self.inside.held =
    omega (
      arith,
      ap length c.lay_out_as.ensures,
      length-map c.lay_out_as.new.self (λ (b : BlockView). b.shape),
      length-map c.get.result.now.blocks (λ (b : BlockView). b.shape),
      many_lent _ _ _ c.get.ensures c.other.invariant.first,
      c.len.ensures.value,
      c.len-else-held-2.ensures.value,
      c.if-len.false,
    ) in
    let second : length c.lay_out_as-2.new.self ≡ length c.self.inside.held =
    omega (
      arith,
      ap length c.lay_out_as-2.ensures,
      length-map c.lay_out_as-2.new.self (λ (b : BlockView). b.shape),
      length-map c.get-2.result.now (λ (b : BlockView). b.shape),
      as_lent _ _ _ c.get-2.ensures c.other.invariant.second,
      c.len.ensures.value,
      c.len-else-held-2.ensures.value,
      c.if-len.false,
    ) in
    laid_out_again c.args.self.now c.self.inside.held c.in-Some.held c.self.inside.first.value.blocks c.self.inside.second.value c.lay_out_as.new.self c.lay_out_as-2.new.self
    c.self.view_is c.in-Some.ensures c.if-held.false c.if-held-2.false c.self.invariant.first c.self.invariant.second first second
