-- A block of lane 1 that stands in lane 0.
use Rattle.std.proofs.Common.{◌≡◌, ◌∙◌, Bool, true, false, ap, cond, refl, sym}
use Rattle.pdc_row.proofs.SameBlocks.{block_is}
use Rattle.pdc_row.specs.CellView.{BlockView, same_block}
use Rattle.pdc_columns.specs.ColumnParts.{block_of_second}
use Rattle.pdc_columns.specs.declared.column.Held.{Held}

stays_where : (is_same : Bool) (own first : BlockView) → (is_same ≡ true → own ≡ first) → cond is_same first own ≡ own
stays_where true own first same = sym (same refl)
stays_where false own first same = refl

-- it is the one of its own place, where the two were found the same
pub stays : (held : Held) (own block second : BlockView) → second ≡ own
    → block_of_second (record held { alike = same_block own block }) block second ≡ own
stays held own block second is =
    ap (cond (same_block own block) block) is ∙ stays_where (same_block own block) own block (λ same. block_is own block same)
