-- What is seen of a row and of blocks that are lent: they are those that are kept.
use Rattle.std.proofs.Common.{◌≡◌, ◌∙◌, ℕ, List, ap, length}
use Rattle.pdc_row.specs.CellView.{BlockView}
use Rattle.pdc_row.specs.declared.due_row.DueRow.{DueRow}
use Rattle.pdc_columns.specs.ColumnParts.{columns_of}
use Rattle.pdc_columns.specs.Views.{ColumnView}
use Rattle.pdc_columns.specs.declared.column.Held.{Held}

pub seen_lent : (hs : List Held) (r s : DueRow) (ss : List BlockView) (columns : List ColumnView) → r ≡ s → columns_of hs s.blocks ss ≡ columns → columns_of hs r.blocks ss ≡ columns
seen_lent hs r s ss columns e seen = ap (λ (x : DueRow). columns_of hs x.blocks ss) e ∙ seen

pub many_lent : (r s : DueRow) (n : ℕ) → r ≡ s → length s.blocks ≡ n → length r.blocks ≡ n
many_lent r s n e k = ap (λ (x : DueRow). length x.blocks) e ∙ k

pub seen_both : (hs : List Held) (r s : DueRow) (ss ts : List BlockView) (columns : List ColumnView) → r ≡ s → ss ≡ ts → columns_of hs s.blocks ts ≡ columns → columns_of hs r.blocks ss ≡ columns
seen_both hs r s ss ts columns e k seen = ap (λ (x : DueRow). columns_of hs x.blocks ss) e ∙ ap (columns_of hs s.blocks) k ∙ seen

pub as_lent : (ss ts : List BlockView) (n : ℕ) → ss ≡ ts → length ts ≡ n → length ss ≡ n
as_lent ss ts n e k = ap length e ∙ k
