-- What is left of blocks that lie one after the other, behind the first.
use Rattle.std.proofs.Common.{◌≡◌, ℕ, ◌*◌, ◌+◌, ◌<◌, ◌∙◌, List, ◌∷◌, ap, arith, drop, length, subst, sym}
use Rattle.std.specs.List.{AllByRecursion}
use Rattle.std.proofs.lemmas.List.{length-drop}
use Rattle.std.proofs.lemmas.List.Sums.{sum_by-cons}
use Rattle.pdc_row.specs.pdc_block.Block.{words_in}
use Rattle.pdc_row.specs.pdc_block.Laws.{WordsAreCut}
use Rattle.pdc_row.specs.pdc_cfg.Shape.{word_count_of}
use Rattle.pdc_row.specs.pdc_cfg.declared.shape.Shape.{Shape}
use Rattle.pdc_row.specs.CellView.{CellView}
use Rattle.pdc_columns.specs.Parts.{cut_cells, parts_len}

-- the first part, and what is behind it: this is so where the slices are split
pub record IsFirstOf {P : Type 0} (shape : P → Shape) (p : P) (parts later : List P) (bytes rest : List ℕ) : Type 0 where
  pub first : parts ≡ p ∷ later
  pub behind : rest ≡ drop (2 * word_count_of (shape p)) bytes

pub later_len : {P : Type 0} → (shape : P → Shape) (p : P) (parts later : List P) (bytes rest : List ℕ) → IsFirstOf shape p parts later bytes rest → length bytes ≡ parts_len shape parts → length rest ≡ parts_len shape later
later_len shape p parts later bytes rest f e =
    let more : parts_len shape (p ∷ later) ≡ 2 * word_count_of (shape p) + parts_len shape later = sum_by-cons (λ q. 2 * word_count_of (shape q)) p later in
    omega (arith, ap length f.behind, length-drop (2 * word_count_of (shape p)) bytes, e ∙ ap (parts_len shape) f.first, more)

pub later_exist : {P : Type 0} → (column : P → ℕ) (shape : P → Shape) (n quality : ℕ) (p : P) (parts later : List P) (bytes rest : List ℕ) → WordsAreCut → IsFirstOf shape p parts later bytes rest
    → AllByRecursion (λ (cell : ℕ × CellView). cell.0 < n) (cut_cells column shape parts quality (words_in bytes)) → AllByRecursion (λ (cell : ℕ × CellView). cell.0 < n) (cut_cells column shape later quality (words_in rest))
later_exist {P = P} column shape n quality p parts later bytes rest w f h =
    let all : AllByRecursion (λ (cell : ℕ × CellView). cell.0 < n) (cut_cells column shape (p ∷ later) quality (words_in bytes)) =
    subst (λ (ps : List P). AllByRecursion (λ (cell : ℕ × CellView). cell.0 < n) (cut_cells column shape ps quality (words_in bytes))) f.first h in
    subst (λ (ws : List ℕ). AllByRecursion (λ (cell : ℕ × CellView). cell.0 < n) (cut_cells column shape later quality ws)) (sym (w.behind (word_count_of (shape p)) bytes) ∙ ap words_in (sym f.behind)) all.1
