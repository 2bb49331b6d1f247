-- What a column holds after blocks were put into their columns.
use Rattle.std.proofs.Common.{◌≡◌, ◌≢◌, ℕ, ◌<◌, true, false, eqb, List, [], ◌∷◌, length, get_or, set, refl, sym, ◌∙◌, ap, subst, if◌then◌else◌, arith, rules, inl, inr, Some, None, length-set}
use Rattle.std.proofs.lemmas.Bool.{cases_eq}
use Rattle.std.proofs.lemmas.List.{get_or-set_same, get_or-set_other}
use Rattle.pdc_open_row.specs.pdc_row.CellView.{CellView}
use Rattle.pdc_table.specs.Content.{HaveOwnColumns, NoneIsOf}
use Rattle.pdc_open_row.specs.pdc_columns.Taking.{given_for, with_cell, with_cells, with_given}
use Rattle.pdc_open_row.specs.pdc_columns.Views.{ColumnView, empty_column}

eqb_yes : (m n : ℕ) → m ≡ n → eqb m n ≡ true
eqb_yes m n h = search rules

eqb_no : (m n : ℕ) → m ≢ n → eqb m n ≡ false
eqb_no m n h = search rules

none_given : (k : ℕ) (cells : List (ℕ × CellView)) → NoneIsOf k cells → given_for k cells ≡ None
none_given k [] h = refl
none_given k (cell ∷ cells) h = rw (eqb_no cell.0 k h.0) (none_given k cells h.1)

pub stands : (lane : ℕ) (cells : List (ℕ × CellView)) (columns : List ColumnView) → HaveOwnColumns cells → (k : ℕ) → k < length columns → get_or (with_cells lane cells columns) k empty_column ≡ with_given lane (given_for k cells) (get_or columns k empty_column)
stands lane [] columns h k l = refl
stands lane (cell ∷ cells) columns h k l =
    let new : ColumnView = with_cell lane (Some cell.1) (get_or columns cell.0 empty_column) in
    let next : get_or (with_cells lane cells (set columns cell.0 new)) k empty_column ≡ with_given lane (given_for k cells) (get_or (set columns cell.0 new) k empty_column) =
    stands lane cells (set columns cell.0 new) h.1 k (omega (arith, length-set {A = ColumnView})) in
    elim (cases_eq cell.0 k) [
      | inl e ↦ (let none : given_for k cells ≡ None = none_given k cells (subst (λ j. NoneIsOf j cells) e h.0) in
          let here : get_or (set columns cell.0 new) k empty_column ≡ new = rw (← e) (get_or-set_same columns cell.0 new empty_column (omega arith)) in
          next ∙ ap (λ o. with_given lane o (get_or (set columns cell.0 new) k empty_column)) none ∙ here
          ∙ ap (λ j. with_cell lane (Some cell.1) (get_or columns j empty_column)) e
          ∙ ap (λ b. with_given lane (if b then Some cell.1 else given_for k cells) (get_or columns k empty_column)) (sym (eqb_yes cell.0 k e)))
      | inr n ↦ next ∙ ap (λ column. with_given lane (given_for k cells) column) (get_or-set_other columns cell.0 k new empty_column (λ e. n (sym e)))
          ∙ ap (λ b. with_given lane (if b then Some cell.1 else given_for k cells) (get_or columns k empty_column)) (sym (eqb_no cell.0 k n))
    ]
