-- One more column of a row, or one more block of a frame.
use Rattle.std.proofs.Common.{◌≡◌, ℕ, ◌+◌, ◌<◌, List, [], ◌∷◌, ◌++◌, length, get_or, set, drop, refl, Option, Some, None, append_assoc, ap, sym, ◌∙◌, arith, suc, inl, inr, add-one, drop-cons}
use Rattle.std.proofs.lemmas.Bool.{cases_lt}
use Rattle.std.proofs.lemmas.List.{drop_all, get_or_past}
use Rattle.pdc_row.specs.pdc_cfg.declared.shape.Shape.{Shape}
use Rattle.pdc_row.specs.CellView.{BlockView}
use Rattle.pdc_columns.specs.Giving.{blocks_at, blocks_of, qualities_at, qualities_of}
use Rattle.pdc_columns.specs.Chosen.{disagreement_at, disagreements_of}
use Rattle.pdc_columns.specs.Taking.{cells_in, with_cell, with_cells}
use Rattle.pdc_columns.specs.Views.{ColumnView, empty_column}

pub blocks_step : (os : List (Option Shape)) (cs : List ColumnView) (i : ℕ) → i < length os → blocks_of (drop i os) (drop i cs) ≡ blocks_at (get_or os i None) (get_or cs i empty_column) ++ blocks_of (drop (i + 1) os) (drop (i + 1) cs)
blocks_step os cs i h = elim (cases_lt i (length cs)) [
  | inl k ↦ rw (add-one, drop-cons os i None, drop-cons cs i empty_column) refl
  | inr k ↦ rw (add-one, drop-cons os i None, drop_all i cs k, drop_all (suc i) cs (omega arith), get_or_past cs i empty_column k) refl
]

no_qualities : (os : List (Option Shape)) → qualities_of os [] ≡ []
no_qualities [] = refl
no_qualities (o ∷ os) = refl

no_quality : (o : Option Shape) → qualities_at o empty_column ≡ []
no_quality None = refl
no_quality (Some shape) = refl

pub qualities_step : (os : List (Option Shape)) (cs : List ColumnView) (i : ℕ) → i < length os → qualities_of (drop i os) (drop i cs) ≡ qualities_at (get_or os i None) (get_or cs i empty_column) ++ qualities_of (drop (i + 1) os) (drop (i + 1) cs)
qualities_step os cs i h = elim (cases_lt i (length cs)) [
  | inl k ↦ rw (add-one, drop-cons os i None, drop-cons cs i empty_column) refl
  | inr k ↦ rw (drop_all i cs k, drop_all (i + 1) cs (omega arith), get_or_past cs i empty_column k, no_qualities (drop i os), no_qualities (drop (i + 1) os), no_quality (get_or os i None)) refl
]

no_disagreements : (os : List (Option Shape)) → disagreements_of os [] ≡ 0
no_disagreements [] = refl
no_disagreements (o ∷ os) = refl

no_disagreement : (o : Option Shape) → disagreement_at o empty_column ≡ 0
no_disagreement None = refl
no_disagreement (Some shape) = refl

pub disagreements_step : (os : List (Option Shape)) (cs : List ColumnView) (i : ℕ) → i < length os → disagreements_of (drop i os) (drop i cs) ≡ disagreement_at (get_or os i None) (get_or cs i empty_column) + disagreements_of (drop (i + 1) os) (drop (i + 1) cs)
disagreements_step os cs i h = elim (cases_lt i (length cs)) [
  | inl k ↦ rw (add-one, drop-cons os i None, drop-cons cs i empty_column) refl
  | inr k ↦ rw (drop_all i cs k, drop_all (i + 1) cs (omega arith), get_or_past cs i empty_column k, no_disagreements (drop i os), no_disagreements (drop (i + 1) os), no_disagreement (get_or os i None)) refl
]

pub cells_step : {B : Type 0} → (view : B → BlockView) (lane quality : ℕ) (blocks : List (ℕ × B)) (columns : List ColumnView) (i : ℕ) (part : ℕ × B) → i < length blocks → part ≡ get_or blocks i part → with_cells lane (cells_in view (drop i blocks) quality) columns ≡ with_cells lane (cells_in view (drop (i + 1) blocks) quality) (set columns part.0 (with_cell lane (Some (record { block = view part.1; quality = quality })) (get_or columns part.0 empty_column)))
cells_step view lane quality blocks columns i part h e = rw (add-one, drop-cons blocks i part, ← e) refl

-- one more column of a row that is written
pub blocks_more : (os : List (Option Shape)) (cs : List ColumnView) (i : ℕ) (front next all : List BlockView) → i < length os → next ≡ front ++ blocks_at (get_or os i None) (get_or cs i empty_column) → front ++ blocks_of (drop i os) (drop i cs) ≡ all → next ++ blocks_of (drop (i + 1) os) (drop (i + 1) cs) ≡ all
blocks_more os cs i front next all h e k =
    ap (λ bs. bs ++ blocks_of (drop (i + 1) os) (drop (i + 1) cs)) e
    ∙ append_assoc front (blocks_at (get_or os i None) (get_or cs i empty_column)) (blocks_of (drop (i + 1) os) (drop (i + 1) cs))
    ∙ ap (λ bs. front ++ bs) (sym (blocks_step os cs i h)) ∙ k
