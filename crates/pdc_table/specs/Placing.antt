-- The row of an instant among rows in rising order.
use Rattle.std.specs.Prelude.{◌≡◌, ℕ, ◌<◌, ◌≤◌, ◌==◌, nat_lt, if◌then◌else◌, List, [], ◌∷◌, length, insert, slice_index_or, slice_set, Option, Some, None}
use Rattle.std.specs.List.{prefix_len}
use Rattle.pdc_open_row.specs.Views.{OpenRowView}

-- the row of this instant, if there is one
abbrev pub row_at : ℕ → List OpenRowView → Option OpenRowView
row_at instant [] = None
row_at instant (row ∷ rows) = if row.instant == instant then Some row else row_at instant rows

-- The rows after a change to the row of fresh's instant, which is fresh where there is none.
abbrev pub with_row : (OpenRowView → OpenRowView) → OpenRowView → List OpenRowView → List OpenRowView
with_row change fresh [] = change fresh ∷ []
with_row change fresh (row ∷ rows) =
    if nat_lt fresh.instant row.instant then change fresh ∷ row ∷ rows
    else (if row.instant == fresh.instant then change row ∷ rows else row ∷ with_row change fresh rows)

-- how many rows stand below this instant, where they rise
abbrev pub place_of : ℕ → List OpenRowView → ℕ
place_of instant rows = prefix_len (λ (row : OpenRowView). nat_lt row.instant instant) rows

-- p is where the row of fresh's instant stands.
pub record IsRowPlace (fresh : OpenRowView) (rows : List OpenRowView) (p : ℕ) : Type 0 where
  pub within : p < length rows
  pub here : row_at fresh.instant rows ≡ Some (slice_index_or rows p fresh)
  pub changed : (change : OpenRowView → OpenRowView) → with_row change fresh rows ≡ slice_set rows p (change (slice_index_or rows p fresh))

-- The instant of fresh has no row, and p is where it would stand.
pub record IsGap (fresh : OpenRowView) (rows : List OpenRowView) (p : ℕ) : Type 0 where
  pub within : p ≤ length rows
  pub none : row_at fresh.instant rows ≡ None
  pub changed : (change : OpenRowView → OpenRowView) → with_row change fresh rows ≡ insert rows p (change fresh)
