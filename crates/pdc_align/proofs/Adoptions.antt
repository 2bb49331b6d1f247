-- What adoptions make of a table.
use Rattle.std.proofs.Common.{◌≡◌, ℕ, ◌==◌, Bool, true, false, if◌then◌else◌, List, [], ◌∷◌, map, set, refl, ap, ◌∙◌, None}
use Rattle.pdc_arrival.specs.pdc_row.RowView.{RowView}
use Rattle.pdc_table.specs.Content.{Content}
use Rattle.pdc_table.specs.pdc_columns.Taking.{with_cell}
use Rattle.pdc_table.specs.pdc_open_row.Taking.{without_column, without_stream}
use Rattle.pdc_table.specs.pdc_columns.Views.{ColumnView, empty_column}
use Rattle.pdc_table.specs.pdc_open_row.Views.{OpenRowView}
use Rattle.pdc_arrival.specs.pdc_life.Given.{Given, columns_of, streams_of}
use Rattle.pdc_align.specs.State.{after_adoption, after_adoptions}
use Rattle.pdc_align.proofs.Lists.{map_same, map_twice, set_all, set_at, set_more, set_range}

-- an open instant told by what its streams and its columns are
abbrev pub row_with : Given → (age : ℕ) → (taken : ℕ → Bool) → (column : ℕ → ColumnView) → ℕ → OpenRowView
row_with g age taken column i = record { instant = i; age = age; taken = map taken (streams_of g); columns = map column (columns_of g) }

-- a table told so
abbrev pub content_with : Given → (last : ℕ) → List RowView → List ℕ → (age : ℕ → ℕ) → (required : ℕ → Bool) → (taken : ℕ → ℕ → Bool) → (column : ℕ → ℕ → ColumnView) → Content
content_with g last rows is age required taken column = record {
  window = g.window;
  columns = g.columns;
  lanes = g.lanes;
  required = map required (streams_of g);
  open_rows = map (λ i. row_with g (age i) (taken i) (column i) i) is;
  closed = rows;
  last = last;
}

pub row_same : (g : Given) (age i : ℕ) (t u : ℕ → Bool) (column other : ℕ → ColumnView) → ((s : ℕ) → t s ≡ u s) → ((n : ℕ) → column n ≡ other n) → row_with g age t column i ≡ row_with g age u other i
row_same g age i t u column other h k =
    ap (λ ts. record { instant = i; age = age; taken = ts; columns = map column (columns_of g) }) (map_same t u h (streams_of g))
    ∙ ap (λ ns. record { instant = i; age = age; taken = map u (streams_of g); columns = ns }) (map_same column other k (columns_of g))

pub content_same : (g : Given) (last : ℕ) (rows : List RowView) (is : List ℕ) (age : ℕ → ℕ) (required needed : ℕ → Bool) (t u : ℕ → ℕ → Bool) (column other : ℕ → ℕ → ColumnView) → ((s : ℕ) → required s ≡ needed s) → ((i s : ℕ) → t i s ≡ u i s) → ((i n : ℕ) → column i n ≡ other i n) → content_with g last rows is age required t column ≡ content_with g last rows is age needed u other
content_same g last rows is age required needed t u column other h k e =
    ap (λ (rs : List Bool). record (content_with g last rows is age required t column) { required = rs }) (map_same required needed h (streams_of g))
    ∙ ap (λ (os : List OpenRowView). record (content_with g last rows is age needed t column) { open_rows = os })
    (map_same (λ i. row_with g (age i) (t i) (column i) i) (λ i. row_with g (age i) (u i) (other i) i) (λ i. row_same g (age i) i (t i) (u i) (column i) (other i) (k i) (e i)) is)

-- ---- one lane: the stream of the column is waited for, and what was taken of it is dropped

drop_stream_row : (g : Given) (age i d : ℕ) (taken : ℕ → Bool) (column : ℕ → ColumnView) → (g.lanes == 1) ≡ true → without_stream g.lanes d (row_with g age taken column i) ≡ row_with g age (set_at d false taken) (set_at d empty_column column) i
drop_stream_row g age i d taken column h =
    ap (λ b. record { instant = i; age = age; taken = set (map taken (streams_of g)) d false; columns = if b then set (map column (columns_of g)) d empty_column else map (with_cell d None) (map column (columns_of g)) }) h
    ∙ ap (λ ts. record { instant = i; age = age; taken = ts; columns = set (map column (columns_of g)) d empty_column }) (set_range taken false d _)
    ∙ ap (λ ns. record { instant = i; age = age; taken = map (set_at d false taken) (streams_of g); columns = ns }) (set_range column empty_column d _)

with_one_lane : (g : Given) (last : ℕ) (rows : List RowView) (is : List ℕ) (age : ℕ → ℕ) (required : ℕ → Bool) (taken : ℕ → ℕ → Bool) (column : ℕ → ℕ → ColumnView) (d : ℕ) → (g.lanes == 1) ≡ true → after_adoption (content_with g last rows is age required taken column) d ≡ content_with g last rows is age (set_at d true required) (λ i. set_at d false (taken i)) (λ i. set_at d empty_column (column i))
with_one_lane g last rows is age required taken column d h =
    ap (λ b. if b then record (content_with g last rows is age required taken column) { required = set (map required (streams_of g)) d true; open_rows = map (without_stream g.lanes d) (map (λ i. row_with g (age i) (taken i) (column i) i) is) } else record (content_with g last rows is age required taken column) { open_rows = map (without_column d) (map (λ i. row_with g (age i) (taken i) (column i) i) is) }) h
    ∙ ap (λ (rs : List Bool). record (content_with g last rows is age required taken column) { required = rs; open_rows = map (without_stream g.lanes d) (map (λ i. row_with g (age i) (taken i) (column i) i) is) }) (set_range required true d _)
    ∙ ap (λ (os : List OpenRowView). record (content_with g last rows is age (set_at d true required) taken column) { open_rows = os })
    (map_twice (without_stream g.lanes d) (λ i. row_with g (age i) (taken i) (column i) i) is
    ∙ map_same (λ i. without_stream g.lanes d (row_with g (age i) (taken i) (column i) i)) (λ i. row_with g (age i) (set_at d false (taken i)) (set_at d empty_column (column i)) i)
    (λ i. drop_stream_row g (age i) i d (taken i) (column i) h) is)

pub all_with_one_lane : (g : Given) (last : ℕ) (rows : List RowView) (is : List ℕ) (age : ℕ → ℕ) (required : ℕ → Bool) (taken : ℕ → ℕ → Bool) (column : ℕ → ℕ → ColumnView) (ds : List ℕ) → (g.lanes == 1) ≡ true → after_adoptions (content_with g last rows is age required taken column) ds ≡ content_with g last rows is age (set_all ds true required) (λ i. set_all ds false (taken i)) (λ i. set_all ds empty_column (column i))
all_with_one_lane g last rows is age required taken column [] h = refl
all_with_one_lane g last rows is age required taken column (d ∷ ds) h =
    ap (λ c. after_adoptions c ds) (with_one_lane g last rows is age required taken column d h)
    ∙ all_with_one_lane g last rows is age (set_at d true required) (λ i. set_at d false (taken i)) (λ i. set_at d empty_column (column i)) ds h
    ∙ content_same g last rows is age (set_all ds true (set_at d true required)) (set_all (d ∷ ds) true required) (λ i. set_all ds false (set_at d false (taken i))) (λ i. set_all (d ∷ ds) false (taken i)) (λ i. set_all ds empty_column (set_at d empty_column (column i))) (λ i. set_all (d ∷ ds) empty_column (column i))
    (λ s. set_more d ds true required s) (λ i s. set_more d ds false (taken i) s) (λ i n. set_more d ds empty_column (column i) n)

-- ---- two lanes: the cells of the column are dropped

drop_column_row : (g : Given) (age i d : ℕ) (taken : ℕ → Bool) (column : ℕ → ColumnView) → without_column d (row_with g age taken column i) ≡ row_with g age taken (set_at d empty_column column) i
drop_column_row g age i d taken column =
    ap (λ ns. record { instant = i; age = age; taken = map taken (streams_of g); columns = ns }) (set_range column empty_column d _)

with_two_lanes : (g : Given) (last : ℕ) (rows : List RowView) (is : List ℕ) (age : ℕ → ℕ) (required : ℕ → Bool) (taken : ℕ → ℕ → Bool) (column : ℕ → ℕ → ColumnView) (d : ℕ) → (g.lanes == 1) ≡ false → after_adoption (content_with g last rows is age required taken column) d ≡ content_with g last rows is age required taken (λ i. set_at d empty_column (column i))
with_two_lanes g last rows is age required taken column d h =
    ap (λ b. if b then record (content_with g last rows is age required taken column) { required = set (map required (streams_of g)) d true; open_rows = map (without_stream g.lanes d) (map (λ i. row_with g (age i) (taken i) (column i) i) is) } else record (content_with g last rows is age required taken column) { open_rows = map (without_column d) (map (λ i. row_with g (age i) (taken i) (column i) i) is) }) h
    ∙ ap (λ (os : List OpenRowView). record (content_with g last rows is age required taken column) { open_rows = os })
    (map_twice (without_column d) (λ i. row_with g (age i) (taken i) (column i) i) is
    ∙ map_same (λ i. without_column d (row_with g (age i) (taken i) (column i) i)) (λ i. row_with g (age i) (taken i) (set_at d empty_column (column i)) i)
    (λ i. drop_column_row g (age i) i d (taken i) (column i)) is)

pub all_with_two_lanes : (g : Given) (last : ℕ) (rows : List RowView) (is : List ℕ) (age : ℕ → ℕ) (required : ℕ → Bool) (taken : ℕ → ℕ → Bool) (column : ℕ → ℕ → ColumnView) (ds : List ℕ) → (g.lanes == 1) ≡ false → after_adoptions (content_with g last rows is age required taken column) ds ≡ content_with g last rows is age required taken (λ i. set_all ds empty_column (column i))
all_with_two_lanes g last rows is age required taken column [] h = refl
all_with_two_lanes g last rows is age required taken column (d ∷ ds) h =
    ap (λ c. after_adoptions c ds) (with_two_lanes g last rows is age required taken column d h)
    ∙ all_with_two_lanes g last rows is age required taken (λ i. set_at d empty_column (column i)) ds h
    ∙ content_same g last rows is age required required taken taken (λ i. set_all ds empty_column (set_at d empty_column (column i))) (λ i. set_all (d ∷ ds) empty_column (column i))
    (λ s. refl) (λ i s. refl) (λ i n. set_more d ds empty_column (column i) n)
