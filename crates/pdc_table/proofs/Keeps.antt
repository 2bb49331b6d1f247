-- Each step keeps what holds of a table.
use Rattle.std.proofs.Common.{◌≡◌, ℕ, ◌+◌, ◌<◌, ◌≤◌, Bool, true, false, cond, not, if◌then◌else◌, List, [], ◌∷◌, ◌++◌, length, get_or, set, drop, map, filter, refl, sym, ◌∙◌, ap, subst, arith, rules, ltb, eqb, Option, Some, None, append_assoc, length-append}
use Rattle.std.specs.List.{prefix_len, AllByRecursion}
use Rattle.std.proofs.lemmas.List.{map-append, take-append-drop, length-map, length-replicate, length-set}
use Rattle.std.proofs.lemmas.List.Sums.{count_by-le-length, length-filter}
use Rattle.pdc_open_row.specs.pdc_cfg.declared.shape.Shape.{Shape}
use Rattle.pdc_open_row.specs.pdc_row.CellView.{CellView, is_present}
use Rattle.pdc_open_row.specs.pdc_row.Chosen.{present_of, first_of, block_or_absent}
use Rattle.pdc_open_row.specs.pdc_row.Quality.{greatest}
use Rattle.pdc_open_row.specs.pdc_row.Rising.{Rises, AreBelow, AreNear, place}
use Rattle.pdc_open_row.specs.pdc_row.RowView.{RowView, row_instants}
use Rattle.pdc_open_row.specs.pdc_columns.Chosen.{block_in}
use Rattle.pdc_table.specs.Closing.{aged, closes, closing, staying}
use Rattle.pdc_open_row.specs.Due.{is_due}
use Rattle.pdc_table.specs.Content.{Content, IsContent, HasPlaces, HaveLayoutShapes, HasShape, HaveShapes, held_instants, streams_of}
use Rattle.pdc_open_row.specs.pdc_columns.Layout.{LayoutView}
use Rattle.pdc_table.specs.OpenInstants.{instants_of}
use Rattle.pdc_table.specs.Placing.{row_at, with_row}
use Rattle.pdc_open_row.specs.pdc_columns.Giving.{blocks_of}
use Rattle.pdc_open_row.specs.Row.{row_of}
use Rattle.pdc_table.specs.Steps.{after_drop_column, after_drop_stream, after_pop, after_require, after_tick, closing_of, closed_by, fresh_row, is_near_all, shape_of, shapes_given, staying_of}
use Rattle.pdc_open_row.specs.pdc_columns.Taking.{with_cell, with_cells}
use Rattle.pdc_open_row.specs.Taking.{with_frame, without_stream, without_column}
use Rattle.pdc_open_row.specs.pdc_columns.Views.{ColumnView, empty_column}
use Rattle.pdc_open_row.specs.Views.{OpenRowView, blank_row}
use Rattle.pdc_open_row.specs.declared.wait_rule.WaitRule.{WaitRule}
use Rattle.pdc_table.proofs.Closes.{closing-front, staying-back}
use Rattle.pdc_open_row.specs.pdc_row.RisingLaws.{RisingLaws, Below, At, Above}

-- a change that keeps each row's instant keeps the list of them
pub instants-map : (f : OpenRowView → OpenRowView) → ((r : OpenRowView) → (f r).instant ≡ r.instant) → (rows : List OpenRowView) → instants_of (map f rows) ≡ instants_of rows
instants-map f h [] = refl
instants-map f h (x ∷ xs) = rw (h x, instants-map f h xs) refl

-- a change that keeps each row's places keeps them in all rows
places-map : (f : OpenRowView → OpenRowView) (s k : ℕ) → ((r : OpenRowView) → HasPlaces s k r → HasPlaces s k (f r)) → (rows : List OpenRowView) → AllByRecursion (HasPlaces s k) rows → AllByRecursion (HasPlaces s k) (map f rows)
places-map f s k h [] a = tt
places-map f s k h (x ∷ xs) a = (h x a.0, places-map f s k h xs a.1)

places-chosen : (b : Bool) (s k : ℕ) (x : OpenRowView) (xs : List OpenRowView) → HasPlaces s k x → AllByRecursion (HasPlaces s k) xs → AllByRecursion (HasPlaces s k) (cond b (x ∷ xs) xs)
places-chosen true s k x xs h a = (h, a)
places-chosen false s k x xs h a = a

places-filter : (p : OpenRowView → Bool) (s k : ℕ) (rows : List OpenRowView) → AllByRecursion (HasPlaces s k) rows → AllByRecursion (HasPlaces s k) (filter p rows)
places-filter p s k [] a = tt
places-filter p s k (x ∷ xs) a = places-chosen (p x) s k x (filter p xs) a.0 (places-filter p s k xs a.1)

places-either : (b d : Bool) (s k : ℕ) (new x changed : OpenRowView) (xs more : List OpenRowView) → HasPlaces s k new → HasPlaces s k x × AllByRecursion (HasPlaces s k) xs → HasPlaces s k changed → AllByRecursion (HasPlaces s k) more → AllByRecursion (HasPlaces s k) (if b then new ∷ x ∷ xs else (if d then changed ∷ xs else x ∷ more))
places-either true d s k new x changed xs more n a h m = (n, a)
places-either false true s k new x changed xs more n a h m = (h, a.1)
places-either false false s k new x changed xs more n a h m = (a.0, m)

places-with_row : (change : OpenRowView → OpenRowView) (fresh : OpenRowView) (s k : ℕ) → ((r : OpenRowView) → HasPlaces s k r → HasPlaces s k (change r)) → HasPlaces s k fresh → (rows : List OpenRowView) → AllByRecursion (HasPlaces s k) rows → AllByRecursion (HasPlaces s k) (with_row change fresh rows)
places-with_row change fresh s k h f [] a = (h fresh f, tt)
places-with_row change fresh s k h f (x ∷ xs) a =
    places-either (ltb fresh.instant x.instant) (eqb x.instant fresh.instant) s k (change fresh) x (change x) xs (with_row change fresh xs) (h fresh f) a (h x a.0) (places-with_row change fresh s k h f xs a.1)

length-with_cells : (lane : ℕ) (cells : List (ℕ × CellView)) (columns : List ColumnView) → length (with_cells lane cells columns) ≡ length columns
length-with_cells lane [] columns = refl
length-with_cells lane (cell ∷ cells) columns =
    length-with_cells lane cells (set columns cell.0 (with_cell lane (Some cell.1) (get_or columns cell.0 empty_column)))
    ∙ length-set columns cell.0 (with_cell lane (Some cell.1) (get_or columns cell.0 empty_column))

pub places-frame : (stream lane : ℕ) (cells : List (ℕ × CellView)) (s k : ℕ) (r : OpenRowView) → HasPlaces s k r → HasPlaces s k (with_frame stream lane cells r)
places-frame stream lane cells s k r h = record { taken = length-set r.taken stream true ∙ h.taken; columns = length-with_cells lane cells r.columns ∙ h.columns }

length-without : (b : Bool) (stream : ℕ) (columns : List ColumnView) → length (if b then set columns stream empty_column else map (with_cell stream None) columns) ≡ length columns
length-without true stream columns = length-set columns stream empty_column
length-without false stream columns = length-map columns (with_cell stream None)

pub places-without_stream : (lanes stream s k : ℕ) (r : OpenRowView) → HasPlaces s k r → HasPlaces s k (without_stream lanes stream r)
places-without_stream lanes stream s k r h = record { taken = length-set r.taken stream false ∙ h.taken; columns = length-without (eqb lanes 1) stream r.columns ∙ h.columns }

pub places-without_column : (column s k : ℕ) (r : OpenRowView) → HasPlaces s k r → HasPlaces s k (without_column column r)
places-without_column column s k r h = record { taken = h.taken; columns = length-set r.columns column empty_column ∙ h.columns }

pub places-blank : (s k instant : ℕ) → HasPlaces s k (blank_row s k instant)
places-blank s k instant = record { taken = length-replicate s false; columns = length-replicate k empty_column }

-- what holds of a table with other open rows
other_rows : (c : Content) (rows : List OpenRowView) → AllByRecursion (HasPlaces (streams_of c) c.columns) rows → Rises 0 (row_instants c.closed ++ instants_of rows) → AreNear c.window (row_instants c.closed ++ instants_of rows) → Rises c.last (instants_of rows) → IsContent c → IsContent (record c { open_rows = rows })
other_rows c rows each rise near above h = record {
  window_least = h.window_least;
  window_most = h.window_most;
  columns_least = h.columns_least;
  columns_most = h.columns_most;
  lanes_least = h.lanes_least;
  lanes_most = h.lanes_most;
  required_each = h.required_each;
  rows_each = each;
  held_rise = rise;
  held_near = near;
  open_above = above;
  closed_below = h.closed_below;
}

-- what holds of a table whose open rows have the same instants
same_instants : (c : Content) (rows : List OpenRowView) → instants_of rows ≡ instants_of c.open_rows → AllByRecursion (HasPlaces (streams_of c) c.columns) rows → IsContent c → IsContent (record c { open_rows = rows })
same_instants c rows e each h = other_rows c rows each (rw e h.held_rise) (rw e h.held_near) (rw e h.open_above) h

pub keeps-require : (c : Content) (stream : ℕ) (is_required : Bool) → IsContent c → IsContent (after_require c stream is_required)
keeps-require c stream is_required h = record {
  window_least = h.window_least;
  window_most = h.window_most;
  columns_least = h.columns_least;
  columns_most = h.columns_most;
  lanes_least = h.lanes_least;
  lanes_most = h.lanes_most;
  required_each = length-set c.required stream is_required ∙ h.required_each;
  rows_each = h.rows_each;
  held_rise = h.held_rise;
  held_near = h.held_near;
  open_above = h.open_above;
  closed_below = h.closed_below;
}

pub keeps-drop_stream : (c : Content) (stream : ℕ) → IsContent c → IsContent (after_drop_stream c stream)
keeps-drop_stream c stream h =
    same_instants c (map (without_stream c.lanes stream) c.open_rows) (instants-map (without_stream c.lanes stream) (λ r. refl) c.open_rows)
    (places-map (without_stream c.lanes stream) (streams_of c) c.columns (λ r. places-without_stream c.lanes stream (streams_of c) c.columns r) c.open_rows h.rows_each) h

pub keeps-drop_column : (c : Content) (column : ℕ) → IsContent c → IsContent (after_drop_column c column)
keeps-drop_column c column h =
    same_instants c (map (without_column column) c.open_rows) (instants-map (without_column column) (λ r. refl) c.open_rows)
    (places-map (without_column column) (streams_of c) c.columns (λ r. places-without_column column (streams_of c) c.columns r) c.open_rows h.rows_each) h

length-held : (cs : List RowView) (os : List OpenRowView) → length (row_instants cs ++ instants_of os) ≡ length cs + length os
length-held cs os = simp (length-append, length-map) refl

-- the closing rows and those that stay are the open rows, each a tick older
pub front_back : (required : List Bool) (rule : WaitRule) (low : ℕ) (rows : List OpenRowView) → Rises low (instants_of rows) → closing required rule rows ++ staying required rule rows ≡ rows
front_back required rule low rows r =
    rw (closing-front required rule low rows r, staying-back required rule low rows r) (take-append-drop (prefix_len (is_due required rule) rows) rows)

pub instants-row_of : (layout : LayoutView) (rows : List OpenRowView) → row_instants (map (row_of layout) rows) ≡ instants_of rows
instants-row_of layout [] = refl
instants-row_of layout (x ∷ xs) = ap (λ ns. x.instant ∷ ns) (instants-row_of layout xs)

pub aged_rise : (c : Content) → Rises c.last (instants_of c.open_rows) → Rises c.last (instants_of (map aged c.open_rows))
aged_rise c h = rw (instants-map aged (λ r. refl) c.open_rows) h

pub closed_stayed : (c : Content) (rule : WaitRule) → Rises c.last (instants_of c.open_rows) → instants_of (closing_of c rule) ++ instants_of (staying_of c rule) ≡ instants_of c.open_rows
closed_stayed c rule h =
    sym (map-append (λ (r : OpenRowView). r.instant) (closing_of c rule) (staying_of c rule))
    ∙ ap instants_of (front_back c.required rule c.last (map aged c.open_rows) (aged_rise c h))
    ∙ instants-map aged (λ r. refl) c.open_rows

-- the block that a column gives has its shape
present_shape : (shape : Shape) (cell : CellView) (b : Bool) (other : Option CellView) → cell.block.shape ≡ shape → (block_or_absent shape other).shape ≡ shape → (block_or_absent shape (first_of (cond b (Some cell) None) other)).shape ≡ shape
present_shape shape cell true other h k = h
present_shape shape cell false other h k = k

lane_shape : (shape : Shape) (cell other : Option CellView) → HasShape shape cell → (block_or_absent shape other).shape ≡ shape → (block_or_absent shape (first_of (present_of cell) other)).shape ≡ shape
lane_shape shape None other h k = k
lane_shape shape (Some cell) other h k = present_shape shape cell (is_present cell.block) other h k

first_none : (a : Option CellView) → first_of a None ≡ a
first_none None = refl
first_none (Some a) = refl

block_shape : (shape : Shape) (column : ColumnView) → HasShape shape column.first → HasShape shape column.second → (block_in shape column).shape ≡ shape
block_shape shape column h k =
    lane_shape shape column.first (present_of column.second) h
    (subst (λ a. (block_or_absent shape a).shape ≡ shape) (first_none (present_of column.second)) (lane_shape shape column.second None k refl))

no_columns : (shapes : List (Option Shape)) → HaveShapes shapes []
no_columns [] = tt
no_columns (shape ∷ shapes) = tt

row_shapes : (shapes : List (Option Shape)) (columns : List ColumnView) → HaveShapes shapes columns → map shape_of (blocks_of shapes columns) ≡ shapes_given shapes
row_shapes [] columns h = refl
row_shapes (None ∷ shapes) [] h = row_shapes shapes [] (no_columns shapes)
row_shapes (Some shape ∷ shapes) [] h = ap (λ ys. shape ∷ ys) (row_shapes shapes [] (no_columns shapes))
row_shapes (None ∷ shapes) (column ∷ columns) h = row_shapes shapes columns h.1
row_shapes (Some shape ∷ shapes) (column ∷ columns) h = rw (block_shape shape column h.0.0 h.0.1, row_shapes shapes columns h.1) refl

chosen_row : (b : Bool) (layout : LayoutView) (x : OpenRowView) (xs : List OpenRowView) → map shape_of (blocks_of layout.shapes x.columns) ≡ shapes_given layout.shapes → AllByRecursion (λ (row : RowView). map shape_of row.blocks ≡ shapes_given layout.shapes) (map (row_of layout) xs) → AllByRecursion (λ (row : RowView). map shape_of row.blocks ≡ shapes_given layout.shapes) (map (row_of layout) (cond b (x ∷ xs) xs))
chosen_row true layout x xs h k = (h, k)
chosen_row false layout x xs h k = k

rows_shapes : (p : OpenRowView → Bool) (layout : LayoutView) (rows : List OpenRowView) → AllByRecursion (λ (row : OpenRowView). HaveShapes layout.shapes row.columns) rows → AllByRecursion (λ (row : RowView). map shape_of row.blocks ≡ shapes_given layout.shapes) (map (row_of layout) (filter p (map aged rows)))
rows_shapes p layout [] h = tt
rows_shapes p layout (x ∷ xs) h =
    chosen_row (p (aged x)) layout (aged x) (filter p (map aged xs)) (row_shapes layout.shapes x.columns h.0) (rows_shapes p layout xs h.1)

pub closed_shapes : (c : Content) (rule : WaitRule) (layout : LayoutView) → HaveLayoutShapes c layout → AllByRecursion (λ (row : RowView). map shape_of row.blocks ≡ shapes_given layout.shapes) (closed_by c rule layout)
closed_shapes c rule layout h = rows_shapes (closes c.required rule (map aged c.open_rows)) layout c.open_rows h

-- ---- what follows from the laws of rising numbers

module _ (R : RisingLaws) where
  popped : (c : Content) (closed : List RowView) → c.closed ≡ closed → IsContent c → IsContent (record c { closed = drop 1 closed })
  popped c [] e h = record {
    window_least = h.window_least;
    window_most = h.window_most;
    columns_least = h.columns_least;
    columns_most = h.columns_most;
    lanes_least = h.lanes_least;
    lanes_most = h.lanes_most;
    required_each = h.required_each;
    rows_each = h.rows_each;
    held_rise = rw e at h.held_rise;
    held_near = rw e at h.held_near;
    open_above = h.open_above;
    closed_below = tt;
  }
  popped c (x ∷ xs) e h =
      let rise : Rises 0 (x.instant ∷ (row_instants xs ++ instants_of c.open_rows)) = rw e at h.held_rise in
      let near : AreNear c.window (x.instant ∷ (row_instants xs ++ instants_of c.open_rows)) = rw e at h.held_near in
      let low : AreBelow (c.last + 1) (x.instant ∷ row_instants xs) = rw e at h.closed_below in
      record {
        window_least = h.window_least;
        window_most = h.window_most;
        columns_least = h.columns_least;
        columns_most = h.columns_most;
        lanes_least = h.lanes_least;
        lanes_most = h.lanes_most;
        required_each = h.required_each;
        rows_each = h.rows_each;
        held_rise = R.rises_above 0 x.instant (row_instants xs ++ instants_of c.open_rows) (omega arith) rise.1;
        held_near = R.near_tail 0 c.window x.instant (row_instants xs ++ instants_of c.open_rows) rise near;
        open_above = h.open_above;
        closed_below = low.1;
      }

  pub keeps-pop : (c : Content) → IsContent c → IsContent (after_pop c)
  keeps-pop c h = popped c c.closed refl h

  pub instants-with_row : (change : OpenRowView → OpenRowView) (fresh : OpenRowView) → ((r : OpenRowView) → (change r).instant ≡ r.instant) → (rows : List OpenRowView) → instants_of (with_row change fresh rows) ≡ place fresh.instant (instants_of rows)
  instants-with_row change fresh h [] = ap (λ n. n ∷ []) (h fresh)
  instants-with_row change fresh h (x ∷ xs) = elim (R.compared fresh.instant x.instant) [
    | Below l ↦ (let e : ltb fresh.instant x.instant ≡ true = search rules in rw e (ap (λ n. n ∷ x.instant ∷ instants_of xs) (h fresh)))
    | At k ↦ (let e : ltb fresh.instant x.instant ≡ false = search rules in let f : eqb x.instant fresh.instant ≡ true = search rules in rw (e, f) (ap (λ n. n ∷ instants_of xs) (h x)))
    | Above g ↦ (let e : ltb fresh.instant x.instant ≡ false = search rules in let f : eqb x.instant fresh.instant ≡ false = search rules in rw (e, f) (ap (λ ns. x.instant ∷ ns) (instants-with_row change fresh h xs)))
  ]

  -- a frame is taken for an instant that is above the last and near each held one
  pub keeps-taken : (c : Content) (change : OpenRowView → OpenRowView) (instant : ℕ) → ((r : OpenRowView) → (change r).instant ≡ r.instant) → ((r : OpenRowView) → HasPlaces (streams_of c) c.columns r → HasPlaces (streams_of c) c.columns (change r)) → c.last < instant → is_near_all c instant ≡ true → IsContent c → IsContent (record c { open_rows = with_row change (fresh_row c instant) c.open_rows })
  keeps-taken c change instant same kept l n h =
      let e : instants_of (with_row change (fresh_row c instant) c.open_rows) ≡ place instant (instants_of c.open_rows) = instants-with_row change (fresh_row c instant) same c.open_rows in
      let above : Rises c.last (place instant (instants_of c.open_rows)) = R.rises_place c.last instant (instants_of c.open_rows) h.open_above l in
      other_rows c (with_row change (fresh_row c instant) c.open_rows)
      (places-with_row change (fresh_row c instant) (streams_of c) c.columns kept (places-blank (streams_of c) c.columns instant) c.open_rows h.rows_each)
      (rw e (R.rises_append 0 c.last (row_instants c.closed) (place instant (instants_of c.open_rows)) (omega arith) (R.rises_front 0 (row_instants c.closed) (instants_of c.open_rows) h.held_rise) h.closed_below above))
      (rw e (R.near_place c.window instant (row_instants c.closed) (instants_of c.open_rows) (omega (arith, h.window_least)) h.held_near (R.all_near c.window instant (held_instants c) n)))
      (rw e above) h

  pub keeps-offered : (c : Content) (b : Bool) (stream lane instant : ℕ) (cells : List (ℕ × CellView)) → c.last < instant → is_near_all c instant ≡ true → IsContent c → IsContent (record c { open_rows = if b then with_row (with_frame stream lane cells) (fresh_row c instant) c.open_rows else c.open_rows })
  keeps-offered c true stream lane instant cells l n h =
      keeps-taken c (with_frame stream lane cells) instant (λ r. refl) (λ r. places-frame stream lane cells (streams_of c) c.columns r) l n h
  keeps-offered c false stream lane instant cells l n h = same_instants c c.open_rows refl h.rows_each h

  length-with_row : (change : OpenRowView → OpenRowView) (fresh : OpenRowView) (rows : List OpenRowView) → row_at fresh.instant rows ≡ None → length (with_row change fresh rows) ≡ length rows + 1
  length-with_row change fresh [] e = refl
  length-with_row change fresh (x ∷ xs) e = elim (R.compared fresh.instant x.instant) [
    | Below l ↦ (let f : ltb fresh.instant x.instant ≡ true = search rules in rw f (omega arith))
    | At k ↦ (let f : eqb x.instant fresh.instant ≡ true = search rules in let g : Some x ≡ None = rw f at e in cc)
    | Above g ↦ (let f : ltb fresh.instant x.instant ≡ false = search rules in let k : eqb x.instant fresh.instant ≡ false = search rules in
        let n : row_at fresh.instant xs ≡ None = rw k at e in
        let i : length (with_row change fresh xs) ≡ length xs + 1 = length-with_row change fresh xs n in rw (f, k) (omega arith))
  ]

  -- an instant that has no row yet has room for one
  pub has_room : (c : Content) (instant : ℕ) → c.last < instant → is_near_all c instant ≡ true → row_at instant c.open_rows ≡ None → IsContent c → length c.open_rows < c.window
  has_room c instant l n e h =
      let rows : List OpenRowView = with_row (λ r. r) (fresh_row c instant) c.open_rows in
      let k : IsContent (record c { open_rows = rows }) = keeps-taken c (λ r. r) instant (λ r. refl) (λ r p. p) l n h in
      let most : length (row_instants c.closed ++ instants_of rows) ≤ c.window = R.near_length 0 c.window (row_instants c.closed ++ instants_of rows) (omega (arith, h.window_least)) k.held_rise k.held_near in
      omega (arith, length-held c.closed rows, length-with_row (λ r. r) (fresh_row c instant) c.open_rows e)

  -- at most as many are held as the window has
  pub held_fit : (c : Content) → IsContent c → length c.closed + length c.open_rows ≤ c.window
  held_fit c h =
      let most : length (held_instants c) ≤ c.window = R.near_length 0 c.window (held_instants c) (omega (arith, h.window_least)) h.held_rise h.held_near in
      omega (arith, length-held c.closed c.open_rows)

  pub keeps-tick : (c : Content) (rule : WaitRule) (layout : LayoutView) → IsContent c → IsContent (after_tick c rule layout)
  keeps-tick c rule layout h =
      let ns : List ℕ = instants_of (closing_of c rule) in
      let rest : List OpenRowView = staying_of c rule in
      let e : ns ++ instants_of rest ≡ instants_of c.open_rows = closed_stayed c rule h.open_above in
      let new : row_instants (c.closed ++ closed_by c rule layout) ≡ row_instants c.closed ++ ns =
      map-append (λ (r : RowView). r.instant) c.closed (closed_by c rule layout) ∙ ap (λ ms. row_instants c.closed ++ ms) (instants-row_of layout (closing_of c rule)) in
      let held : row_instants (c.closed ++ closed_by c rule layout) ++ instants_of rest ≡ held_instants c =
      ap (λ ms. ms ++ instants_of rest) new ∙ append_assoc (row_instants c.closed) ns (instants_of rest) ∙ ap (λ ms. row_instants c.closed ++ ms) e in
      record {
        window_least = h.window_least;
        window_most = h.window_most;
        columns_least = h.columns_least;
        columns_most = h.columns_most;
        lanes_least = h.lanes_least;
        lanes_most = h.lanes_most;
        required_each = h.required_each;
        rows_each = places-filter (λ row. not (closes c.required rule (map aged c.open_rows) row)) (streams_of c) c.columns (map aged c.open_rows)
            (places-map aged (streams_of c) c.columns (λ r p. record { taken = p.taken; columns = p.columns }) c.open_rows h.rows_each);
        held_rise = subst (λ ms. Rises 0 ms) (sym held) h.held_rise;
        held_near = subst (λ ms. AreNear c.window ms) (sym held) h.held_near;
        open_above = R.rises_back c.last ns (instants_of rest) (subst (λ ms. Rises c.last ms) (sym e) h.open_above);
        closed_below = subst (λ ms. AreBelow (greatest c.last ns + 1) ms) (sym new)
            (R.below_append (greatest c.last ns + 1) (row_instants c.closed) ns
            (R.below_higher (c.last + 1) (greatest c.last ns + 1) (row_instants c.closed) (omega (arith, R.greatest_ge c.last ns)) h.closed_below)
            (R.below_greatest c.last ns));
      }

  -- no more rows close than the window has
  pub closing_few : (c : Content) (rule : WaitRule) → IsContent c → length (closing_of c rule) ≤ c.window
  closing_few c rule h =
      let p : OpenRowView → Bool = closes c.required rule (map aged c.open_rows) in
      omega (arith, length-filter p (map aged c.open_rows), count_by-le-length p (map aged c.open_rows), length-map c.open_rows aged, held_fit c h)
