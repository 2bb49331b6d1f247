-- What a take makes of the row of its instant, and that it leaves all other rows.
use Rattle.std.proofs.Common.{◌≡◌, ◌≢◌, ℕ, ◌<◌, Bool, true, false, ◌&&◌, cond, eqb, List, [], ◌∷◌, get_or, length, map, set, refl, sym, ◌∙◌, ap, subst, arith, zero, suc, inl, inr, Option, Some, None, length-set}
use Rattle.std.specs.Prelude.{find, is_some, option_map}
use Rattle.std.specs.List.{AllByRecursion, range_with_len}
use Rattle.std.proofs.lemmas.Bool.{and_left, and_right, cases_eq, eq-eqb, eqb-true, false≢true, ne_eqb}
use Rattle.std.proofs.lemmas.List.{ext_get_or, get_or-set_other, get_or-set_same}
use Rattle.std.proofs.lemmas.List.FromFn.{get_or-map-range_with_len, length-map-range_with_len}
use Rattle.pdc_arrival.specs.pdc_row.CellView.{CellView}
use Rattle.pdc_table.specs.Calls.{BlocksStandInTheirColumns}
use Rattle.pdc_table.specs.Closing.{counter}
use Rattle.pdc_table.specs.Content.{HaveOwnColumns}
use Rattle.pdc_table.specs.pdc_open_row.Streams.{stream_count}
use Rattle.pdc_table.specs.pdc_columns.Taking.{given_for, with_cell, with_cells, with_given}
use Rattle.pdc_table.specs.pdc_open_row.Taking.{with_frame}
use Rattle.pdc_table.specs.pdc_columns.Views.{ColumnView, empty_column}
use Rattle.pdc_arrival.specs.pdc_life.declared.outcome.Outcome.TheVariants.{Taken}
use Rattle.pdc_arrival.specs.pdc_life.Arrival.{Data}
use Rattle.pdc_arrival.specs.pdc_life.Given.{Given, columns_of, streams_of}
use Rattle.pdc_arrival.specs.pdc_life.Life.{Entry, Arrive, Take, age_of, cell_in, cell_of, is_of_column, is_take_of, take_of, takes, takes_since_adopted}
use Rattle.pdc_align.specs.State.{column_of, open_row_of}
use Rattle.pdc_align.proofs.Quiet.{no_cell, none_passes}

-- data that was taken, as an entry and as a take
abbrev pub taken_entry : (s i quality : ℕ) → (bytes payload : List ℕ) → List (ℕ × CellView) → Entry
taken_entry s i quality bytes payload cells = Arrive s bytes (Data i quality payload) (record { outcome = Taken; cells = cells })

abbrev take_of_entry : (s i : ℕ) → List (ℕ × CellView) → Take
take_of_entry s i cells = record { stream = s; instant = i; cells = cells }

-- ---- one take more

found_first : (b : Bool) (p : Take → Bool) (t : Take) (ts us : List Take) → find p (cond b (t ∷ ts) (t ∷ us)) ≡ cond (p t) (Some t) (find p (cond b ts us))
found_first true p t ts us = refl
found_first false p t ts us = refl

cell_first : (b : Bool) (c : ℕ) (t : Take) (rest : Option Take) → cell_in c (cond b (Some t) rest) ≡ cond b (cell_in c (Some t)) (cell_in c rest)
cell_first true c t rest = refl
cell_first false c t rest = refl

some_first : (b : Bool) (t : Take) (rest : Option Take) → is_some (cond b (Some t) rest) ≡ cond b true (is_some rest)
some_first true t rest = refl
some_first false t rest = refl

-- whether r was taken at j after the take, and its cell
taken_after : (g : Given) (E : List Entry) (s i quality : ℕ) (bytes payload : List ℕ) (cells : List (ℕ × CellView)) (r j : ℕ)
    → is_some (take_of g (taken_entry s i quality bytes payload cells ∷ E) r j) ≡ cond (eqb s r && eqb i j) true (is_some (take_of g E r j))
taken_after g E s i quality bytes payload cells r j =
    ap is_some (found_first (eqb g.lanes 1) (is_take_of r j) (take_of_entry s i cells) (takes_since_adopted E r) (takes E))
    ∙ some_first (eqb s r && eqb i j) (take_of_entry s i cells) (take_of g E r j)

cell_after : (E : List Entry) (s i quality : ℕ) (bytes payload : List ℕ) (cells : List (ℕ × CellView)) (r c j : ℕ)
    → cell_of (taken_entry s i quality bytes payload cells ∷ E) r c j ≡ cond (eqb s r && eqb i j) (cell_in c (Some (take_of_entry s i cells))) (cell_of E r c j)
cell_after E s i quality bytes payload cells r c j =
    cell_first (eqb s r && eqb i j) c (take_of_entry s i cells) (find (is_take_of r j) (takes_since_adopted E c))

cond_no : {A : Type 0} (b : Bool) (x y : A) → b ≡ false → cond b x y ≡ y
cond_no b x y e = ap (λ c. cond c x y) e

cond_yes : {A : Type 0} (b : Bool) (x y : A) → b ≡ true → cond b x y ≡ x
cond_yes b x y e = ap (λ c. cond c x y) e

other_instant : (s r i j : ℕ) → j ≢ i → (eqb s r && eqb i j) ≡ false
other_instant s r i j n = and_right (eqb s r) (eqb i j) (ne_eqb i j (λ e. n (sym e)))

other_stream : (s r i : ℕ) → s ≢ r → (eqb s r && eqb i i) ≡ false
other_stream s r i n = and_left (eqb s r) (eqb i i) (ne_eqb s r n)

both_yes : (a b : Bool) → a ≡ true → b ≡ true → (a && b) ≡ true
both_yes a b e f = ap (λ c. c && b) e ∙ f

same_stream : (s r i : ℕ) → s ≡ r → (eqb s r && eqb i i) ≡ true
same_stream s r i e = both_yes (eqb s r) (eqb i i) (eq-eqb s r e) (eq-eqb i i refl)

-- ---- all other rows

map_same : {A B : Type 0} (f h : A → B) (xs : List A) → ((x : A) → f x ≡ h x) → map f xs ≡ map h xs
map_same f h [] k = refl
map_same f h (x ∷ xs) k = ap (λ y. y ∷ map f xs) (k x) ∙ ap (λ ys. h x ∷ ys) (map_same f h xs k)

other_column : (g : Given) (E : List Entry) (s i quality : ℕ) (bytes payload : List ℕ) (cells : List (ℕ × CellView)) (j c : ℕ) → j ≢ i
    → column_of g (taken_entry s i quality bytes payload cells ∷ E) j c ≡ column_of g E j c
other_column g E s i quality bytes payload cells j c n =
    ap (λ x. record { first = x; second = cond (eqb g.lanes 1) None (cell_of (taken_entry s i quality bytes payload cells ∷ E) 1 c j) })
    (cell_after E s i quality bytes payload cells (cond (eqb g.lanes 1) c 0) c j ∙ cond_no _ _ _ (other_instant s (cond (eqb g.lanes 1) c 0) i j n))
    ∙ ap (λ x. record { first = cell_of E (cond (eqb g.lanes 1) c 0) c j; second = cond (eqb g.lanes 1) None x })
    (cell_after E s i quality bytes payload cells 1 c j ∙ cond_no _ _ _ (other_instant s 1 i j n))

pub other_row : (g : Given) (E : List Entry) (s i quality : ℕ) (bytes payload : List ℕ) (cells : List (ℕ × CellView)) (j : ℕ) → j ≢ i
    → open_row_of g (taken_entry s i quality bytes payload cells ∷ E) j ≡ open_row_of g E j
other_row g E s i quality bytes payload cells j n =
    ap (λ xs. record { instant = j; age = counter (age_of E j); taken = xs; columns = map (column_of g (taken_entry s i quality bytes payload cells ∷ E) j) (columns_of g) })
    (map_same (λ r. is_some (take_of g (taken_entry s i quality bytes payload cells ∷ E) r j)) (λ r. is_some (take_of g E r j)) (streams_of g)
    (λ r. taken_after g E s i quality bytes payload cells r j ∙ cond_no _ _ _ (other_instant s r i j n)))
    ∙ ap (λ xs. record { instant = j; age = counter (age_of E j); taken = map (λ r. is_some (take_of g E r j)) (streams_of g); columns = xs })
    (map_same (column_of g (taken_entry s i quality bytes payload cells ∷ E) j) (column_of g E j) (columns_of g) (λ c. other_column g E s i quality bytes payload cells j c n))

-- ---- the row of its instant

first_found : (c : ℕ) (part : ℕ × CellView) (rest : Option (ℕ × CellView)) (b : Bool)
    → option_map (λ (p : ℕ × CellView). p.1) (cond b (Some part) rest) ≡ cond b (Some part.1) (option_map (λ (p : ℕ × CellView). p.1) rest)
first_found c part rest true = refl
first_found c part rest false = refl

-- what is given for a column is the first cell of it
cell_found : (c s i : ℕ) (cells : List (ℕ × CellView)) → cell_in c (Some (take_of_entry s i cells)) ≡ given_for c cells
cell_found c s i [] = refl
cell_found c s i (part ∷ cells) =
    first_found c part (find (is_of_column c) cells) (eqb part.0 c) ∙ ap (λ o. cond (eqb part.0 c) (Some part.1) o) (cell_found c s i cells)

-- the streams that were taken
taken_list : (g : Given) (E : List Entry) (s i quality : ℕ) (bytes payload : List ℕ) (cells : List (ℕ × CellView)) (n : ℕ) → s < n
    → map (λ r. is_some (take_of g (taken_entry s i quality bytes payload cells ∷ E) r i)) (range_with_len 0 n)
    ≡ set (map (λ r. is_some (take_of g E r i)) (range_with_len 0 n)) s true
taken_list g E s i quality bytes payload cells n l =
    let before = λ (r : ℕ). is_some (take_of g E r i) in
    let after = λ (r : ℕ). is_some (take_of g (taken_entry s i quality bytes payload cells ∷ E) r i) in
    let m : length (map before (range_with_len 0 n)) ≡ n = length-map-range_with_len before 0 n in
    let m' : length (map after (range_with_len 0 n)) ≡ n = length-map-range_with_len after 0 n in
    ext_get_or false (map after (range_with_len 0 n)) (set (map before (range_with_len 0 n)) s true)
    (m' ∙ sym (length-set (map before (range_with_len 0 n)) s true ∙ m))
    (λ k h. get_or-map-range_with_len after 0 n k k false (omega (arith, h, m')) (omega arith)
    ∙ taken_after g E s i quality bytes payload cells k i
    ∙ elim (cases_eq s k) [
      | inl e ↦ cond_yes _ _ _ (same_stream s k i e) ∙ sym (get_or-set_same (map before (range_with_len 0 n)) s true false (omega (arith, m, l)))
          ∙ ap (λ j. get_or (set (map before (range_with_len 0 n)) s true) j false) e
      | inr d ↦ cond_no _ _ _ (other_stream s k i d)
          ∙ sym (get_or-set_other (map before (range_with_len 0 n)) s k true false (λ q. d (sym q))
          ∙ get_or-map-range_with_len before 0 n k k false (omega (arith, h, m')) (omega arith))
    ])

none_is_given : (s k : ℕ) (cells : List (ℕ × CellView)) → AllByRecursion (λ (part : ℕ × CellView). part.0 ≡ s) cells → s ≢ k → given_for k cells ≡ None
none_is_given s k [] own n = refl
none_is_given s k (part ∷ cells) own n =
    ap (λ b. cond b (Some part.1) (given_for k cells)) (ne_eqb part.0 k (λ e. n (sym own.0 ∙ e))) ∙ none_is_given s k cells own.1 n

-- what is given goes into a lane that holds nothing
given_first : (given second : Option CellView) → record { first = given; second = second } ≡ with_given 0 given (record { first = None; second = second })
given_first None second = refl
given_first (Some cell) second = refl

given_second : (given first : Option CellView) → record { first = first; second = given } ≡ with_given 1 given (record { first = first; second = None })
given_second None first = refl
given_second (Some cell) first = refl

-- The column of the instant after the take, with one lane and with two.
abbrev cells_at : Bool → List Entry → (i c : ℕ) → ColumnView
cells_at one E i c = record { first = cell_of E (cond one c 0) c i; second = cond one None (cell_of E 1 c i) }

own_cell : (E : List Entry) (s i quality : ℕ) (bytes payload : List ℕ) (cells : List (ℕ × CellView)) (c : ℕ)
    → cell_of (taken_entry s i quality bytes payload cells ∷ E) s c i ≡ given_for c cells
own_cell E s i quality bytes payload cells c =
    cell_after E s i quality bytes payload cells s c i ∙ cond_yes _ _ _ (same_stream s s i refl) ∙ cell_found c s i cells

other_cell : (E : List Entry) (s i quality : ℕ) (bytes payload : List ℕ) (cells : List (ℕ × CellView)) (r c : ℕ) → s ≢ r
    → cell_of (taken_entry s i quality bytes payload cells ∷ E) r c i ≡ cell_of E r c i
other_cell E s i quality bytes payload cells r c n = cell_after E s i quality bytes payload cells r c i ∙ cond_no _ _ _ (other_stream s r i n)

column_taken : (one : Bool) (E : List Entry) (s i quality : ℕ) (bytes payload : List ℕ) (cells : List (ℕ × CellView)) (c : ℕ)
    → (one ≡ false → s < 2) → (one ≡ true → AllByRecursion (λ (part : ℕ × CellView). part.0 ≡ s) cells) → ((one ≡ true → c ≡ s) → cell_of E s c i ≡ None)
    → cells_at one (taken_entry s i quality bytes payload cells ∷ E) i c ≡ with_given (cond one 0 s) (given_for c cells) (cells_at one E i c)
column_taken true E s i quality bytes payload cells c two own none = elim (cases_eq s c) [
  | inl e ↦ subst (λ k. record { first = cell_of (taken_entry s i quality bytes payload cells ∷ E) k k i; second = None }
      ≡ with_given 0 (given_for k cells) (record { first = cell_of E k k i; second = None })) e
      (ap (λ x. record { first = x; second = None }) (own_cell E s i quality bytes payload cells s)
      ∙ given_first (given_for s cells) None
      ∙ ap (λ x. with_given 0 (given_for s cells) (record { first = x; second = None }))
      (sym (subst (λ k. cell_of E s k i ≡ None) (sym e) (none (λ q. sym e)))))
  | inr n ↦ ap (λ x. record { first = x; second = None }) (other_cell E s i quality bytes payload cells c c n)
      ∙ ap (λ o. with_given 0 o (record { first = cell_of E c c i; second = None })) (sym (none_is_given s c cells (own refl) n))
]
column_taken false E zero i quality bytes payload cells c two own none =
    ap (λ x. record { first = x; second = cell_of (taken_entry zero i quality bytes payload cells ∷ E) 1 c i }) (own_cell E 0 i quality bytes payload cells c)
    ∙ ap (λ x. record { first = given_for c cells; second = x }) (other_cell E 0 i quality bytes payload cells 1 c (λ e. omega (arith, e)))
    ∙ given_first (given_for c cells) (cell_of E 1 c i)
    ∙ ap (λ x. with_given 0 (given_for c cells) (record { first = x; second = cell_of E 1 c i })) (sym (none (λ q. absurd (false≢true q))))
column_taken false E (suc zero) i quality bytes payload cells c two own none =
    ap (λ x. record { first = x; second = cell_of (taken_entry 1 i quality bytes payload cells ∷ E) 1 c i }) (other_cell E 1 i quality bytes payload cells 0 c (λ e. omega (arith, e)))
    ∙ ap (λ x. record { first = cell_of E 0 c i; second = x }) (own_cell E 1 i quality bytes payload cells c)
    ∙ given_second (given_for c cells) (cell_of E 0 c i)
    ∙ ap (λ x. with_given 1 (given_for c cells) (record { first = cell_of E 0 c i; second = x })) (sym (none (λ q. absurd (false≢true q))))
column_taken false E (suc (suc s)) i quality bytes payload cells c two own none = absurd (omega (arith, two refl))

-- where nothing was taken of the stream for the instant, its lanes hold nothing
lane_empty : (one : Bool) (E : List Entry) (s c i : ℕ) → find (is_take_of s i) (cond one (takes_since_adopted E s) (takes E)) ≡ None → (one ≡ true → c ≡ s)
    → cell_of E s c i ≡ None
lane_empty true E s c i h own = subst (λ k. cell_of E s k i ≡ None) (sym (own refl)) (ap (cell_in s) h)
lane_empty false E s c i h own = no_cell E s c i (none_passes (is_take_of s i) (takes E) h)

length-with_cells : (lane : ℕ) (cells : List (ℕ × CellView)) (columns : List ColumnView) → length (with_cells lane cells columns) ≡ length columns
length-with_cells lane [] columns = refl
length-with_cells lane (cell ∷ cells) columns =
    let next = set columns cell.0 (with_cell lane (Some cell.1) (get_or columns cell.0 empty_column)) in
    length-with_cells lane cells next ∙ length-set columns cell.0 (with_cell lane (Some cell.1) (get_or columns cell.0 empty_column))

fewer_streams : (one : Bool) (columns s : ℕ) → s < cond one columns 2 → one ≡ false → s < 2
fewer_streams one columns s l e = subst (λ b. s < cond b columns 2) e l

module _ (stand : BlocksStandInTheirColumns) where
  column_list : (g : Given) (E : List Entry) (s i quality : ℕ) (bytes payload : List ℕ) (cells : List (ℕ × CellView)) (lane : ℕ) → HaveOwnColumns cells
      → ((c : ℕ) → column_of g (taken_entry s i quality bytes payload cells ∷ E) i c ≡ with_given lane (given_for c cells) (column_of g E i c))
      → map (column_of g (taken_entry s i quality bytes payload cells ∷ E) i) (columns_of g) ≡ with_cells lane cells (map (column_of g E i) (columns_of g))
  column_list g E s i quality bytes payload cells lane once each =
      let before : List ColumnView = map (column_of g E i) (columns_of g) in
      let after : List ColumnView = map (column_of g (taken_entry s i quality bytes payload cells ∷ E) i) (columns_of g) in
      let m : length before ≡ g.columns = length-map-range_with_len (column_of g E i) 0 g.columns in
      let m' : length after ≡ g.columns = length-map-range_with_len (column_of g (taken_entry s i quality bytes payload cells ∷ E) i) 0 g.columns in
      ext_get_or empty_column after (with_cells lane cells before) (m' ∙ sym (length-with_cells lane cells before ∙ m))
      (λ k h. get_or-map-range_with_len (column_of g (taken_entry s i quality bytes payload cells ∷ E) i) 0 g.columns k k empty_column (omega (arith, h, m')) (omega arith)
      ∙ each k
      ∙ sym (stand lane cells before once k (omega (arith, h, m, m'))
      ∙ ap (with_given lane (given_for k cells)) (get_or-map-range_with_len (column_of g E i) 0 g.columns k k empty_column (omega (arith, h, m')) (omega arith))))

  -- The row of the instant, after data was taken of the stream where none was before.
  pub own_row : (g : Given) (E : List Entry) (s i quality : ℕ) (bytes payload : List ℕ) (cells : List (ℕ × CellView)) → s < stream_count g.columns g.lanes
      → HaveOwnColumns cells → (g.lanes ≡ 1 → AllByRecursion (λ (part : ℕ × CellView). part.0 ≡ s) cells) → take_of g E s i ≡ None
      → open_row_of g (taken_entry s i quality bytes payload cells ∷ E) i ≡ with_frame s (cond (eqb g.lanes 1) 0 s) cells (open_row_of g E i)
  own_row g E s i quality bytes payload cells l once own first =
      ap (λ xs. record { instant = i; age = counter (age_of E i); taken = xs; columns = map (column_of g (taken_entry s i quality bytes payload cells ∷ E) i) (columns_of g) })
      (taken_list g E s i quality bytes payload cells (stream_count g.columns g.lanes) l)
      ∙ ap (λ xs. record { instant = i; age = counter (age_of E i); taken = set (map (λ r. is_some (take_of g E r i)) (streams_of g)) s true; columns = xs })
      (column_list g E s i quality bytes payload cells (cond (eqb g.lanes 1) 0 s) once
      (λ c. column_taken (eqb g.lanes 1) E s i quality bytes payload cells c (fewer_streams (eqb g.lanes 1) g.columns s l)
      (λ e. own (eqb-true g.lanes 1 e)) (lane_empty (eqb g.lanes 1) E s c i first)))
