-- What a table contains is told by the calls on it.
use Rattle.std.proofs.Common.{◌≡◌, ◌≢◌, ℕ, ◌+◌, ◌<◌, Bool, true, false, cond, ◌&&◌, ◌||◌, if◌then◌else◌, eqb, List, [], ◌∷◌, length, get_or, set, map, refl, sym, ◌∙◌, ap, arith, inl, inr, Option, Some, None, suc}
use Rattle.std.specs.Option.{unwrap_or}
use Rattle.std.specs.List.{All}
use Rattle.std.proofs.lemmas.Bool.{cases_eq, cases_Bool, eq-eqb, ne_eqb, eqb-true, false≢true, or_left, or_parts, and_from, and_left, and_right}
use Rattle.std.proofs.lemmas.Grind.{get_or-set_at}
use Rattle.std.proofs.lemmas.List.{get_or-map, get_or-replicate, get_or-set_other}
use Rattle.pdc_open_row.specs.pdc_row.CellView.{CellView}
use Rattle.pdc_open_row.specs.pdc_row.Chosen.{first_of}
use Rattle.pdc_table.specs.Calls.{Call, Put, Require, Tick, DropStream, DropColumn, Pop, after, after_all}
use Rattle.pdc_table.specs.Closing.{aged, counter}
use Rattle.pdc_table.specs.Content.{Content, HasPlaces, HaveOwnColumns, lane_of, streams_of}
use Rattle.pdc_table.specs.Histories.{first_put, given_by, is_drop_in, is_drop_of, is_of_stream, is_take, is_taken_since, ticks_since_take, was_taken}
use Rattle.pdc_table.specs.Steps.{after_take, first_cause, put_answer}
use Rattle.pdc_open_row.specs.pdc_columns.Taking.{cell_in, conflicts, given_for, with_cell, with_cells, with_given}
use Rattle.pdc_open_row.specs.Taking.{answer_at, is_taken, with_frame, without_column, without_stream}
use Rattle.pdc_open_row.specs.pdc_columns.Views.{ColumnView, empty_column}
use Rattle.pdc_open_row.specs.Views.{OpenRowView, blank_row}
use Rattle.pdc_open_row.specs.declared.outcome.PutOutcome.{PutOutcome}
use Rattle.pdc_open_row.specs.declared.outcome.PutOutcome.TheVariants.{Conflict, Duplicate, Taken}
use Rattle.pdc_table.proofs.Given.{stands}
use Rattle.pdc_table.proofs.Keeps.{places-blank, places-frame, places-without_column, places-without_stream}

-- the row is that of an instant after these calls
pub record IsTold (c : Content) (calls : List Call) (i : ℕ) (row : OpenRowView) : Type 0 where
  pub age : row.age ≡ counter (ticks_since_take c calls i)
  pub places : HasPlaces (streams_of c) c.columns row
  pub streams : (s : ℕ) → s < streams_of c → get_or row.taken s false ≡ is_taken_since c calls s i
  pub cells : (s k : ℕ) → s < streams_of c → k < c.columns → (c.lanes ≡ 1 → k ≡ s) → cell_in (lane_of c s) (get_or row.columns k empty_column) ≡ first_put c calls s k i

-- an instant above the last has a row where it was taken, and that is its row
abbrev pub Follows : Content → List Call → ℕ → Option OpenRowView → Type 0
Follows c calls i None = was_taken c calls i ≡ false
Follows c calls i (Some row) = (was_taken c calls i ≡ true) × IsTold c calls i row

first_none : (o : Option CellView) → first_of o None ≡ o
first_none None = refl
first_none (Some a) = refl

and_false : (b : Bool) → (b && false) ≡ false
and_false true = refl
and_false false = refl

-- what was not taken has no history

untaken_ticks : (c : Content) (calls : List Call) (i : ℕ) → was_taken c calls i ≡ false → ticks_since_take c calls i ≡ 0
untaken_ticks c [] i e = refl
untaken_ticks c (Put stream instant cells ∷ calls) i e = untaken_ticks c calls i (or_parts (is_take (after_all c calls) i (Put stream instant cells)) (was_taken c calls i) e).1
untaken_ticks c (Require stream is_required ∷ calls) i e = untaken_ticks c calls i e
untaken_ticks c (Tick rule layout ∷ calls) i e = rw e refl
untaken_ticks c (DropStream stream ∷ calls) i e = untaken_ticks c calls i e
untaken_ticks c (DropColumn column ∷ calls) i e = untaken_ticks c calls i e
untaken_ticks c (Pop ∷ calls) i e = untaken_ticks c calls i e

since_step : (dropped of_stream taken since : Bool) → taken ≡ false → since ≡ false → (if dropped then false else (of_stream && taken) || since) ≡ false
since_step true of_stream taken since e f = refl
since_step false of_stream taken since e f = rw (e, f, and_false of_stream) refl

untaken_since : (c : Content) (calls : List Call) (s i : ℕ) → was_taken c calls i ≡ false → is_taken_since c calls s i ≡ false
untaken_since c [] s i e = refl
untaken_since c (call ∷ calls) s i e =
    let p : (is_take (after_all c calls) i call ≡ false) × (was_taken c calls i ≡ false) = or_parts (is_take (after_all c calls) i call) (was_taken c calls i) e in
    since_step (is_drop_of s call) (is_of_stream s call) (is_take (after_all c calls) i call) (is_taken_since c calls s i) p.0 (untaken_since c calls s i p.1)

-- a stream that was not taken since its drop put nothing since
no_put : (dropped : Bool) (put : Bool) (before given : Option CellView) → put ≡ false → before ≡ None → (if dropped then None else first_of before (if put then given else None)) ≡ None
no_put true put before given e f = refl
no_put false put before given e f = rw (e, f) refl

dropped_both : (c : Content) (calls : List Call) (s k i : ℕ) (call : Call) → (is_drop_of s call ≡ true → is_drop_in s k call ≡ true) → (is_taken_since c calls s i ≡ false → first_put c calls s k i ≡ None) → is_taken_since c (call ∷ calls) s i ≡ false → first_put c (call ∷ calls) s k i ≡ None
dropped_both c calls s k i call d h e = elim (cases_Bool (is_drop_of s call)) [
  | inl t ↦ rw (d t) refl
  | inr f ↦ (let g : ((is_of_stream s call && is_take (after_all c calls) i call) || is_taken_since c calls s i) ≡ false = rw f at e in
      let p : ((is_of_stream s call && is_take (after_all c calls) i call) ≡ false) × (is_taken_since c calls s i ≡ false) = or_parts (is_of_stream s call && is_take (after_all c calls) i call) (is_taken_since c calls s i) g in
      no_put (is_drop_in s k call) (is_of_stream s call && is_take (after_all c calls) i call) (first_put c calls s k i) (given_by k call) p.0 (h p.1))
]

no_first_put : (c : Content) (calls : List Call) (s k i : ℕ) → is_taken_since c calls s i ≡ false → first_put c calls s k i ≡ None
no_first_put c [] s k i e = refl
no_first_put c (Put stream instant cells ∷ calls) s k i e = dropped_both c calls s k i (Put stream instant cells) (λ t. absurd (false≢true t)) (no_first_put c calls s k i) e
no_first_put c (Require stream is_required ∷ calls) s k i e = dropped_both c calls s k i (Require stream is_required) (λ t. absurd (false≢true t)) (no_first_put c calls s k i) e
no_first_put c (Tick rule layout ∷ calls) s k i e = dropped_both c calls s k i (Tick rule layout) (λ t. absurd (false≢true t)) (no_first_put c calls s k i) e
no_first_put c (DropStream stream ∷ calls) s k i e = dropped_both c calls s k i (DropStream stream) (λ t. t) (no_first_put c calls s k i) e
no_first_put c (DropColumn column ∷ calls) s k i e = dropped_both c calls s k i (DropColumn column) (λ t. absurd (false≢true t)) (no_first_put c calls s k i) e
no_first_put c (Pop ∷ calls) s k i e = dropped_both c calls s k i Pop (λ t. absurd (false≢true t)) (no_first_put c calls s k i) e

-- the sizes stay

pub record HasSizes (c d : Content) : Type 0 where
  pub columns : d.columns ≡ c.columns
  pub lanes : d.lanes ≡ c.lanes

sizes_chosen : (b : Bool) (c d e : Content) → HasSizes c d → HasSizes c e → HasSizes c (if b then d else e)
sizes_chosen true c d e h k = h
sizes_chosen false c d e h k = k

sizes_step : (c d : Content) (call : Call) → HasSizes c d → HasSizes c (after d call)
sizes_step c d (Put stream instant cells) h = sizes_chosen (is_taken (put_answer d stream instant cells)) c (after_take d stream instant cells) d (record { columns = h.columns; lanes = h.lanes }) h
sizes_step c d (Require stream is_required) h = record { columns = h.columns; lanes = h.lanes }
sizes_step c d (Tick rule layout) h = record { columns = h.columns; lanes = h.lanes }
sizes_step c d (DropStream stream) h = record { columns = h.columns; lanes = h.lanes }
sizes_step c d (DropColumn column) h = record { columns = h.columns; lanes = h.lanes }
sizes_step c d Pop h = record { columns = h.columns; lanes = h.lanes }

pub sizes_all : (c : Content) (calls : List Call) → HasSizes c (after_all c calls)
sizes_all c [] = record { columns = refl; lanes = refl }
sizes_all c (call ∷ calls) = sizes_step c (after_all c calls) call (sizes_all c calls)

-- lanes of a column

same_cell : (b : Bool) (o : Option CellView) (column : ColumnView) → (if b then (if b then record column { first = o } else record column { second = o }).first else (if b then record column { first = o } else record column { second = o }).second) ≡ o
same_cell true o column = refl
same_cell false o column = refl

same_lane : (lane : ℕ) (o : Option CellView) (column : ColumnView) → cell_in lane (with_cell lane o column) ≡ o
same_lane lane o column = same_cell (eqb lane 0) o column

other_cell : (a b : Bool) (o : Option CellView) (column : ColumnView) → a ≢ b → (if a then (if b then record column { first = o } else record column { second = o }).first else (if b then record column { first = o } else record column { second = o }).second) ≡ (if a then column.first else column.second)
other_cell true true o column n = absurd (n refl)
other_cell true false o column n = refl
other_cell false true o column n = refl
other_cell false false o column n = absurd (n refl)

lanes_differ : (a b : ℕ) → a < 2 → b < 2 → a ≢ b → eqb a 0 ≢ eqb b 0
lanes_differ a b h k n e = elim (cases_eq a 0) [
  | inl z ↦ (let y : b ≡ 0 = eqb-true b 0 (sym e ∙ eq-eqb a 0 z) in n (omega arith))
  | inr m ↦ (let y : eqb b 0 ≡ false = sym e ∙ ne_eqb a 0 m in n (elim (cases_eq b 0) [
    | inl w ↦ absurd (false≢true (sym y ∙ eq-eqb b 0 w))
    | inr v ↦ omega arith
  ]))
]

other_lane : (a b : ℕ) (o : Option CellView) (column : ColumnView) → a < 2 → b < 2 → a ≢ b → cell_in a (with_cell b o column) ≡ cell_in a column
other_lane a b o column h k n = other_cell (eqb a 0) (eqb b 0) o column (lanes_differ a b h k n)

no_cell : (b : Bool) → (if b then empty_column.first else empty_column.second) ≡ None
no_cell true = refl
no_cell false = refl

given_same : (lane : ℕ) (given : Option CellView) (column : ColumnView) → cell_in lane column ≡ None → cell_in lane (with_given lane given column) ≡ given
given_same lane None column e = e
given_same lane (Some cell) column e = same_lane lane (Some cell) column

given_other : (a b : ℕ) (given : Option CellView) (column : ColumnView) → a < 2 → b < 2 → a ≢ b → cell_in a (with_given b given column) ≡ cell_in a column
given_other a b None column h k n = refl
given_other a b (Some cell) column h k n = other_lane a b (Some cell) column h k n

none_for : (k stream : ℕ) (cells : List (ℕ × CellView)) → ((j : ℕ) (d : ℕ × CellView) → j < length cells → (get_or cells j d).0 ≡ stream) → stream ≢ k → given_for k cells ≡ None
none_for k stream [] h n = refl
none_for k stream (cell ∷ cells) h n =
    rw (ne_eqb cell.0 k (λ e. n (sym (h 0 cell (omega arith)) ∙ e))) (none_for k stream cells (λ j d l. h (suc j) d (omega arith)) n)

lane_of_one : (c : Content) (s : ℕ) → c.lanes ≡ 1 → streams_of c ≡ c.columns
lane_of_one c s e = ap (λ b. cond b c.columns 2) (eq-eqb c.lanes 1 e)

lane_of_two : (c : Content) (s : ℕ) → c.lanes ≢ 1 → lane_of c s ≡ s
lane_of_two c s n = ap (λ b. cond b 0 s) (ne_eqb c.lanes 1 n)

streams_of_two : (c : Content) → c.lanes ≢ 1 → streams_of c ≡ 2
streams_of_two c n = ap (λ b. cond b c.columns 2) (ne_eqb c.lanes 1 n)

or_none : (x y : Bool) → x ≡ false → (x || y) ≡ y
or_none true y e = absurd (false≢true (sym e))
or_none false y e = refl

-- a call that neither takes nor drops at the instant

pub quiet_put : (c : Content) (calls : List Call) (i stream instant : ℕ) (cells : List (ℕ × CellView)) (row : OpenRowView) → is_take (after_all c calls) i (Put stream instant cells) ≡ false → IsTold c calls i row → IsTold c (Put stream instant cells ∷ calls) i row
quiet_put c calls i stream instant cells row e h = record {
  age = h.age;
  places = h.places;
  streams = λ s l. h.streams s l ∙ sym (or_none (eqb stream s && is_take (after_all c calls) i (Put stream instant cells)) (is_taken_since c calls s i) (and_right (eqb stream s) (is_take (after_all c calls) i (Put stream instant cells)) e));
  cells = λ s k l m o. h.cells s k l m o ∙ sym (first_none (first_put c calls s k i))
      ∙ ap (λ b. first_of (first_put c calls s k i) (if b then given_for k cells else None)) (sym (and_right (eqb stream s) (is_take (after_all c calls) i (Put stream instant cells)) e));
}

pub tick_told : (c : Content) (calls : List Call) (i : ℕ) (call : Call) (row : OpenRowView) → (was_taken c calls i ≡ true) → (ticks_since_take c (call ∷ calls) i ≡ (if was_taken c calls i then ticks_since_take c calls i + 1 else 0)) → ((s : ℕ) → is_taken_since c (call ∷ calls) s i ≡ is_taken_since c calls s i) → ((s k : ℕ) → first_put c (call ∷ calls) s k i ≡ first_of (first_put c calls s k i) None) → IsTold c calls i row → IsTold c (call ∷ calls) i (aged row)
tick_told c calls i call row t e f g h = record {
  age =
      let older : counter (row.age + 1) ≡ counter (ticks_since_take c calls i + 1) = rw h.age (omega arith) in
      older ∙ ap (λ b. counter (if b then ticks_since_take c calls i + 1 else 0)) (sym t) ∙ ap counter (sym e);
  places = record { taken = h.places.taken; columns = h.places.columns };
  streams = λ s l. h.streams s l ∙ sym (f s);
  cells = λ s k l m o. h.cells s k l m o ∙ sym (first_none (first_put c calls s k i)) ∙ sym (g s k);
}

pub quiet_call : (c : Content) (calls : List Call) (i : ℕ) (call : Call) (row : OpenRowView) → (ticks_since_take c (call ∷ calls) i ≡ ticks_since_take c calls i) → ((s : ℕ) → is_taken_since c (call ∷ calls) s i ≡ is_taken_since c calls s i) → ((s k : ℕ) → first_put c (call ∷ calls) s k i ≡ first_of (first_put c calls s k i) None) → IsTold c calls i row → IsTold c (call ∷ calls) i row
quiet_call c calls i call row e f g h = record {
  age = h.age ∙ ap counter (sym e);
  places = h.places;
  streams = λ s l. h.streams s l ∙ sym (f s);
  cells = λ s k l m o. h.cells s k l m o ∙ sym (first_none (first_put c calls s k i)) ∙ sym (g s k);
}

-- a frame that is taken

took : (c : Content) (calls : List Call) (s i stream instant : ℕ) (cells : List (ℕ × CellView)) → is_take (after_all c calls) i (Put stream instant cells) ≡ true → stream ≡ s → (eqb stream s && is_take (after_all c calls) i (Put stream instant cells)) ≡ true
took c calls s i stream instant cells t e = and_from (eqb stream s) (is_take (after_all c calls) i (Put stream instant cells)) (eq-eqb stream s e) t

took_not : (c : Content) (calls : List Call) (s i stream instant : ℕ) (cells : List (ℕ × CellView)) → stream ≢ s → (eqb stream s && is_take (after_all c calls) i (Put stream instant cells)) ≡ false
took_not c calls s i stream instant cells n = and_left (eqb stream s) (is_take (after_all c calls) i (Put stream instant cells)) (ne_eqb stream s n)

frame_streams : (c : Content) (calls : List Call) (i stream instant : ℕ) (cells : List (ℕ × CellView)) (row : OpenRowView) → stream < streams_of c → is_take (after_all c calls) i (Put stream instant cells) ≡ true → IsTold c calls i row → (s : ℕ) → s < streams_of c → get_or (set row.taken stream true) s false ≡ is_taken_since c (Put stream instant cells ∷ calls) s i
frame_streams c calls i stream instant cells row x t h s l = elim (cases_eq stream s) [
  | inl e ↦ get_or-set_at row.taken stream s true false (sym e) (omega (arith, h.places.taken))
      ∙ sym (or_left (eqb stream s && is_take (after_all c calls) i (Put stream instant cells)) (is_taken_since c calls s i) (took c calls s i stream instant cells t e))
  | inr n ↦ get_or-set_other row.taken stream s true false (λ e. n (sym e)) ∙ h.streams s l
      ∙ sym (or_none (eqb stream s && is_take (after_all c calls) i (Put stream instant cells)) (is_taken_since c calls s i) (took_not c calls s i stream instant cells n))
]

-- the lane of another stream, or its column, is as it was
frame_other : (c : Content) (s k stream : ℕ) (cells : List (ℕ × CellView)) (column : ColumnView) → s < streams_of c → stream < streams_of c → (c.lanes ≡ 1 → k ≡ s) → (c.lanes ≡ 1 → All (λ (cell : ℕ × CellView). cell.0 ≡ stream) cells) → stream ≢ s → cell_in (lane_of c s) (with_given (lane_of c stream) (given_for k cells) column) ≡ cell_in (lane_of c s) column
frame_other c s k stream cells column l x o own n = elim (cases_eq c.lanes 1) [
  | inl q ↦ rw (none_for k stream cells (own q) (λ e. n (e ∙ o q))) refl
  | inr q ↦ rw (lane_of_two c s q, lane_of_two c stream q) (given_other s stream (given_for k cells) column (omega (arith, streams_of_two c q)) (omega (arith, streams_of_two c q)) (λ e. n (sym e)))
]

frame_cells : (c : Content) (calls : List Call) (i stream instant : ℕ) (cells : List (ℕ × CellView)) (row : OpenRowView) → stream < streams_of c → (c.lanes ≡ 1 → All (λ (cell : ℕ × CellView). cell.0 ≡ stream) cells) → HaveOwnColumns cells → get_or row.taken stream false ≡ false → is_take (after_all c calls) i (Put stream instant cells) ≡ true → IsTold c calls i row → (s k : ℕ) → s < streams_of c → k < c.columns → (c.lanes ≡ 1 → k ≡ s) → cell_in (lane_of c s) (get_or (with_cells (lane_of c stream) cells row.columns) k empty_column) ≡ first_put c (Put stream instant cells ∷ calls) s k i
frame_cells c calls i stream instant cells row x own once free t h s k l m o =
    let column : ColumnView = get_or row.columns k empty_column in
    let there : get_or (with_cells (lane_of c stream) cells row.columns) k empty_column ≡ with_given (lane_of c stream) (given_for k cells) column = stands (lane_of c stream) cells row.columns once k (omega (arith, h.places.columns)) in
    let held : cell_in (lane_of c s) column ≡ first_put c calls s k i = h.cells s k l m o in
    ap (cell_in (lane_of c s)) there ∙ elim (cases_eq stream s) [
      | inl e ↦ (let none : first_put c calls s k i ≡ None = no_first_put c calls s k i (sym (h.streams s l) ∙ ap (λ n. get_or row.taken n false) (sym e) ∙ free) in
          ap (λ n. cell_in (lane_of c s) (with_given (lane_of c n) (given_for k cells) column)) e
          ∙ given_same (lane_of c s) (given_for k cells) column (held ∙ none)
          ∙ ap (λ b. first_of None (if b then given_for k cells else None)) (sym (took c calls s i stream instant cells t e))
          ∙ ap (λ p. first_of p (if eqb stream s && is_take (after_all c calls) i (Put stream instant cells) then given_for k cells else None)) (sym none))
      | inr n ↦ frame_other c s k stream cells column l x o own n ∙ held ∙ sym (first_none (first_put c calls s k i))
          ∙ ap (λ b. first_of (first_put c calls s k i) (if b then given_for k cells else None)) (sym (took_not c calls s i stream instant cells n))
    ]

pub frame_told : (c : Content) (calls : List Call) (i stream instant : ℕ) (cells : List (ℕ × CellView)) (row : OpenRowView) → stream < streams_of c → (c.lanes ≡ 1 → All (λ (cell : ℕ × CellView). cell.0 ≡ stream) cells) → HaveOwnColumns cells → get_or row.taken stream false ≡ false → is_take (after_all c calls) i (Put stream instant cells) ≡ true → IsTold c calls i row → IsTold c (Put stream instant cells ∷ calls) i (with_frame stream (lane_of c stream) cells row)
frame_told c calls i stream instant cells row x own once free t h = record {
  age = h.age;
  places = places-frame stream (lane_of c stream) cells (streams_of c) c.columns row h.places;
  streams = λ s l. frame_streams c calls i stream instant cells row x t h s l;
  cells = λ s k l m o. frame_cells c calls i stream instant cells row x own once free t h s k l m o;
}

-- a stream that is dropped

drop_streams : (c : Content) (calls : List Call) (i t : ℕ) (row : OpenRowView) → t < streams_of c → IsTold c calls i row → (s : ℕ) → s < streams_of c → get_or (set row.taken t false) s false ≡ is_taken_since c (DropStream t ∷ calls) s i
drop_streams c calls i t row x h s l = elim (cases_eq t s) [
  | inl e ↦ get_or-set_at row.taken t s false false (sym e) (omega (arith, h.places.taken)) ∙ ap (λ b. if b then false else is_taken_since c calls s i) (sym (eq-eqb t s e))
  | inr n ↦ get_or-set_other row.taken t s false false (λ e. n (sym e)) ∙ h.streams s l ∙ ap (λ b. if b then false else is_taken_since c calls s i) (sym (ne_eqb t s n))
]

-- what is left of a column, where it goes whole or in one lane
drop_column_one : (c : Content) (calls : List Call) (i t s k : ℕ) (lane : ℕ) (columns : List ColumnView) → t < length columns → k ≡ s → cell_in lane (get_or columns k empty_column) ≡ first_put c calls s k i → cell_in lane (get_or (set columns t empty_column) k empty_column) ≡ (if eqb t s then None else first_of (first_put c calls s k i) None)
drop_column_one c calls i t s k lane columns x o h = elim (cases_eq t s) [
  | inl e ↦ ap (cell_in lane) (get_or-set_at columns t k empty_column empty_column (omega arith) x) ∙ no_cell (eqb lane 0)
      ∙ ap (λ b. if b then None else first_of (first_put c calls s k i) None) (sym (eq-eqb t s e))
  | inr n ↦ ap (cell_in lane) (get_or-set_other columns t k empty_column empty_column (λ e. n (omega arith))) ∙ h ∙ sym (first_none (first_put c calls s k i))
      ∙ ap (λ b. if b then None else first_of (first_put c calls s k i) None) (sym (ne_eqb t s n))
]

drop_lane : (c : Content) (calls : List Call) (i t s k : ℕ) (columns : List ColumnView) → t < 2 → s < 2 → k < length columns → cell_in s (get_or columns k empty_column) ≡ first_put c calls s k i → cell_in s (get_or (map (with_cell t None) columns) k empty_column) ≡ (if eqb t s then None else first_of (first_put c calls s k i) None)
drop_lane c calls i t s k columns x y m h = ap (cell_in s) (get_or-map (with_cell t None) columns k empty_column empty_column m) ∙ elim (cases_eq t s) [
  | inl e ↦ ap (λ n. cell_in s (with_cell n None (get_or columns k empty_column))) e ∙ same_lane s None (get_or columns k empty_column)
      ∙ ap (λ b. if b then None else first_of (first_put c calls s k i) None) (sym (eq-eqb t s e))
  | inr n ↦ other_lane s t None (get_or columns k empty_column) y x (λ e. n (sym e)) ∙ h ∙ sym (first_none (first_put c calls s k i))
      ∙ ap (λ b. if b then None else first_of (first_put c calls s k i) None) (sym (ne_eqb t s n))
]

drop_cells : (c : Content) (calls : List Call) (i t : ℕ) (row : OpenRowView) → t < streams_of c → IsTold c calls i row → (s k : ℕ) → s < streams_of c → k < c.columns → (c.lanes ≡ 1 → k ≡ s) → cell_in (lane_of c s) (get_or (without_stream c.lanes t row).columns k empty_column) ≡ first_put c (DropStream t ∷ calls) s k i
drop_cells c calls i t row x h s k l m o = elim (cases_eq c.lanes 1) [
  | inl q ↦ ap (λ b. cell_in (lane_of c s) (get_or (if b then set row.columns t empty_column else map (with_cell t None) row.columns) k empty_column)) (eq-eqb c.lanes 1 q)
      ∙ drop_column_one c calls i t s k (lane_of c s) row.columns (omega (arith, h.places.columns, lane_of_one c s q)) (o q) (h.cells s k l m o)
  | inr q ↦ (let own : cell_in s (get_or row.columns k empty_column) ≡ first_put c calls s k i = ap (λ n. cell_in n (get_or row.columns k empty_column)) (sym (lane_of_two c s q)) ∙ h.cells s k l m o in
      ap (λ b. cell_in (lane_of c s) (get_or (if b then set row.columns t empty_column else map (with_cell t None) row.columns) k empty_column)) (ne_eqb c.lanes 1 q)
      ∙ ap (λ n. cell_in n (get_or (map (with_cell t None) row.columns) k empty_column)) (lane_of_two c s q)
      ∙ drop_lane c calls i t s k row.columns (omega (arith, streams_of_two c q)) (omega (arith, streams_of_two c q)) (omega (arith, h.places.columns)) own)
]

pub drop_told : (c : Content) (calls : List Call) (i t : ℕ) (row : OpenRowView) → t < streams_of c → IsTold c calls i row → IsTold c (DropStream t ∷ calls) i (without_stream c.lanes t row)
drop_told c calls i t row x h = record {
  age = h.age;
  places = places-without_stream c.lanes t (streams_of c) c.columns row h.places;
  streams = λ s l. drop_streams c calls i t row x h s l;
  cells = λ s k l m o. drop_cells c calls i t row x h s k l m o;
}

-- a column that is dropped

column_cells : (c : Content) (calls : List Call) (i q : ℕ) (row : OpenRowView) → q < c.columns → IsTold c calls i row → (s k : ℕ) → s < streams_of c → k < c.columns → (c.lanes ≡ 1 → k ≡ s) → cell_in (lane_of c s) (get_or (set row.columns q empty_column) k empty_column) ≡ first_put c (DropColumn q ∷ calls) s k i
column_cells c calls i q row x h s k l m o = elim (cases_eq q k) [
  | inl e ↦ ap (cell_in (lane_of c s)) (get_or-set_at row.columns q k empty_column empty_column (sym e) (omega (arith, h.places.columns))) ∙ no_cell (eqb (lane_of c s) 0)
      ∙ ap (λ b. if b then None else first_of (first_put c calls s k i) None) (sym (eq-eqb q k e))
  | inr n ↦ ap (cell_in (lane_of c s)) (get_or-set_other row.columns q k empty_column empty_column (λ e. n (sym e))) ∙ h.cells s k l m o ∙ sym (first_none (first_put c calls s k i))
      ∙ ap (λ b. if b then None else first_of (first_put c calls s k i) None) (sym (ne_eqb q k n))
]

pub column_told : (c : Content) (calls : List Call) (i q : ℕ) (row : OpenRowView) → q < c.columns → IsTold c calls i row → IsTold c (DropColumn q ∷ calls) i (without_column q row)
column_told c calls i q row x h = record {
  age = h.age;
  places = places-without_column q (streams_of c) c.columns row h.places;
  streams = h.streams;
  cells = λ s k l m o. column_cells c calls i q row x h s k l m o;
}

-- an instant that was not taken

blank_told : (c : Content) (calls : List Call) (i : ℕ) → was_taken c calls i ≡ false → IsTold c calls i (blank_row (streams_of c) c.columns i)
blank_told c calls i e = record {
  age = ap counter (sym (untaken_ticks c calls i e));
  places = places-blank (streams_of c) c.columns i;
  streams = λ s l. get_or-replicate (streams_of c) s false false l ∙ sym (untaken_since c calls s i e);
  cells = λ s k l m o. ap (cell_in (lane_of c s)) (get_or-replicate c.columns k empty_column empty_column m) ∙ no_cell (eqb (lane_of c s) 0)
      ∙ sym (no_first_put c calls s k i (untaken_since c calls s i e));
}

pub base_told : (c : Content) (calls : List Call) (i : ℕ) (o : Option OpenRowView) → Follows c calls i o → IsTold c calls i (unwrap_or o (blank_row (streams_of c) c.columns i))
base_told c calls i None e = blank_told c calls i e
base_told c calls i (Some row) p = p.1

pub taken_at_row : (late far : Bool) (other : PutOutcome) → is_taken (first_cause late far other) ≡ true → is_taken other ≡ true
taken_at_row true far other e = absurd (false≢true e)
taken_at_row false true other e = absurd (false≢true e)
taken_at_row false false other e = e

free_stream : (b conflict : Bool) → is_taken (if b then (if conflict then Conflict else Duplicate) else Taken) ≡ true → b ≡ false
free_stream true true e = absurd (false≢true e)
free_stream true false e = absurd (false≢true e)
free_stream false conflict e = refl

pub free_at : (streams columns i stream lane : ℕ) (cells : List (ℕ × CellView)) (o : Option OpenRowView) → stream < streams → is_taken (answer_at o stream lane cells) ≡ true → get_or (unwrap_or o (blank_row streams columns i)).taken stream false ≡ false
free_at streams columns i stream lane cells None l e = get_or-replicate streams stream false false l
free_at streams columns i stream lane cells (Some row) l e = free_stream (get_or row.taken stream false) (conflicts lane cells row.columns) e
