-- What arrives: its cells may be put, the table answers as the life does, a take is a take of the table, and all else leaves it.
use Rattle.std.proofs.Common.{◌≡◌, ℕ, ◌<◌, Bool, true, false, ◌&&◌, ◌||◌, not, cond, eqb, leb, ltb, List, [], ◌∷◌, ◌++◌, filter, get_or, length, map, refl, sym, ◌∙◌, ap, subst, arith, zero, suc, Option, Some, None}
use Rattle.std.specs.Prelude.{◌+◌, find, is_some}
use Rattle.std.specs.List.{All, AllByRecursion, list_all, list_any}
use Rattle.std.proofs.lemmas.Bool.{eqb-true, false≢true, leb-false, lt-ltb}
use Rattle.std.proofs.lemmas.List.FromFn.{get_or-map-range_with_len, length-range_with_len}
use Rattle.std.proofs.lemmas.List.Folds.{list_all-append}
use Rattle.pdc_arrival.specs.pdc_row.CellView.{CellView}
use Rattle.pdc_arrival.specs.pdc_row.Rising.{Rises, is_near, rising}
use Rattle.pdc_arrival.specs.pdc_row.RisingLaws.{RisingLaws}
use Rattle.pdc_arrival.specs.pdc_row.RowView.{row_instants}
use Rattle.pdc_table.specs.Calls.{BlocksStandInTheirColumns}
use Rattle.pdc_table.specs.Closing.{counter}
use Rattle.pdc_table.specs.Content.{Content, HaveOwnColumns, IsPut, NoneIsOf, lane_of}
use Rattle.pdc_table.specs.pdc_open_row.Streams.{stream_count}
use Rattle.pdc_table.specs.OpenInstants.{instants_of}
use Rattle.pdc_table.specs.Placing.{row_at}
use Rattle.pdc_table.specs.Steps.{after_take, is_near_all, put_answer}
use Rattle.pdc_table.specs.pdc_columns.Taking.{cell_in, conflicts, holds_other}
use Rattle.pdc_table.specs.pdc_open_row.Taking.{answer_at, with_frame}
use Rattle.pdc_table.specs.Steps as table
use Rattle.pdc_table.specs.pdc_columns.Views.{ColumnView, empty_column}
use Rattle.pdc_table.specs.pdc_open_row.Views.{OpenRowView}
use Rattle.pdc_table.specs.pdc_open_row.declared.outcome.PutOutcome.{PutOutcome}
use Rattle.pdc_table.specs.pdc_open_row.declared.outcome.PutOutcome.TheVariants as put
use Rattle.pdc_arrival.specs.pdc_life.declared.outcome.Outcome.{Outcome}
use Rattle.pdc_arrival.specs.pdc_life.declared.outcome.Outcome.TheVariants.{Refused, Taken}
use Rattle.pdc_arrival.specs.pdc_life.declared.outcome.Refusal.TheVariants.{Ahead, Late, OutOfWindow}
use Rattle.pdc_arrival.specs.pdc_life.Answer.{again_answer, first_cause, is_other, outcome_in_time}
use Rattle.pdc_arrival.specs.pdc_life.Arrival.{Data}
use Rattle.pdc_arrival.specs.pdc_life.Given.{Given, columns_of, streams_of}
use Rattle.pdc_arrival.specs.pdc_life.InTime.{ComesInTime, TakenIsInTime}
use Rattle.pdc_arrival.specs.pdc_life.Life.{Answer, Entry, Arrive, Tick, Pop, Take, age_of, cell_of, is_take_of, held_instants, last_of, now_of, open_instants, take_at, take_of, takes, takes_since_adopted, waiting}
use Rattle.pdc_arrival.specs.pdc_life.Life as given
use Rattle.pdc_arrival.specs.pdc_life.Run.{IsInTime}
use Rattle.pdc_align.specs.Follows.{AnswersAgree, CellsArePut, OthersLeaveIt, TakeIsTake, told_by}
use Rattle.pdc_align.specs.State.{column_of, content_of, open_row_of}
use Rattle.pdc_align.proofs.Quiet.{is_in, no_take, open_is_taken, row_is_fresh}
use Rattle.pdc_align.proofs.Rows.{row_at_open, rows_placed}
use Rattle.pdc_align.proofs.Takes.{other_row, own_row, taken_entry}

-- ---- cells may be put

columns_rise : (low : ℕ) (cells : List (ℕ × CellView)) (c : ℕ) → c < low → Rises low (map (λ (part : ℕ × CellView). part.0 + 1) cells) → NoneIsOf c cells
columns_rise low [] c l r = tt
columns_rise low (part ∷ cells) c l r = ((λ e. omega (arith, l, r.0, e)), columns_rise (part.0 + 1) cells c (omega (arith, l, r.0)) r.1)

own_columns : (low : ℕ) (cells : List (ℕ × CellView)) → Rises low (map (λ (part : ℕ × CellView). part.0 + 1) cells) → HaveOwnColumns cells
own_columns low [] r = tt
own_columns low (part ∷ cells) r = (columns_rise (part.0 + 1) cells part.0 (omega arith) r.1, own_columns (part.0 + 1) cells r.1)

each_is : {A : Type 0} (P : A → Type 0) (xs : List A) → AllByRecursion P xs → All P xs
each_is P [] a k d l = absurd (omega (arith, l))
each_is P (x ∷ xs) a zero d l = a.0
each_is P (x ∷ xs) a (suc k) d l = each_is P xs a.1 k d (omega (arith, l))

all_are : {A : Type 0} (P : A → Type 0) (xs : List A) → All P xs → AllByRecursion P xs
all_are P [] a = tt
all_are P (x ∷ xs) a = (a zero x (omega arith), all_are P xs (λ k d l. a (suc k) d (omega (arith, l))))

stream_is : (g : Given) (s : ℕ) → s < length (streams_of g) → s < stream_count g.columns g.lanes
stream_is g s l = omega (arith, l, length-range_with_len 0 (stream_count g.columns g.lanes))

pub cells_are_put : CellsArePut
cells_are_put g E s cells are = record {
  stream_exists = stream_is g s are.stream;
  columns_exist = each_is (λ (part : ℕ × CellView). part.0 < g.columns) cells are.columns.exist;
  own_column = λ e. each_is (λ (part : ℕ × CellView). part.0 ≡ s) cells (are.own e);
  once = own_columns 0 cells are.columns.rise;
}

-- ---- the table answers as the life does

instants_open : (g : Given) (E : List Entry) (ns : List ℕ) → instants_of (map (open_row_of g E) ns) ≡ ns
instants_open g E [] = refl
instants_open g E (n ∷ ns) = ap (λ ms. n ∷ ms) (instants_open g E ns)

and_swap : (a b : Bool) → (a && b) ≡ (b && a)
and_swap true true = refl
and_swap true false = refl
and_swap false true = refl
and_swap false false = refl

near_same : (g : Given) (E : List Entry) (i : ℕ) → list_all (is_near g.window i) (held_instants g E) ≡ is_near_all (content_of g E) i
near_same g E i =
    list_all-append (is_near g.window i) (open_instants g E) (row_instants (waiting E))
    ∙ and_swap (list_all (is_near g.window i) (open_instants g E)) (list_all (is_near g.window i) (row_instants (waiting E)))
    ∙ ap (λ ns. list_all (is_near g.window i) (row_instants (waiting E)) && list_all (is_near g.window i) ns) (sym (instants_open g E (open_instants g E)))
    ∙ sym (list_all-append (is_near g.window i) (row_instants (waiting E)) (instants_of (map (open_row_of g E) (open_instants g E))))

-- a lane of a column holds the cell of its stream
lane_cell : (one : Bool) (E : List Entry) (s c i : ℕ) → (one ≡ true → c ≡ s) → (one ≡ false → s < 2)
    → cell_in (cond one 0 s) (record { first = cell_of E (cond one c 0) c i; second = cond one None (cell_of E 1 c i) }) ≡ cell_of E s c i
lane_cell true E s c i own two = ap (λ r. cell_of E r c i) (own refl)
lane_cell false E zero c i own two = refl
lane_cell false E (suc zero) c i own two = refl
lane_cell false E (suc (suc s)) c i own two = absurd (omega (arith, two refl))

other_same : (held : Option CellView) (cell : CellView) → holds_other held cell.block ≡ is_other held cell
other_same None cell = refl
other_same (Some h) cell = refl

conflicts_same : (g : Given) (E : List Entry) (s i : ℕ) (cells : List (ℕ × CellView)) → (eqb g.lanes 1 ≡ false → s < 2)
    → AllByRecursion (λ (part : ℕ × CellView). part.0 < g.columns) cells → (g.lanes ≡ 1 → AllByRecursion (λ (part : ℕ × CellView). part.0 ≡ s) cells)
    → conflicts (cond (eqb g.lanes 1) 0 s) cells (open_row_of g E i).columns ≡ list_any (λ (part : ℕ × CellView). is_other (cell_of E s part.0 i) part.1) cells
conflicts_same g E s i [] two exist own = refl
conflicts_same g E s i (part ∷ cells) two exist own =
    ap (λ (column : ColumnView). holds_other (cell_in (cond (eqb g.lanes 1) 0 s) column) part.1.block || conflicts (cond (eqb g.lanes 1) 0 s) cells (open_row_of g E i).columns)
    (get_or-map-range_with_len (column_of g E i) 0 g.columns part.0 part.0 empty_column exist.0 (omega arith))
    ∙ ap (λ o. holds_other o part.1.block || conflicts (cond (eqb g.lanes 1) 0 s) cells (open_row_of g E i).columns)
    (lane_cell (eqb g.lanes 1) E s part.0 i (λ e. (own (eqb-true g.lanes 1 e)).0) two)
    ∙ ap (λ b. b || conflicts (cond (eqb g.lanes 1) 0 s) cells (open_row_of g E i).columns) (other_same (cell_of E s part.0 i) part.1)
    ∙ ap (λ b. is_other (cell_of E s part.0 i) part.1 || b) (conflicts_same g E s i cells two exist.1 (λ e. (own e).1))

again_same : (t : Option Take) (taken b c : Bool) → taken ≡ is_some t → b ≡ c → again_answer t c ≡ told_by (cond taken (cond b put.Conflict put.Duplicate) put.Taken)
again_same None true b c e h = absurd (false≢true (sym e))
again_same None false b c e h = refl
again_same (Some t) false b c e h = absurd (false≢true e)
again_same (Some t) true true true e h = refl
again_same (Some t) true false false e h = refl
again_same (Some t) true true false e h = absurd (false≢true (sym h))
again_same (Some t) true false true e h = absurd (false≢true h)

-- above the last, an instant that is open tells what was taken, and for one that is not nothing was
answer_same : (g : Given) (E : List Entry) (s i : ℕ) (cells : List (ℕ × CellView)) (b : Bool) → IsPut (content_of g E) s cells → last_of g E < i → is_in i (open_instants g E) ≡ b
    → again_answer (take_of g E s i) (list_any (λ (part : ℕ × CellView). is_other (cell_of E s part.0 i) part.1) cells)
    ≡ told_by (answer_at (cond b (Some (open_row_of g E i)) None) s (cond (eqb g.lanes 1) 0 s) cells)
answer_same g E s i cells false are l e =
    ap (λ t. again_answer t (list_any (λ (part : ℕ × CellView). is_other (cell_of E s part.0 i) part.1) cells)) (no_take g E s i (sym (open_is_taken g E i l) ∙ e))
answer_same g E s i cells true are l e =
    again_same (take_of g E s i) (get_or (open_row_of g E i).taken s false) (conflicts (cond (eqb g.lanes 1) 0 s) cells (open_row_of g E i).columns)
    (list_any (λ (part : ℕ × CellView). is_other (cell_of E s part.0 i) part.1) cells)
    (get_or-map-range_with_len (λ r. is_some (take_of g E r i)) 0 (stream_count g.columns g.lanes) s s false are.stream_exists (omega arith))
    (conflicts_same g E s i cells (λ f. subst (λ c. s < cond c g.columns 2) f are.stream_exists) (all_are (λ (part : ℕ × CellView). part.0 < g.columns) cells are.columns_exist)
    (λ e. all_are (λ (part : ℕ × CellView). part.0 ≡ s) cells (are.own_column e)))

causes_same : (late ahead far near : Bool) (other : Outcome) (answer : PutOutcome) → far ≡ not near → (late ≡ false → other ≡ told_by answer)
    → first_cause late ahead far other ≡ cond late (Refused Late) (cond ahead (Refused Ahead) (told_by (table.first_cause late (not near) answer)))
causes_same true ahead far near other answer e h = refl
causes_same false true far near other answer e h = refl
causes_same false false far true other answer e h = ap (λ b. cond b (Refused OutOfWindow) other) e ∙ h refl
causes_same false false far false other answer e h = ap (λ b. cond b (Refused OutOfWindow) other) e

pub answers_agree : AnswersAgree
answers_agree g E s i cells are =
    causes_same (leb i (last_of g E)) (ltb (now_of g E + g.ahead) i) (not (list_all (is_near g.window i) (held_instants g E))) (is_near_all (content_of g E) i)
    (again_answer (take_of g E s i) (list_any (λ (part : ℕ × CellView). is_other (cell_of E s part.0 i) part.1) cells))
    (answer_at (row_at i (content_of g E).open_rows) s (lane_of (content_of g E) s) cells)
    (ap not (near_same g E i))
    (λ late. answer_same g E s i cells (is_in i (open_instants g E)) are (leb-false i (last_of g E) late) refl
    ∙ ap (λ row. told_by (answer_at row s (lane_of (content_of g E) s) cells)) (sym (row_at_open g E i (open_instants g E))))

-- ---- a take is a take

same_instant : (i j quality other : ℕ) (payload more : List ℕ) → Data i quality payload ≡ Data j other more → i ≡ j
same_instant i j quality other payload more e = cc

module _ (R : RisingLaws) (stand : BlocksStandInTheirColumns) (in_time : TakenIsInTime) where
  open_rise : (g : Given) (E : List Entry) → Rises (last_of g E) (open_instants g E)
  open_rise g E =
      R.rises_rising (last_of g E) (filter (λ i. ltb (last_of g E) i) (map (λ (t : Take). t.instant) (takes E)))
      (R.above_filter (last_of g E) (map (λ (t : Take). t.instant) (takes E)))

  pub take_is_take : TakeIsTake
  take_is_take g E s i quality bytes payload cells run =
      let sound : IsInTime g E s (Data i quality payload) (record { outcome = Taken; cells = cells }) = run.sound.0.taken refl in
      let same : i ≡ sound.instant = same_instant i sound.instant quality sound.quality payload sound.payload sound.said in
      let outcome : outcome_in_time g E s sound.instant cells ≡ Taken = sym (ap (λ (a : Answer). a.outcome) sound.in_time) in
      let comes : ComesInTime g E s i = (in_time g E s i cells).0 (subst (λ j. outcome_in_time g E s j cells ≡ Taken) (sym same) outcome) in
      let kept : List ℕ = filter (λ j. ltb (last_of g E) j) (map (λ (t : Take). t.instant) (takes E)) in
      let after : ℕ → OpenRowView = open_row_of g (taken_entry s i quality bytes payload cells ∷ E) in
      ap (λ rows. record (content_of g E) { open_rows = rows })
      (ap (λ b. map after (rising (cond b (i ∷ kept) kept))) (lt-ltb (last_of g E) i comes.later)
      ∙ rows_placed g E after (with_frame s (lane_of (content_of g E) s) cells) (stream_count g.columns g.lanes) g.columns i (last_of g E) (open_instants g E)
      (λ j n. other_row g E s i quality bytes payload cells j n)
      (own_row stand g E s i quality bytes payload cells (stream_is g s run.sound.0.stream) (own_columns 0 cells sound.columns.rise) sound.own comes.first)
      (open_rise g E)
      (λ none. row_is_fresh g E i (sym (open_is_taken g E i comes.later) ∙ none)))

-- ---- all else leaves the table as it was

-- the content, with these takes more
abbrev content_with : Given → List Entry → List Take → Content
content_with g E ts = record (content_of g E) {
  open_rows = map (λ i. record {
    instant = i;
    age = counter (age_of E i);
    taken = map (λ s. is_some (find (is_take_of s i) (cond (eqb g.lanes 1) (ts ++ takes_since_adopted E s) (ts ++ takes E)))) (streams_of g);
    columns = map (λ c. record {
      first = given.cell_in c (find (is_take_of (cond (eqb g.lanes 1) c 0) i) (ts ++ takes_since_adopted E c));
      second = cond (eqb g.lanes 1) None (given.cell_in c (find (is_take_of 1 i) (ts ++ takes_since_adopted E c)));
    }) (columns_of g);
  }) (rising (filter (λ i. ltb (last_of g E) i) (map (λ (t : Take). t.instant) (ts ++ takes E))));
}

pub others_leave_it : OthersLeaveIt
others_leave_it g E (Arrive s bytes arrival answer) arrives h = ap (content_with g E) h
others_leave_it g E (Tick now counts answer) arrives h = absurd arrives
others_leave_it g E (Pop row) arrives h = absurd arrives
