-- Laws over whole lists of calls.
use Rattle.std.proofs.Common.{◌≡◌, ℕ, ◌+◌, ◌<◌, ◌≤◌, Bool, true, false, not, if◌then◌else◌, leb, List, [], ◌∷◌, ◌++◌, drop, refl, sym, ◌∙◌, ap, subst, arith, append_assoc, append-nil}
use Rattle.std.specs.List.{slice_get}
use Rattle.std.specs.Option.{option_to_list}
use Rattle.std.proofs.lemmas.List.{map-append}
use Rattle.std.proofs.lemmas.Bool.{false≢true, leb-false}
use Rattle.pdc_open_row.specs.pdc_row.CellView.{CellView}
use Rattle.pdc_open_row.specs.pdc_row.Quality.{greatest}
use Rattle.pdc_open_row.specs.pdc_row.Rising.{Rises, AreBelow}
use Rattle.pdc_open_row.specs.pdc_row.RowView.{RowView, row_instants}
use Rattle.pdc_open_row.specs.pdc_row.RisingLaws.{RisingLaws}
use Rattle.pdc_table.specs.Calls.{Call, Put, Require, Tick, DropStream, DropColumn, Pop, after, after_all, closed_at, closed_in, popped_at, popped_in}
use Rattle.pdc_table.specs.Content.{Content, lane_of}
use Rattle.pdc_table.specs.OpenInstants.{instants_of}
use Rattle.pdc_table.specs.Placing.{row_at}
use Rattle.pdc_table.specs.Steps.{after_put, after_take, closing_of, first_cause, fresh_row, is_near_all, put_answer, staying_of}
use Rattle.pdc_open_row.specs.Taking.{answer_at, is_taken, with_frame, without_column, without_stream}
use Rattle.pdc_open_row.specs.declared.outcome.PutOutcome.{PutOutcome}
use Rattle.pdc_open_row.specs.declared.outcome.PutOutcome.TheVariants.{Taken}
use Rattle.pdc_open_row.specs.declared.wait_rule.WaitRule.{WaitRule}
use Rattle.pdc_table.proofs.Keeps.{closed_stayed, instants-map, instants-row_of, instants-with_row}

-- the open instants rise above the last
abbrev pub IsAbove : Content → Type 0
IsAbove c = Rises c.last (instants_of c.open_rows)

taken_late : (late far : Bool) (other : PutOutcome) → is_taken (first_cause late far other) ≡ true → late ≡ false
taken_late true far other h = absurd (false≢true h)
taken_late false far other h = refl

-- what is taken is for an instant above the last
pub taken_above : (c : Content) (stream instant : ℕ) (cells : List (ℕ × CellView)) → is_taken (put_answer c stream instant cells) ≡ true → c.last < instant
taken_above c stream instant cells h =
    leb-false instant c.last (taken_late (leb instant c.last) (not (is_near_all c instant)) (answer_at (row_at instant c.open_rows) stream (lane_of c stream) cells) h)

either_last : (c d : Content) (b : Bool) → d.last ≡ c.last → (if b then d else c).last ≡ c.last
either_last c d true e = e
either_last c d false e = refl

either_closed : (c d : Content) (b : Bool) → d.closed ≡ c.closed → (if b then d else c).closed ≡ c.closed
either_closed c d true e = e
either_closed c d false e = refl

either_above : (c d : Content) (b : Bool) → (b ≡ true → IsAbove d) → IsAbove c → IsAbove (if b then d else c)
either_above c d true h a = h refl
either_above c d false h a = a

pub put_last : (c : Content) (stream instant : ℕ) (cells : List (ℕ × CellView)) → (after_put c stream instant cells).last ≡ c.last
put_last c stream instant cells = either_last c (after_take c stream instant cells) (is_taken (put_answer c stream instant cells)) refl

put_closed : (c : Content) (stream instant : ℕ) (cells : List (ℕ × CellView)) → (after_put c stream instant cells).closed ≡ c.closed
put_closed c stream instant cells = either_closed c (after_take c stream instant cells) (is_taken (put_answer c stream instant cells)) refl

instants-append : (xs ys : List RowView) → row_instants (xs ++ ys) ≡ row_instants xs ++ row_instants ys
instants-append xs ys = map-append (λ (r : RowView). r.instant) xs ys

first_rest : (all : List RowView) → option_to_list (slice_get all 0) ++ drop 1 all ≡ all
first_rest [] = refl
first_rest (x ∷ xs) = refl

-- what a call pops and what waits after it is what waited and what it closed
popped_step : (c : Content) (call : Call) → popped_at c call ++ (after c call).closed ≡ c.closed ++ closed_at c call
popped_step c (Put stream instant cells) = put_closed c stream instant cells ∙ sym (append-nil c.closed)
popped_step c (Require stream is_required) = sym (append-nil c.closed)
popped_step c (Tick rule layout) = refl
popped_step c (DropStream stream) = sym (append-nil c.closed)
popped_step c (DropColumn column) = sym (append-nil c.closed)
popped_step c Pop = first_rest c.closed ∙ sym (append-nil c.closed)

pub popped_once : (c : Content) (calls : List Call) → popped_in c calls ++ (after_all c calls).closed ≡ c.closed ++ closed_in c calls
popped_once c [] = sym (append-nil c.closed)
popped_once c (call ∷ calls) =
    let d : Content = after_all c calls in
    append_assoc (popped_in c calls) (popped_at d call) (after d call).closed
    ∙ ap (λ rows. popped_in c calls ++ rows) (popped_step d call)
    ∙ sym (append_assoc (popped_in c calls) d.closed (closed_at d call))
    ∙ ap (λ rows. rows ++ closed_at d call) (popped_once c calls)
    ∙ append_assoc c.closed (closed_in c calls) (closed_at d call)

-- ---- what follows from the laws of rising numbers

module _ (R : RisingLaws) where
  above_taken : (c : Content) (stream instant : ℕ) (cells : List (ℕ × CellView)) → IsAbove c → c.last < instant → IsAbove (after_take c stream instant cells)
  above_taken c stream instant cells a h =
      rw (instants-with_row R (with_frame stream (lane_of c stream) cells) (fresh_row c instant) (λ r. refl) c.open_rows)
      (R.rises_place c.last instant (instants_of c.open_rows) a h)

  above_tick : (c : Content) (rule : WaitRule) → IsAbove c → Rises (greatest c.last (instants_of (closing_of c rule))) (instants_of (staying_of c rule))
  above_tick c rule a =
      R.rises_back c.last (instants_of (closing_of c rule)) (instants_of (staying_of c rule))
      (subst (λ ns. Rises c.last ns) (sym (closed_stayed c rule a)) a)

  above_after : (c : Content) (call : Call) → IsAbove c → IsAbove (after c call)
  above_after c (Put stream instant cells) a =
      either_above c (after_take c stream instant cells) (is_taken (put_answer c stream instant cells))
      (λ h. above_taken c stream instant cells a (taken_above c stream instant cells h)) a
  above_after c (Require stream is_required) a = a
  above_after c (Tick rule layout) a = above_tick c rule a
  above_after c (DropStream stream) a = rw (instants-map (without_stream c.lanes stream) (λ r. refl) c.open_rows) a
  above_after c (DropColumn column) a = rw (instants-map (without_column column) (λ r. refl) c.open_rows) a
  above_after c Pop a = a

  pub above_all : (c : Content) (calls : List Call) → IsAbove c → IsAbove (after_all c calls)
  above_all c [] a = a
  above_all c (call ∷ calls) a = above_after (after_all c calls) call (above_all c calls a)

  -- the instants that close at a call rise above the last before, up to the last after
  closing_rise : (c : Content) (call : Call) → IsAbove c → Rises c.last (row_instants (closed_at c call))
  closing_rise c (Put stream instant cells) a = tt
  closing_rise c (Require stream is_required) a = tt
  closing_rise c (Tick rule layout) a =
      rw (instants-row_of layout (closing_of c rule))
      (R.rises_front c.last (instants_of (closing_of c rule)) (instants_of (staying_of c rule))
      (subst (λ ns. Rises c.last ns) (sym (closed_stayed c rule a)) a))
  closing_rise c (DropStream stream) a = tt
  closing_rise c (DropColumn column) a = tt
  closing_rise c Pop a = tt

  closing_below : (c : Content) (call : Call) → AreBelow ((after c call).last + 1) (row_instants (closed_at c call))
  closing_below c (Put stream instant cells) = tt
  closing_below c (Require stream is_required) = tt
  closing_below c (Tick rule layout) =
      rw (instants-row_of layout (closing_of c rule)) (R.below_greatest c.last (instants_of (closing_of c rule)))
  closing_below c (DropStream stream) = tt
  closing_below c (DropColumn column) = tt
  closing_below c Pop = tt

  -- the last never falls
  pub last_step : (c : Content) (call : Call) → c.last ≤ (after c call).last
  last_step c (Put stream instant cells) = omega (arith, put_last c stream instant cells)
  last_step c (Require stream is_required) = omega arith
  last_step c (Tick rule layout) = R.greatest_ge c.last (instants_of (closing_of c rule))
  last_step c (DropStream stream) = omega arith
  last_step c (DropColumn column) = omega arith
  last_step c Pop = omega arith

  last_grows : (c : Content) (calls : List Call) → c.last ≤ (after_all c calls).last
  last_grows c [] = omega arith
  last_grows c (call ∷ calls) = omega (arith, last_grows c calls, last_step (after_all c calls) call)

  -- what closed is at most the last
  pub closed_below : (c : Content) (calls : List Call) → AreBelow ((after_all c calls).last + 1) (row_instants (closed_in c calls))
  closed_below c [] = tt
  closed_below c (call ∷ calls) =
      let d : Content = after_all c calls in
      let grown : d.last ≤ (after d call).last = last_step d call in
      subst (λ ms. AreBelow ((after d call).last + 1) ms) (sym (instants-append (closed_in c calls) (closed_at d call)))
      (R.below_append ((after d call).last + 1) (row_instants (closed_in c calls)) (row_instants (closed_at d call))
      (R.below_higher (d.last + 1) ((after d call).last + 1) (row_instants (closed_in c calls)) (omega arith) (closed_below c calls))
      (closing_below d call))

  pub closed_rise : (c : Content) (calls : List Call) → IsAbove c → Rises c.last (row_instants (closed_in c calls))
  closed_rise c [] a = tt
  closed_rise c (call ∷ calls) a =
      let d : Content = after_all c calls in
      subst (λ ms. Rises c.last ms) (sym (instants-append (closed_in c calls) (closed_at d call)))
      (R.rises_append c.last d.last (row_instants (closed_in c calls)) (row_instants (closed_at d call)) (last_grows c calls)
      (closed_rise c calls a) (closed_below c calls) (closing_rise d call (above_all c calls a)))

  pub popped_rise : (c : Content) (calls : List Call) → IsAbove c → c.closed ≡ [] → Rises c.last (row_instants (popped_in c calls))
  popped_rise c calls a e =
      let all : popped_in c calls ++ (after_all c calls).closed ≡ closed_in c calls = popped_once c calls ∙ ap (λ rows. rows ++ closed_in c calls) e in
      let rise : Rises c.last (row_instants (popped_in c calls ++ (after_all c calls).closed)) = subst (λ rows. Rises c.last (row_instants rows)) (sym all) (closed_rise c calls a) in
      R.rises_front c.last (row_instants (popped_in c calls)) (row_instants (after_all c calls).closed)
      (subst (λ ms. Rises c.last ms) (instants-append (popped_in c calls) (after_all c calls).closed) rise)

  -- what is taken after calls is above each instant that closed, and above the last before them
  pub taken_above_all : (c : Content) (calls : List Call) (stream instant : ℕ) (cells : List (ℕ × CellView)) → put_answer (after_all c calls) stream instant cells ≡ Taken → (c.last < instant) × AreBelow instant (row_instants (closed_in c calls))
  taken_above_all c calls stream instant cells e =
      let h : (after_all c calls).last < instant = taken_above (after_all c calls) stream instant cells (ap is_taken e) in
      let g : c.last ≤ (after_all c calls).last = last_grows c calls in
      (omega arith, R.below_higher ((after_all c calls).last + 1) instant (row_instants (closed_in c calls)) (omega arith) (closed_below c calls))
