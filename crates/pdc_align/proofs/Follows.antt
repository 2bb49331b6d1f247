-- What an alignment keeps follows the life, step by step.
use Rattle.std.proofs.Common.{◌≡◌, ℕ, ◌+◌, ◌-◌, ◌<◌, Bool, true, false, cond, eqb, leb, List, [], ◌∷◌, ◌++◌, filter, get_or, length, map, replicate, set, length-set, refl, sym, ◌∙◌, ap, subst, arith, zero, suc, Option}
use Rattle.std.specs.List.{flat_map, range_with_len}
use Rattle.std.proofs.lemmas.Bool.{eqb-false, eqb-true, false≢true, ne_eqb}
use Rattle.std.proofs.lemmas.List.{ext_get_or, get_or-set_other, get_or-set_same}
use Rattle.std.proofs.lemmas.Simd.{map-map}
use Rattle.std.proofs.lemmas.List.FromFn.{get_or-map-range_with_len, length-map-range_with_len}
use Rattle.pdc_arrival.specs.pdc_cfg.Section.{SectionFields}
use Rattle.pdc_arrival.specs.pdc_row.declared.output.Output.{Output}
use Rattle.pdc_arrival.specs.pdc_row.CellView.{CellView}
use Rattle.pdc_arrival.specs.pdc_row.Rising.{Rises}
use Rattle.pdc_table.specs.Content.{IsPut}
use Rattle.pdc_table.specs.Steps.{after_take}
use Rattle.pdc_arrival.specs.pdc_life.declared.outcome.Outcome.{Outcome}
use Rattle.pdc_arrival.specs.pdc_life.declared.outcome.Outcome.TheVariants.{Candidate, Known, Refused, Taken}
use Rattle.pdc_arrival.specs.pdc_life.Answer.{greatest_count, outcome_in_time, pop_answer, waiting_counts, with_cells}
use Rattle.pdc_arrival.specs.pdc_life.Arrival.{BytesRefused, Data, Layout, Stamp}
use Rattle.pdc_arrival.specs.pdc_life.Given.{Given, columns_of, count_for}
use Rattle.pdc_arrival.specs.pdc_life.Life.{Answer, Arrive, Entry, Pop, changes, cleared_count, first_greatest, greater, is_of_column, is_candidate, is_taken, section_in_force, sections_at}
use Rattle.pdc_arrival.specs.pdc_life.Run.{IsRun}
use Rattle.pdc_align.specs.Follows.{AnswersAgree, OthersLeaveIt, TakeIsTake}
use Rattle.pdc_align.specs.State.{content_of, row_layout_of, shape_in}
use Rattle.pdc_align.specs.Align.{HasSizes, State, LeavesIt, ColumnState, StandsFor, align_of, is_left, column_state_of, given_by}
use Rattle.pdc_align.specs.Calls.{after_data, after_hold, after_pop_of, first_of_plan, new_column, no_column, put_outcome, row_layout_in, waiting_in, with_section, with_sections}
use Rattle.pdc_align.specs.declared.plan.Plan.{Plan}

-- ---- the start

falses : (start n : ℕ) → replicate n false ≡ map (λ (s : ℕ). false) (range_with_len start n)
falses start zero = refl
falses start (suc n) = ap (λ bs. false ∷ bs) (falses (start + 1) n)

first_required : (one : Bool) (columns : ℕ) → cond one (replicate columns false) (true ∷ true ∷ []) ≡ map (λ (s : ℕ). cond one false true) (range_with_len 0 (cond one columns 2))
first_required true columns = falses 0 columns
first_required false columns = refl

pub begins : (plan : Plan) (output : Output) (start floor : ℕ) (counts : List ℕ) (opening : ℕ) (a : State)
    → a ≡ first_of_plan plan start floor counts opening → StandsFor (given_by plan output start floor counts opening) [] a
begins plan output start floor counts opening a e = record {
  run = record { ticked = tt; sound = tt };
  same = e ∙ ap (λ bs. record (first_of_plan plan start floor counts opening) { content = record ((first_of_plan plan start floor counts opening).content) { required = bs } })
      (first_required (eqb plan.lanes 1) plan.columns);
}

pub first_sizes : (plan : Plan) (start floor : ℕ) (counts : List ℕ) (opening : ℕ) (a : State) → a ≡ first_of_plan plan start floor counts opening → HasSizes plan.columns plan.lanes a
first_sizes plan start floor counts opening a e = record {
  column_count = ap (λ (b : State). b.content.columns) e;
  lane_count = ap (λ (b : State). b.content.lanes) e;
  each_column = ap (λ (b : State). length b.columns) e ∙ length-map-range_with_len (new_column counts) 0 plan.columns;
}

-- ---- data

module _ (agree : AnswersAgree) where
  pub data_answer : (g : Given) (E : List Entry) (a : State) (s i : ℕ) (cells : List (ℕ × CellView)) → IsPut a.content s cells → StandsFor g E a
      → put_outcome a s i cells ≡ outcome_in_time g E s i cells
  data_answer g E a s i cells p stands =
      ap (λ b. put_outcome b s i cells) stands.same
      ∙ sym (agree g E s i cells (subst (λ (b : State). IsPut b.content s cells) stands.same p))

module _ (take : TakeIsTake) (others : OthersLeaveIt) where
  data_state : (g : Given) (E : List Entry) (s i quality : ℕ) (bytes payload : List ℕ) (cells : List (ℕ × CellView)) (o : Outcome)
      → IsRun g (Arrive s bytes (Data i quality payload) (with_cells o cells) ∷ E)
      → cond (is_taken o) (record (align_of g E) { content = after_take (content_of g E) s i cells }) (align_of g E)
      ≡ align_of g (Arrive s bytes (Data i quality payload) (with_cells o cells) ∷ E)
  data_state g E s i quality bytes payload cells Taken run = ap (λ c. record (align_of g E) { content = c }) (sym (take g E s i quality bytes payload cells run))
  data_state g E s i quality bytes payload cells Candidate run =
      ap (λ c. record (align_of g E) { content = c }) (sym (others g E (Arrive s bytes (Data i quality payload) (with_cells Candidate cells)) tt refl))
  data_state g E s i quality bytes payload cells Known run =
      ap (λ c. record (align_of g E) { content = c }) (sym (others g E (Arrive s bytes (Data i quality payload) (with_cells Known cells)) tt refl))
  data_state g E s i quality bytes payload cells (Refused r) run =
      ap (λ c. record (align_of g E) { content = c }) (sym (others g E (Arrive s bytes (Data i quality payload) (with_cells (Refused r) cells)) tt refl))

  pub data_follows : (g : Given) (E : List Entry) (a b : State) (s i quality : ℕ) (bytes payload : List ℕ) (cells : List (ℕ × CellView)) (o : Outcome)
      → o ≡ put_outcome a s i cells → b ≡ after_data a s i cells → StandsFor g E a
      → IsRun g (Arrive s bytes (Data i quality payload) (with_cells o cells) ∷ E)
      → StandsFor g (Arrive s bytes (Data i quality payload) (with_cells o cells) ∷ E) b
  data_follows g E a b s i quality bytes payload cells o answer e stands run = record {
    run = run;
    same = e ∙ ap (λ p. cond (is_taken p) (record a { content = after_take a.content s i cells }) a) (sym answer)
        ∙ ap (λ (c : State). cond (is_taken o) (record c { content = after_take c.content s i cells }) c) stands.same
        ∙ data_state g E s i quality bytes payload cells o run;
  }

-- ---- layouts

-- the column after these sections, the first of them first
abbrev kept : List (ℕ × SectionFields) → ColumnState → ColumnState
kept [] column = column
kept (part ∷ parts) column = kept parts (with_section part.1 column)

length-with_sections : (parts : List (ℕ × SectionFields)) (columns : List ColumnState) → length (with_sections parts columns) ≡ length columns
length-with_sections [] columns = refl
length-with_sections (part ∷ parts) columns =
    length-with_sections parts (set columns part.0 (with_section part.1 (get_or columns part.0 no_column)))
    ∙ length-set columns part.0 (with_section part.1 (get_or columns part.0 no_column))

kept_first : (c : ℕ) (part : ℕ × SectionFields) (parts : List (ℕ × SectionFields)) (columns : List ColumnState) (b : Bool) → eqb part.0 c ≡ b → c < length columns
    → kept (filter (is_of_column c) parts) (get_or (set columns part.0 (with_section part.1 (get_or columns part.0 no_column))) c no_column)
    ≡ kept (cond b (part ∷ filter (is_of_column c) parts) (filter (is_of_column c) parts)) (get_or columns c no_column)
kept_first c part parts columns true e l =
    let same : part.0 ≡ c = eqb-true part.0 c e in
    ap (λ j. kept (filter (is_of_column c) parts) (get_or (set columns j (with_section part.1 (get_or columns j no_column))) c no_column)) same
    ∙ ap (kept (filter (is_of_column c) parts)) (get_or-set_same columns c (with_section part.1 (get_or columns c no_column)) no_column l)
kept_first c part parts columns false e l =
    ap (kept (filter (is_of_column c) parts))
    (get_or-set_other columns part.0 c (with_section part.1 (get_or columns part.0 no_column)) no_column (λ q. eqb-false part.0 c e (sym q)))

stands_kept : (c : ℕ) (parts : List (ℕ × SectionFields)) (columns : List ColumnState) → c < length columns
    → get_or (with_sections parts columns) c no_column ≡ kept (filter (is_of_column c) parts) (get_or columns c no_column)
stands_kept c [] columns l = refl
stands_kept c (part ∷ parts) columns l =
    let next : List ColumnState = set columns part.0 (with_section part.1 (get_or columns part.0 no_column)) in
    stands_kept c parts next (omega (arith, l, length-set columns part.0 (with_section part.1 (get_or columns part.0 no_column))))
    ∙ kept_first c part parts columns (eqb part.0 c) refl l

-- rising columns have one section each at most
abbrev IsOneAtMost : List (ℕ × SectionFields) → Type 0
IsOneAtMost [] = Unit {0}
IsOneAtMost (part ∷ []) = Unit {0}
IsOneAtMost (part ∷ other ∷ parts) = ⊥

none_above : (c low : ℕ) (parts : List (ℕ × SectionFields)) → c < low → Rises low (map (λ (part : ℕ × SectionFields). part.0 + 1) parts) → filter (is_of_column c) parts ≡ []
none_above c low [] l r = refl
none_above c low (part ∷ parts) l r =
    ap (λ b. cond b (part ∷ filter (is_of_column c) parts) (filter (is_of_column c) parts)) (ne_eqb part.0 c (λ q. omega (arith, l, r.0, q)))
    ∙ none_above c (part.0 + 1) parts (omega (arith, l, r.0)) r.1

one_first : (c : ℕ) (part : ℕ × SectionFields) (parts : List (ℕ × SectionFields)) (b : Bool) → (b ≡ true → filter (is_of_column c) parts ≡ [])
    → IsOneAtMost (filter (is_of_column c) parts) → IsOneAtMost (cond b (part ∷ filter (is_of_column c) parts) (filter (is_of_column c) parts))
one_first c part parts true none h = subst (λ ps. IsOneAtMost (part ∷ ps)) (sym (none refl)) tt
one_first c part parts false none h = h

one_at_most : (c low : ℕ) (parts : List (ℕ × SectionFields)) → Rises low (map (λ (part : ℕ × SectionFields). part.0 + 1) parts) → IsOneAtMost (filter (is_of_column c) parts)
one_at_most c low [] r = tt
one_at_most c low (part ∷ parts) r =
    one_first c part parts (eqb part.0 c)
    (λ e. none_above c (part.0 + 1) parts (omega (arith, eqb-true part.0 c e)) r.1)
    (one_at_most c (part.0 + 1) parts r.1)

-- what is held after one section more
abbrev column_with : (opening cleared : ℕ) → (held in_force : Option SectionFields) → ColumnState
column_with opening cleared held in_force = record { opening = opening; cleared = cleared; held = held; in_force = in_force }

held_more : (opening cleared : ℕ) (s : SectionFields) (older : List SectionFields) (in_force : Option SectionFields) (b : Bool)
    → cond b (column_with opening cleared (greater (first_greatest older) s) in_force) (column_with opening cleared (first_greatest older) in_force)
    ≡ column_with opening cleared (first_greatest (cond b (s ∷ older) older)) in_force
held_more opening cleared s older in_force true = refl
held_more opening cleared s older in_force false = refl

kept_held : (opening cleared : ℕ) (in_force : Option SectionFields) (older : List SectionFields) (parts : List (ℕ × SectionFields)) → IsOneAtMost parts
    → kept parts (column_with opening cleared (first_greatest (filter (λ (s : SectionFields). leb opening s.count) older)) in_force)
    ≡ column_with opening cleared (first_greatest (filter (λ (s : SectionFields). leb opening s.count) (map (λ (part : ℕ × SectionFields). part.1) parts ++ older))) in_force
kept_held opening cleared in_force older [] h = refl
kept_held opening cleared in_force older (part ∷ []) h =
    held_more opening cleared part.1 (filter (λ (s : SectionFields). leb opening s.count) older) in_force (leb opening part.1.count)
kept_held opening cleared in_force older (part ∷ other ∷ parts) h = absurd h

layout_column : (g : Given) (E : List Entry) (s c : ℕ) (bytes : List ℕ) (stamp : Option Stamp) (parts : List (ℕ × SectionFields))
    → IsOneAtMost (filter (is_of_column c) parts)
    → kept (filter (is_of_column c) parts) (column_state_of g E c)
    ≡ column_state_of g (Arrive s bytes (Layout stamp parts) (record { outcome = Candidate; cells = [] }) ∷ E) c
layout_column g E s c bytes stamp parts h =
    kept_held (count_for c g.counts) (cleared_count g E c) (section_in_force g E c) (flat_map (sections_at c) E) (filter (is_of_column c) parts) h

layout_columns : (g : Given) (E : List Entry) (s : ℕ) (bytes : List ℕ) (stamp : Option Stamp) (parts : List (ℕ × SectionFields))
    → Rises 0 (map (λ (part : ℕ × SectionFields). part.0 + 1) parts)
    → with_sections parts (map (column_state_of g E) (columns_of g))
    ≡ map (column_state_of g (Arrive s bytes (Layout stamp parts) (record { outcome = Candidate; cells = [] }) ∷ E)) (columns_of g)
layout_columns g E s bytes stamp parts r =
    let before : List ColumnState = map (column_state_of g E) (columns_of g) in
    let new : ℕ → ColumnState = column_state_of g (Arrive s bytes (Layout stamp parts) (record { outcome = Candidate; cells = [] }) ∷ E) in
    let m : length before ≡ g.columns = length-map-range_with_len (column_state_of g E) 0 g.columns in
    let m' : length (map new (columns_of g)) ≡ g.columns = length-map-range_with_len new 0 g.columns in
    let n : length (with_sections parts before) ≡ g.columns = length-with_sections parts before ∙ m in
    ext_get_or no_column (with_sections parts before) (map new (columns_of g)) (n ∙ sym m')
    (λ c l. stands_kept c parts before (omega (arith, l, m, n))
    ∙ ap (kept (filter (is_of_column c) parts)) (get_or-map-range_with_len (column_state_of g E) 0 g.columns c c no_column (omega (arith, l, n)) (omega arith))
    ∙ layout_column g E s c bytes stamp parts (one_at_most c 0 parts r)
    ∙ sym (get_or-map-range_with_len new 0 g.columns c c no_column (omega (arith, l, n)) (omega arith)))

not_taken : (o : Outcome) → is_left o ≡ true → is_taken o ≡ false
not_taken Taken h = absurd (false≢true h)
not_taken Candidate h = refl
not_taken Known h = refl
not_taken (Refused r) h = refl

not_candidate : (o : Outcome) → is_left o ≡ true → is_candidate o ≡ false
not_candidate Taken h = refl
not_candidate Candidate h = absurd (false≢true h)
not_candidate Known h = refl
not_candidate (Refused r) h = refl

-- what is kept after a layout, where it is a candidate, and where not
abbrev columns_if : Given → List Entry → (s : ℕ) → (bytes : List ℕ) → Option Stamp → List (ℕ × SectionFields) → Answer → Bool → State
columns_if g E s bytes stamp sections answer b = record (align_of g (Arrive s bytes (Layout stamp sections) answer ∷ E)) {
  columns = map (λ c. column_with (count_for c g.counts) (cleared_count g E c)
      (first_greatest (filter (λ (t : SectionFields). leb (count_for c g.counts) t.count)
      (cond b (map (λ (part : ℕ × SectionFields). part.1) (filter (is_of_column c) sections)) [] ++ flat_map (sections_at c) E)))
      (section_in_force g E c)) (columns_of g);
}

module _ (others : OthersLeaveIt) where
  pub layout_follows : (g : Given) (E : List Entry) (a b : State) (s : ℕ) (bytes : List ℕ) (stamp : Option Stamp) (parts : List (ℕ × SectionFields))
      → b ≡ after_hold a parts → StandsFor g E a → IsRun g (Arrive s bytes (Layout stamp parts) (record { outcome = Candidate; cells = [] }) ∷ E)
      → StandsFor g (Arrive s bytes (Layout stamp parts) (record { outcome = Candidate; cells = [] }) ∷ E) b
  layout_follows g E a b s bytes stamp parts e stands run = record {
    run = run;
    same = e ∙ ap (λ (c : State). after_hold c parts) stands.same
        ∙ ap (λ cs. record (align_of g E) { columns = cs }) (layout_columns g E s bytes stamp parts run.sound.0.columns.rise)
        ∙ ap (λ t. record (align_of g (Arrive s bytes (Layout stamp parts) (record { outcome = Candidate; cells = [] }) ∷ E)) { content = t })
        (sym (others g E (Arrive s bytes (Layout stamp parts) (record { outcome = Candidate; cells = [] })) tt refl));
  }

  -- whatever else arrives leaves it as it is
  pub left : LeavesIt
  left g E a s bytes (BytesRefused r) answer stands refused run = record {
    run = run;
    same = stands.same ∙ ap (λ c. record (align_of g E) { content = c }) (sym (others g E (Arrive s bytes (BytesRefused r) answer) tt refl));
  }
  left g E a s bytes (Data i quality payload) answer stands refused run = record {
    run = run;
    same = stands.same
        ∙ ap (λ c. record (align_of g E) { content = c })
        (sym (others g E (Arrive s bytes (Data i quality payload) answer) tt
        (ap (λ b. cond b (record { stream = s; instant = i; cells = answer.cells } ∷ []) []) (not_taken answer.outcome refused))));
  }
  left g E a s bytes (Layout stamp sections) answer stands refused run = record {
    run = run;
    same = stands.same
        ∙ ap (λ c. record (align_of g E) { content = c }) (sym (others g E (Arrive s bytes (Layout stamp sections) answer) tt refl))
        ∙ ap (columns_if g E s bytes stamp sections answer) (sym (not_candidate answer.outcome refused));
  }

-- ---- pops, and what is asked

pub pop_follows : (g : Given) (E : List Entry) (a b : State) → b ≡ after_pop_of a → StandsFor g E a → StandsFor g (Pop (pop_answer E) ∷ E) b
pop_follows g E a b e stands = record {
  run = record { ticked = (refl, stands.run.ticked); sound = stands.run.sound };
  same = e ∙ ap after_pop_of stands.same;
}

pub layout_same : (g : Given) (E : List Entry) (a : State) → StandsFor g E a → row_layout_in a ≡ row_layout_of g E
layout_same g E a stands =
    ap row_layout_in stands.same
    ∙ ap (λ shapes. record { start = g.start; change = changes E; shapes = shapes })
    (map-map (λ (column : ColumnState). shape_in column.in_force) (column_state_of g E) (columns_of g))

pub waiting_same : (g : Given) (E : List Entry) (a : State) → StandsFor g E a → waiting_in a ≡ waiting_counts g E
waiting_same g E a stands =
    ap waiting_in stands.same
    ∙ ap (λ n. map (λ (column : ColumnState). greatest_count column.cleared column.held) (map (column_state_of g E) (columns_of g)) ++ replicate (16 - n) 0)
    (length-map-range_with_len (column_state_of g E) 0 g.columns)
    ∙ ap (λ counts. counts ++ replicate (16 - g.columns) 0)
    (map-map (λ (column : ColumnState). greatest_count column.cleared column.held) (column_state_of g E) (columns_of g))

-- what is kept of one column
pub column_at : (g : Given) (E : List Entry) (a : State) (c : ℕ) (d : ColumnState) → StandsFor g E a → c < length a.columns
    → get_or a.columns c d ≡ column_state_of g E c
column_at g E a c d stands l =
    let m : length a.columns ≡ g.columns = ap (λ (b : State). length b.columns) stands.same ∙ length-map-range_with_len (column_state_of g E) 0 g.columns in
    ap (λ (b : State). get_or b.columns c d) stands.same
    ∙ get_or-map-range_with_len (column_state_of g E) 0 g.columns c c d (omega (arith, l, m)) (omega arith)
