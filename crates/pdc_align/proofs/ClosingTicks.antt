-- A tick of a concentrator is a tick of its table, and then the adoptions.
use Rattle.std.proofs.Common.{◌≡◌, ℕ, ◌+◌, ◌^◌, ◌<◌, ◌==◌, Bool, true, false, not, cond, if◌then◌else◌, max, List, [], ◌∷◌, ◌++◌, map, filter, refl, sym, ap, ◌∙◌, arith, inl, inr, Option, Some, None}
use Rattle.std.specs.Prelude.{is_some, nat_lt}
use Rattle.std.specs.List.{AllByRecursion, find, list_any}
use Rattle.std.proofs.lemmas.Bool.{cases_Bool, eq-eqb, eqb-true, false≢true, or_cases, or_left, or_right}
use Rattle.pdc_arrival.specs.pdc_cfg.Section.{SectionFields}
use Rattle.pdc_arrival.specs.pdc_row.CellView.{CellView}
use Rattle.pdc_arrival.specs.pdc_row.Quality.{greatest}
use Rattle.pdc_arrival.specs.pdc_row.Rising.{Rises, rising}
use Rattle.pdc_arrival.specs.pdc_row.RisingLaws.{RisingLaws}
use Rattle.pdc_arrival.specs.pdc_row.RowView.{RowView, row_instants}
use Rattle.pdc_table.specs.Closing.{counter}
use Rattle.pdc_table.specs.Content.{Content}
use Rattle.pdc_table.specs.OpenInstants.{instants_of}
use Rattle.pdc_table.specs.Steps.{after_tick, closed_by, closing_of}
use Rattle.pdc_table.specs.pdc_columns.Views.{ColumnView, empty_column}
use Rattle.pdc_table.specs.pdc_open_row.Views.{OpenRowView}
use Rattle.pdc_arrival.specs.pdc_life.Answer.{has_change, is_ready, ready_columns, tick_answer}
use Rattle.pdc_arrival.specs.pdc_life.Given.{Given, columns_of, count_for}
use Rattle.pdc_arrival.specs.pdc_life.Life.{Entry, Take, Tick, TickAnswer, age_of, cell_in, cell_of, cleared_count, held_section, is_take_of, last_of, open_instants, section_in_force, take_of, takes, takes_since_adopted, waiting, was_taken}
use Rattle.pdc_arrival.specs.pdc_life.Row.{closing, is_due, is_required, row_of, rows_of}
use Rattle.pdc_align.specs.Follows.{TickIsTick}
use Rattle.pdc_align.specs.State.{after_adoptions, column_of, content_of, open_row_of, row_layout_of, rule_of}
use Rattle.pdc_align.proofs.Adoptions.{all_with_one_lane, all_with_two_lanes, content_same, content_with, row_same, row_with}
use Rattle.pdc_align.proofs.Front.{all_filter, all_rising, closes, stay_open}
use Rattle.pdc_align.proofs.Lists.{map_alike, set_all}
use Rattle.pdc_align.proofs.ClosingRows.{aged_row_of, closing_is, rows_are_those, staying_is}

-- ---- what a tick adopts is held

ready_is_held : (held in_force : Option SectionFields) (cleared : ℕ) → is_ready held in_force cleared ≡ true → is_some held ≡ true
ready_is_held None in_force cleared h = absurd (false≢true h)
ready_is_held (Some s) in_force cleared h = refl

-- what stands in a filtered list has passed
passed_kept : (p : ℕ → Bool) (b : Bool) (n m : ℕ) (ns : List ℕ) → p m ≡ b → (list_any (λ d. d == n) ns ≡ true → p n ≡ true) → list_any (λ d. d == n) (cond b (m ∷ ns) ns) ≡ true → p n ≡ true
passed_kept p true n m ns e k h = elim (or_cases (m == n) (list_any (λ d. d == n) ns) h) [
  | inl a ↦ ap p (sym (eqb-true m n a)) ∙ e
  | inr a ↦ k a
]
passed_kept p false n m ns e k h = k h

passed : (p : ℕ → Bool) (n : ℕ) (ns : List ℕ) → list_any (λ d. d == n) (filter p ns) ≡ true → p n ≡ true
passed p n [] h = absurd (false≢true h)
passed p n (m ∷ ns) h = passed_kept p (p m) n m (filter p ns) refl (passed p n ns) h

adopted_where : (b : Bool) (n : ℕ) (ns : List ℕ) → list_any (λ d. d == n) (if b then ns else []) ≡ true → list_any (λ d. d == n) ns ≡ true
adopted_where true n ns h = h
adopted_where false n ns h = absurd (false≢true h)

pub adopted_is_held : (g : Given) (E : List Entry) (now : ℕ) (counts : List ℕ) (n : ℕ) → list_any (λ d. d == n) (tick_answer g E now counts).adopted ≡ true → is_some (held_section g E n) ≡ true
adopted_is_held g E now counts n h =
    ready_is_held (held_section g E n) (section_in_force g E n) (max (cleared_count g E n) (count_for n counts))
    (passed (λ d. is_ready (held_section g E d) (section_in_force g E d) (max (cleared_count g E d) (count_for d counts))) n (columns_of g) (adopted_where (has_change E) n (ready_columns g E counts) h))

-- ---- the parts of the content after a tick

-- the streams waited for
required_chosen : (b : Bool) (held in_force : Option SectionFields) → (b ≡ true → is_some held ≡ true) → is_some (if b then held else in_force) ≡ (if b then true else is_some in_force)
required_chosen true held in_force h = h refl
required_chosen false held in_force h = refl

required_one : (g : Given) (E : List Entry) (now : ℕ) (counts : List ℕ) → (g.lanes == 1) ≡ true → (s : ℕ) → is_required g (Tick now counts (tick_answer g E now counts) ∷ E) s ≡ set_all (tick_answer g E now counts).adopted true (is_required g E) s
required_one g E now counts l s =
    ap (λ b. if b then is_some (section_in_force g (Tick now counts (tick_answer g E now counts) ∷ E) s) else true) l
    ∙ required_chosen (list_any (λ d. d == s) (tick_answer g E now counts).adopted) (held_section g E s) (section_in_force g E s) (adopted_is_held g E now counts s)
    ∙ ap (λ b. if list_any (λ d. d == s) (tick_answer g E now counts).adopted then true else (if b then is_some (section_in_force g E s) else true)) (sym l)

required_two : (g : Given) (E : List Entry) (e : Entry) → (g.lanes == 1) ≡ false → (s : ℕ) → is_required g (e ∷ E) s ≡ is_required g E s
required_two g E e l s =
    ap (λ b. if b then is_some (section_in_force g (e ∷ E) s) else true) l
    ∙ ap (λ b. if b then is_some (section_in_force g E s) else true) (sym l)

-- the streams taken
taken_chosen : (b : Bool) (s i : ℕ) (ts : List Take) → is_some (find (is_take_of s i) (if b then [] else ts)) ≡ (if b then false else is_some (find (is_take_of s i) ts))
taken_chosen true s i ts = refl
taken_chosen false s i ts = refl

taken_one : (g : Given) (E : List Entry) (now : ℕ) (counts : List ℕ) (answer : TickAnswer) → (g.lanes == 1) ≡ true → (i s : ℕ) → is_some (take_of g (Tick now counts answer ∷ E) s i) ≡ set_all answer.adopted false (λ n. is_some (take_of g E n i)) s
taken_one g E now counts answer l i s =
    ap (λ b. is_some (find (is_take_of s i) (if b then takes_since_adopted (Tick now counts answer ∷ E) s else takes (Tick now counts answer ∷ E)))) l
    ∙ taken_chosen (list_any (λ d. d == s) answer.adopted) s i (takes_since_adopted E s)
    ∙ ap (λ b. if list_any (λ d. d == s) answer.adopted then false else is_some (find (is_take_of s i) (if b then takes_since_adopted E s else takes E))) (sym l)

taken_two : (g : Given) (E : List Entry) (now : ℕ) (counts : List ℕ) (answer : TickAnswer) → (g.lanes == 1) ≡ false → (i s : ℕ) → is_some (take_of g (Tick now counts answer ∷ E) s i) ≡ is_some (take_of g E s i)
taken_two g E now counts answer l i s =
    ap (λ b. is_some (find (is_take_of s i) (if b then takes_since_adopted (Tick now counts answer ∷ E) s else takes (Tick now counts answer ∷ E)))) l
    ∙ ap (λ b. is_some (find (is_take_of s i) (if b then takes_since_adopted E s else takes E))) (sym l)

-- the columns
cell_chosen : (b : Bool) (s n i : ℕ) (ts : List Take) → cell_in n (find (is_take_of s i) (if b then [] else ts)) ≡ (if b then None else cell_in n (find (is_take_of s i) ts))
cell_chosen true s n i ts = refl
cell_chosen false s n i ts = refl

column_chosen : (b two : Bool) (first second : Option CellView) → record { first = if b then None else first; second = if two then None else (if b then None else second) } ≡ (if b then empty_column else record { first = first; second = if two then None else second })
column_chosen true true first second = refl
column_chosen true false first second = refl
column_chosen false two first second = refl

column_after : (g : Given) (E : List Entry) (now : ℕ) (counts : List ℕ) (answer : TickAnswer) (i n : ℕ) → column_of g (Tick now counts answer ∷ E) i n ≡ set_all answer.adopted empty_column (column_of g E i) n
column_after g E now counts answer i n =
    let b : Bool = list_any (λ d. d == n) answer.adopted in
    let lane : ℕ = if g.lanes == 1 then n else 0 in
    ap (λ (o : Option CellView). record { first = o; second = if g.lanes == 1 then None else cell_of (Tick now counts answer ∷ E) 1 n i }) (cell_chosen b lane n i (takes_since_adopted E n))
    ∙ ap (λ (o : Option CellView). record { first = if b then None else cell_of E lane n i; second = if g.lanes == 1 then None else o }) (cell_chosen b 1 n i (takes_since_adopted E n))
    ∙ column_chosen b (g.lanes == 1) (cell_of E lane n i) (cell_of E 1 n i)

-- ---- open instants were taken, and are a tick older

listed_was_taken : (P : ℕ → Type 0) (ts : List Take) → ((n : ℕ) → list_any (λ (t : Take). t.instant == n) ts ≡ true → P n) → AllByRecursion P (map (λ (t : Take). t.instant) ts)
listed_was_taken P [] h = tt
listed_was_taken P (t ∷ ts) h = (
  h t.instant (or_left (t.instant == t.instant) (list_any (λ (u : Take). u.instant == t.instant) ts) (eq-eqb t.instant t.instant refl)),
  listed_was_taken P ts (λ n e. h n (or_right (t.instant == n) (list_any (λ (u : Take). u.instant == n) ts) e)),
)

open_was_taken : (g : Given) (E : List Entry) → AllByRecursion (λ i. was_taken E i ≡ true) (open_instants g E)
open_was_taken g E =
    all_rising (λ i. was_taken E i ≡ true) (filter (λ i. nat_lt (last_of g E) i) (map (λ (t : Take). t.instant) (takes E)))
    (all_filter (λ i. was_taken E i ≡ true) (λ i. nat_lt (last_of g E) i) (map (λ (t : Take). t.instant) (takes E))
    (listed_was_taken (λ i. was_taken E i ≡ true) (takes E) (λ n e. e)))

older : (age : ℕ) → counter (age + 1) ≡ counter (counter age + 1)
older age = omega arith

age_after : (age : ℕ) (b : Bool) → b ≡ true → counter (if b then age + 1 else 0) ≡ counter (counter age + 1)
age_after age b h = ap (λ c. counter (if c then age + 1 else 0)) h ∙ older age

-- ---- the last one closed

instants_rows : (g : Given) (E : List Entry) (is : List ℕ) → row_instants (map (row_of g E) is) ≡ is
instants_rows g E [] = refl
instants_rows g E (i ∷ is) = ap (λ ns. i ∷ ns) (instants_rows g E is)

instants_aged : (g : Given) (E : List Entry) (is : List ℕ) → instants_of (map (aged_row_of g E) is) ≡ is
instants_aged g E [] = refl
instants_aged g E (i ∷ is) = ap (λ ns. i ∷ ns) (instants_aged g E is)

-- ---- the content after the tick, and the table after its own

-- the age of an open instant with this tick counted
abbrev age_with : List Entry → ℕ → ℕ
age_with E i = counter (counter (age_of E i) + 1)

abbrev last_after : Given → List Entry → ℕ → ℕ
last_after g E now = greatest (last_of g E) (closing g E now)

abbrev closed_after : Given → List Entry → ℕ → List RowView
closed_after g E now = waiting E ++ rows_of g E now

abbrev still_open : Given → List Entry → ℕ → List ℕ
still_open g E now = filter (λ i. not (closes (is_due g E now) (open_instants g E) i)) (open_instants g E)

table_after : (g : Given) (E : List Entry) (now : ℕ) → g.wait < 2 ^ 64 → after_tick (content_of g E) (rule_of g.wait_kind g.wait now) (row_layout_of g E) ≡ content_with g (last_after g E now) (closed_after g E now) (still_open g E now) (age_with E) (is_required g E) (λ i s. is_some (take_of g E s i)) (column_of g E)
table_after g E now h =
    ap (λ (os : List OpenRowView). record (content_of g E) { open_rows = os; closed = waiting E ++ closed_by (content_of g E) (rule_of g.wait_kind g.wait now) (row_layout_of g E); last = greatest (last_of g E) (instants_of (closing_of (content_of g E) (rule_of g.wait_kind g.wait now))) }) (staying_is g E now h)
    ∙ ap (λ (rows : List RowView). record (content_of g E) { open_rows = map (aged_row_of g E) (still_open g E now); closed = waiting E ++ rows; last = greatest (last_of g E) (instants_of (closing_of (content_of g E) (rule_of g.wait_kind g.wait now))) }) (rows_are_those g E now h)
    ∙ ap (λ (ns : List ℕ). record (content_of g E) { open_rows = map (aged_row_of g E) (still_open g E now); closed = closed_after g E now; last = greatest (last_of g E) ns }) (ap instants_of (closing_is g E now h) ∙ instants_aged g E (closing g E now))

module _ (R : RisingLaws) where
  open_rise : (g : Given) (E : List Entry) → Rises (last_of g E) (open_instants g E)
  open_rise g E = R.rises_rising (last_of g E) _ (R.above_filter (last_of g E) (map (λ (t : Take). t.instant) (takes E)))

  last_is : (g : Given) (E : List Entry) (now : ℕ) → greatest (last_of g E) (row_instants (rows_of g E now)) ≡ last_after g E now
  last_is g E now = ap (λ ns. greatest (last_of g E) ns) (instants_rows g E (closing g E now))

  open_after : (g : Given) (E : List Entry) (now : ℕ) (counts : List ℕ) → open_instants g (Tick now counts (tick_answer g E now counts) ∷ E) ≡ still_open g E now
  open_after g E now counts =
      ap (λ n. rising (filter (λ i. nat_lt n i) (map (λ (t : Take). t.instant) (takes E)))) (last_is g E now)
      ∙ stay_open R (is_due g E now) (last_of g E) (map (λ (t : Take). t.instant) (takes E)) (open_rise g E)

  rows_alike : (g : Given) (E : List Entry) (now : ℕ) (counts : List ℕ) (taken : ℕ → ℕ → Bool) (column : ℕ → ℕ → ColumnView) → ((i s : ℕ) → is_some (take_of g (Tick now counts (tick_answer g E now counts) ∷ E) s i) ≡ taken i s) → ((i n : ℕ) → column_of g (Tick now counts (tick_answer g E now counts) ∷ E) i n ≡ column i n) → (is : List ℕ) → AllByRecursion (λ i. was_taken E i ≡ true) is → AllByRecursion (λ i. open_row_of g (Tick now counts (tick_answer g E now counts) ∷ E) i ≡ row_with g (age_with E i) (taken i) (column i) i) is
  rows_alike g E now counts taken column t k [] a = tt
  rows_alike g E now counts taken column t k (i ∷ is) a =
      let F : List Entry = Tick now counts (tick_answer g E now counts) ∷ E in (
        ap (λ age. row_with g age (λ s. is_some (take_of g F s i)) (column_of g F i) i) (age_after (age_of E i) (was_taken E i) a.0)
            ∙ row_same g (age_with E i) i (λ s. is_some (take_of g F s i)) (taken i) (column_of g F i) (column i) (t i) (k i),
        rows_alike g E now counts taken column t k is a.1,
      )

  content_after : (g : Given) (E : List Entry) (now : ℕ) (counts : List ℕ) (taken : ℕ → ℕ → Bool) (column : ℕ → ℕ → ColumnView) → ((i s : ℕ) → is_some (take_of g (Tick now counts (tick_answer g E now counts) ∷ E) s i) ≡ taken i s) → ((i n : ℕ) → column_of g (Tick now counts (tick_answer g E now counts) ∷ E) i n ≡ column i n) → content_of g (Tick now counts (tick_answer g E now counts) ∷ E) ≡ content_with g (last_after g E now) (closed_after g E now) (still_open g E now) (age_with E) (is_required g (Tick now counts (tick_answer g E now counts) ∷ E)) taken column
  content_after g E now counts taken column t k =
      let F : List Entry = Tick now counts (tick_answer g E now counts) ∷ E in
      ap (λ (is : List ℕ). record (content_of g F) { open_rows = map (open_row_of g F) is }) (open_after g E now counts)
      ∙ ap (λ (n : ℕ). record (content_of g F) { open_rows = map (open_row_of g F) (still_open g E now); last = n }) (last_is g E now)
      ∙ ap (λ (os : List OpenRowView). record (content_of g F) { open_rows = os; last = last_after g E now })
      (map_alike (open_row_of g F) (λ i. row_with g (age_with E i) (taken i) (column i) i) (still_open g E now)
      (rows_alike g E now counts taken column t k (still_open g E now) (all_filter (λ i. was_taken E i ≡ true) (λ i. not (closes (is_due g E now) (open_instants g E) i)) (open_instants g E) (open_was_taken g E))))

  tick_one : (g : Given) (E : List Entry) (now : ℕ) (counts : List ℕ) → g.wait < 2 ^ 64 → (g.lanes == 1) ≡ true → content_of g (Tick now counts (tick_answer g E now counts) ∷ E) ≡ after_adoptions (after_tick (content_of g E) (rule_of g.wait_kind g.wait now) (row_layout_of g E)) (tick_answer g E now counts).adopted
  tick_one g E now counts h l =
      let F : List Entry = Tick now counts (tick_answer g E now counts) ∷ E in
      let ds : List ℕ = (tick_answer g E now counts).adopted in
      let taken : ℕ → ℕ → Bool = λ i. set_all ds false (λ s. is_some (take_of g E s i)) in
      let column : ℕ → ℕ → ColumnView = λ i. set_all ds empty_column (column_of g E i) in
      content_after g E now counts taken column (taken_one g E now counts (tick_answer g E now counts) l) (column_after g E now counts (tick_answer g E now counts))
      ∙ content_same g (last_after g E now) (closed_after g E now) (still_open g E now) (age_with E) (is_required g F) (set_all ds true (is_required g E)) taken taken column column (required_one g E now counts l) (λ i s. refl) (λ i n. refl)
      ∙ sym (ap (λ (d : Content). after_adoptions d ds) (table_after g E now h)
      ∙ all_with_one_lane g (last_after g E now) (closed_after g E now) (still_open g E now) (age_with E) (is_required g E) (λ i s. is_some (take_of g E s i)) (column_of g E) ds l)

  tick_two : (g : Given) (E : List Entry) (now : ℕ) (counts : List ℕ) → g.wait < 2 ^ 64 → (g.lanes == 1) ≡ false → content_of g (Tick now counts (tick_answer g E now counts) ∷ E) ≡ after_adoptions (after_tick (content_of g E) (rule_of g.wait_kind g.wait now) (row_layout_of g E)) (tick_answer g E now counts).adopted
  tick_two g E now counts h l =
      let F : List Entry = Tick now counts (tick_answer g E now counts) ∷ E in
      let ds : List ℕ = (tick_answer g E now counts).adopted in
      let taken : ℕ → ℕ → Bool = λ i s. is_some (take_of g E s i) in
      let column : ℕ → ℕ → ColumnView = λ i. set_all ds empty_column (column_of g E i) in
      content_after g E now counts taken column (taken_two g E now counts (tick_answer g E now counts) l) (column_after g E now counts (tick_answer g E now counts))
      ∙ content_same g (last_after g E now) (closed_after g E now) (still_open g E now) (age_with E) (is_required g F) (is_required g E) taken taken column column (required_two g E (Tick now counts (tick_answer g E now counts)) l) (λ i s. refl) (λ i n. refl)
      ∙ sym (ap (λ (d : Content). after_adoptions d ds) (table_after g E now h)
      ∙ all_with_two_lanes g (last_after g E now) (closed_after g E now) (still_open g E now) (age_with E) (is_required g E) taken (column_of g E) ds l)

  pub tick_is_tick : TickIsTick
  tick_is_tick g E now counts h = elim (cases_Bool (g.lanes == 1)) [
    | inl l ↦ tick_one g E now counts h l
    | inr l ↦ tick_two g E now counts h l
  ]
