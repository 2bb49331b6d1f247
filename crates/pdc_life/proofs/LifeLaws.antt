-- Laws of all lives: steps make lives, rows come out once and rise, change numbers never fall; and wait rules agree.
use Rattle.pdc_life.proofs.Names.{[], ◌++◌, ◌+◌, ◌==◌, ◌∙◌, ◌∷◌, ◌≡◌, ◌≤◌, AllByRecursion, answered, ap, append_assoc, arith, Arrival, Arrive, Bool, changes, ChangesNeverFall, ChangesRiseByOne, closed, closing, cond, drop, Entry, false, filter, Given, greatest, is_adoption, is_adoption_of, IsLife, IsReadStep, IsTicked, last_of, length, life_from, List, list_any, ltb, map, map-append, OneStepMore, open_instants, Option, Pop, popped, ReadStep, refl, Rises, RisingLaws, row_instants, row_of, RowsComeOutOnce, RowsRise, RowView, Rules, rules, rules_of, SameChangeSameSections, Says, section_in_force, slice_get, StepsMakeLives, subst, sym, Take, takes, Tick, TickAnswer, ToArrive, waiting, ℕ}
use Rattle.std.specs.Option.{option_to_list}
use Rattle.pdc_life.proofs.Lists.{by_cases}
use Rattle.pdc_life.proofs.Steps.{ticked_before}

-- the premise of all laws of rows and counts, for every kind of core
pub lives_are_ticked : (rules : Rules) (Says : ℕ → List ℕ → Arrival → Type 0) (g : Given) (E : List Entry) → IsLife rules Says g E → IsTicked g E
lives_are_ticked rules Says g [] life = tt
lives_are_ticked rules Says g (Arrive s bytes arrival answer ∷ E) life = lives_are_ticked rules Says g E life.2
lives_are_ticked rules Says g (e ∷ E) life = (life.0, lives_are_ticked rules Says g E life.1)

pub one_step_more : OneStepMore
one_step_more rules g E [] step = refl
one_step_more rules g E (s ∷ ss) step = one_step_more rules g (answered rules g E s ∷ E) ss step

-- a pop takes the first of what waits
first_rest : (rows : List RowView) → option_to_list (slice_get rows 0) ++ drop 1 rows ≡ rows
first_rest [] = refl
first_rest (r ∷ rows) = refl

pub rows_come_out_once : RowsComeOutOnce
rows_come_out_once g [] run = refl
rows_come_out_once g (Arrive s bytes arrival answer ∷ E) run = rows_come_out_once g E run
rows_come_out_once g (Tick now counts answer ∷ E) run =
    ap (λ rows. rows ++ answer.rows) (rows_come_out_once g E run.1) ∙ append_assoc (popped E) (waiting E) answer.rows
rows_come_out_once g (Pop row ∷ E) run =
    rows_come_out_once g E run.1
    ∙ ap (λ rows. popped E ++ rows) (sym (ap (λ (r : Option RowView). option_to_list r ++ drop 1 (waiting E)) run.0 ∙ first_rest (waiting E)))
    ∙ sym (append_assoc (popped E) (option_to_list row) (drop 1 (waiting E)))

-- rows rise
pub instants_append : (rows more : List RowView) → row_instants (rows ++ more) ≡ row_instants rows ++ row_instants more
instants_append rows more = map-append (λ (r : RowView). r.instant) rows more

pub instants_rows : (g : Given) (E : List Entry) (is : List ℕ) → row_instants (map (row_of g E) is) ≡ is
instants_rows g E [] = refl
instants_rows g E (i ∷ is) = ap (λ ns. i ∷ ns) (instants_rows g E is)

-- changes
pub changes_never_fall : ChangesNeverFall
changes_never_fall E [] = omega arith
changes_never_fall E (e ∷ F) =
    by_cases (λ (b : Bool). changes E ≤ length (cond b (e ∷ filter is_adoption (F ++ E)) (filter is_adoption (F ++ E)))) (is_adoption e)
    (λ up. omega (arith, changes_never_fall E F)) (λ quiet. changes_never_fall E F)

none_adopted : (c : ℕ) (ds : List ℕ) → ltb 0 (length ds) ≡ false → list_any (λ d. d == c) ds ≡ false
none_adopted c [] h = refl
none_adopted c (d ∷ ds) h = search rules

none_of : (c : ℕ) (e : Entry) → is_adoption e ≡ false → is_adoption_of c e ≡ false
none_of c (Tick now counts answer) h = none_adopted c answer.adopted h
none_of c e h = refl

pub same_change_same_sections : SameChangeSameSections
same_change_same_sections g E [] h c = refl
same_change_same_sections g E (e ∷ F) h c =
    by_cases (λ (b : Bool). length (cond b (e ∷ filter is_adoption (F ++ E)) (filter is_adoption (F ++ E))) ≡ changes E
    → section_in_force g (e ∷ F ++ E) c ≡ section_in_force g E c) (is_adoption e) (λ up k. absurd (omega (arith, k, changes_never_fall E F)))
    (λ quiet k. rw (none_of c e quiet) (same_change_same_sections g E F k c)) h

pub changes_rise_by_one : ChangesRiseByOne
changes_rise_by_one E e =
    by_cases (λ (b : Bool). length (cond b (e ∷ filter is_adoption E) (filter is_adoption E)) ≡ cond b (changes E + 1) (changes E)) (is_adoption e)
    (λ h. omega arith) (λ h. refl)

read_step_life : (rules : Rules) (Says : ℕ → List ℕ → Arrival → Type 0) (g : Given) (E : List Entry) (step : ReadStep) → IsLife rules Says g E → IsReadStep Says step → IsLife rules Says g (answered rules g E step ∷ E)
read_step_life rules Says g E (ToArrive s bytes arrival) life says = (says, refl, life)
read_step_life rules Says g E step life says = (refl, life)

life_goes_on : (rules : Rules) (Says : ℕ → List ℕ → Arrival → Type 0) (g : Given) (E : List Entry) (steps : List ReadStep) → IsLife rules Says g E → AllByRecursion (IsReadStep Says) steps → IsLife rules Says g (life_from rules g E steps)
life_goes_on rules Says g E [] life says = life
life_goes_on rules Says g E (step ∷ steps) life says =
    life_goes_on rules Says g (answered rules g E step ∷ E) steps (read_step_life rules Says g E step life says.0) says.1

pub steps_make_lives : StepsMakeLives
steps_make_lives kind g E steps life says = record { given = life.given; life = life_goes_on (rules_of kind) (Says kind) g E steps life.life says }

-- ---- what follows from the laws of rising numbers: rows rise

module _ (R : RisingLaws) where
  pub last_is : (g : Given) (E : List Entry) → last_of g E ≡ greatest g.floor (row_instants (closed E))
  last_is g [] = refl
  last_is g (Tick now counts answer ∷ E) =
      ap (λ n. greatest n (row_instants answer.rows)) (last_is g E)
      ∙ sym (ap (λ ns. greatest g.floor ns) (instants_append (closed E) answer.rows) ∙ R.greatest_append g.floor (row_instants (closed E)) (row_instants answer.rows))
  last_is g (e ∷ E) = last_is g E

  closing_rises : (g : Given) (E : List Entry) (now : ℕ) → Rises (last_of g E) (closing g E now)
  closing_rises g E now =
      R.rises_filter _ (last_of g E) (open_instants g E)
      (R.rises_rising (last_of g E) _ (R.above_filter (last_of g E) (map (λ (t : Take). t.instant) (takes E))))

  pub rows_rise : RowsRise
  rows_rise g [] run = tt
  rows_rise g (Tick now counts answer ∷ E) run =
      let before : Rises g.floor (row_instants (closed E)) = rows_rise g E run.1 in
      let e : row_instants answer.rows ≡ closing g E now = ap (λ (a : TickAnswer). row_instants a.rows) run.0 ∙ instants_rows g E (closing g E now) in
      let now_closed : Rises (greatest g.floor (row_instants (closed E))) (row_instants answer.rows) =
      subst (λ n. Rises n (row_instants answer.rows)) (last_is g E) (subst (λ ns. Rises (last_of g E) ns) (sym e) (closing_rises g E now)) in
      subst (λ ns. Rises g.floor ns) (sym (instants_append (closed E) answer.rows)) (R.rises_append g.floor (greatest g.floor (row_instants (closed E))) (row_instants (closed E)) (row_instants answer.rows) (R.greatest_ge g.floor (row_instants (closed E))) before (R.below_greatest g.floor (row_instants (closed E))) now_closed)
  rows_rise g (e ∷ E) run = rows_rise g E (ticked_before g e E run)
