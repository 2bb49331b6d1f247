-- The instants of a life's rows can be tagged.
use Rattle.pdc_life.proofs.Names.{[], ◌*◌, ◌++◌, ◌<◌, ◌∷◌, ◌≡◌, AllByRecursion, ap, AreSound, Arrive, closed, closing, cond, cond_both, Data, drop, Entry, eqb, Given, IsInTime, IsSound, IsTicked, List, ltb, map, None, none-some, open_instants, place, Pop, popped, rising, row_instants, row_of, RowsHaveTags, RowView, same_Some, slice_get, Some, subst, sym, Take, take_at, takes, Tick, TickAnswer, waiting, ℕ}
use Rattle.pdc_life.proofs.LifeLaws.{instants_append, instants_rows}
use Rattle.pdc_life.proofs.Lists.{appended, filtered}
use Rattle.pdc_life.proofs.Steps.{at_take, run_before, ticked_before}

placed : (P : ℕ → Type 0) (i : ℕ) (ns : List ℕ) → P i → AllByRecursion P ns → AllByRecursion P (place i ns)
placed P i [] h a = (h, tt)
placed P i (n ∷ ns) h a =
    cond_both (ltb i n) (i ∷ n ∷ ns) (cond (eqb n i) (n ∷ ns) (n ∷ place i ns)) (AllByRecursion P) (λ e. (h, a))
    (λ e. cond_both (eqb n i) (n ∷ ns) (n ∷ place i ns) (AllByRecursion P) (λ k. a) (λ k. (a.0, placed P i ns h a.1)))

in_order : (P : ℕ → Type 0) (ns : List ℕ) → AllByRecursion P ns → AllByRecursion P (rising ns)
in_order P [] a = tt
in_order P (n ∷ ns) a = placed P n (rising ns) a.0 (in_order P ns a.1)

-- What holds of the instants of rows.
of_rows : (P : ℕ → Type 0) (g : Given) (E : List Entry) (is : List ℕ) → AllByRecursion P is → AllByRecursion P (row_instants (map (row_of g E) is))
of_rows P g E is a = subst (AllByRecursion P) (sym (instants_rows g E is)) a

more_rows : (P : ℕ → Type 0) (rows more : List RowView) → AllByRecursion P (row_instants rows) → AllByRecursion P (row_instants more)
    → AllByRecursion P (row_instants (rows ++ more))
more_rows P rows more a b = subst (AllByRecursion P) (sym (instants_append rows more)) (appended P (row_instants rows) (row_instants more) a b)

dropped : (P : ℕ → Type 0) (rows : List RowView) → AllByRecursion P (row_instants rows) → AllByRecursion P (row_instants (drop 1 rows))
dropped P [] a = tt
dropped P (r ∷ rows) a = a.1

of_first : (P : ℕ → Type 0) (rows : List RowView) (row : RowView) → Some row ≡ slice_get rows 0 → AllByRecursion P (row_instants rows) → P row.instant
of_first P [] row h a = absurd (none-some row (sym h))
of_first P (r ∷ rows) row h a = subst (λ (s : RowView). P s.instant) (same_Some r row (sym h)) a.0

-- the bound of a life's instants
abbrev IsLow : Given → ℕ → Type 0
IsLow g i = i < 4294967296 * g.output.rate

taken_low : (g : Given) (E : List Entry) → AreSound g E → AllByRecursion (λ (t : Take). IsLow g t.instant) (takes E)
taken_low g [] run = tt
taken_low g (e ∷ E) run =
    appended (λ (t : Take). IsLow g t.instant) (take_at e) (takes E) (at_take (λ (t : Take). IsLow g t.instant) e (λ s bytes i quality payload answer is taken.
    let at : IsSound g E s (Data i quality payload) answer = (subst (λ (x : Entry). AreSound g (x ∷ E)) is run).0 in
    let t : IsInTime g E s (Data i quality payload) answer = at.taken taken in
    let same : t.instant ≡ i = cc in
    subst (IsLow g) same t.tag)) (taken_low g E (run_before g e E run))

instants_low : (P : ℕ → Type 0) (ts : List Take) → AllByRecursion (λ (t : Take). P t.instant) ts → AllByRecursion P (map (λ (t : Take). t.instant) ts)
instants_low P [] a = tt
instants_low P (t ∷ ts) a = (a.0, instants_low P ts a.1)

-- what the tick after E closes
closing_low : (g : Given) (E : List Entry) (now : ℕ) → AreSound g E → AllByRecursion (IsLow g) (row_instants (map (row_of g E) (closing g E now)))
closing_low g E now run =
    of_rows (IsLow g) g E (closing g E now)
    (filtered _ (IsLow g) (IsLow g) (open_instants g E) (λ i e h. h) (in_order (IsLow g) _
    (filtered _ (IsLow g) (IsLow g) (map (λ (t : Take). t.instant) (takes E)) (λ i e h. h) (instants_low (IsLow g) (takes E) (taken_low g E run)))))

rows_low : (g : Given) (E : List Entry) (now : ℕ) (rows : List RowView) → AreSound g E → rows ≡ map (row_of g E) (closing g E now) → AllByRecursion (IsLow g) (row_instants rows)
rows_low g E now rows run h = subst (λ (rs : List RowView). AllByRecursion (IsLow g) (row_instants rs)) (sym h) (closing_low g E now run)

pub closed_low : (g : Given) (E : List Entry) → IsTicked g E → AreSound g E → AllByRecursion (IsLow g) (row_instants (closed E))
closed_low g [] ticked run = tt
closed_low g (Tick now counts answer ∷ E) ticked run =
    more_rows (IsLow g) (closed E) answer.rows (closed_low g E ticked.1 run) (rows_low g E now answer.rows run (ap (λ (a : TickAnswer). a.rows) ticked.0))
closed_low g (e ∷ E) ticked run = closed_low g E (ticked_before g e E ticked) (run_before g e E run)

waiting_low : (g : Given) (E : List Entry) → IsTicked g E → AreSound g E → AllByRecursion (IsLow g) (row_instants (waiting E))
waiting_low g [] ticked run = tt
waiting_low g (Tick now counts answer ∷ E) ticked run =
    more_rows (IsLow g) (waiting E) answer.rows (waiting_low g E ticked.1 run) (rows_low g E now answer.rows run (ap (λ (a : TickAnswer). a.rows) ticked.0))
waiting_low g (Arrive s bytes arrival answer ∷ E) ticked run = waiting_low g E ticked run.1
waiting_low g (Pop row ∷ E) ticked run = dropped (IsLow g) (waiting E) (waiting_low g E ticked.1 run)

pub popped_low : (g : Given) (E : List Entry) → IsTicked g E → AreSound g E → AllByRecursion (IsLow g) (row_instants (popped E))
popped_low g [] ticked run = tt
popped_low g (Pop None ∷ E) ticked run = more_rows (IsLow g) (popped E) [] (popped_low g E ticked.1 run) tt
popped_low g (Pop (Some row) ∷ E) ticked run =
    more_rows (IsLow g) (popped E) (row ∷ []) (popped_low g E ticked.1 run) (of_first (IsLow g) (waiting E) row ticked.0 (waiting_low g E ticked.1 run), tt)
popped_low g (e ∷ E) ticked run = popped_low g E (ticked_before g e E ticked) (run_before g e E run)

pub rows_have_tags : RowsHaveTags
rows_have_tags g E run = (closed_low g E run.ticked run.sound, waiting_low g E run.ticked run.sound, popped_low g E run.ticked run.sound)
