-- An instant above the last that is not open: nothing was taken for it, its age is 0, and its row is the fresh one.
use Rattle.std.proofs.Common.{◌≡◌, ℕ, ◌<◌, Bool, true, false, ◌||◌, cond, eqb, ltb, List, [], ◌∷◌, ◌++◌, map, filter, replicate, refl, sym, ◌∙◌, ap, arith, zero, suc, Option, Some, None}
use Rattle.std.specs.Prelude.{◌+◌, find, is_some}
use Rattle.std.specs.List.{list_any, range_with_len}
use Rattle.std.proofs.lemmas.Bool.{and_right, eqb-true, ltb-false, ne_eqb, or_from, or_parts}
use Rattle.std.proofs.lemmas.Option.{none-some}
use Rattle.std.proofs.lemmas.List.Folds.{list_any-append}
use Rattle.pdc_arrival.specs.pdc_row.CellView.{CellView}
use Rattle.pdc_arrival.specs.pdc_row.Rising.{place, rising}
use Rattle.pdc_table.specs.Closing.{counter}
use Rattle.pdc_table.specs.pdc_open_row.Streams.{stream_count}
use Rattle.pdc_table.specs.pdc_columns.Views.{empty_column}
use Rattle.pdc_table.specs.pdc_open_row.Views.{blank_row}
use Rattle.pdc_arrival.specs.pdc_life.Given.{Given, columns_of, streams_of}
use Rattle.pdc_arrival.specs.pdc_life.Life.{Entry, Arrive, Tick, Pop, Take, age_of, cell_in, cell_of, is_adoption_of, is_take_of, last_of, open_instants, take_at, take_of, takes, takes_since_adopted, was_taken}
use Rattle.pdc_align.specs.State.{column_of, open_row_of}

-- ---- which instants are open

-- the number is in the list
abbrev pub is_in : ℕ → List ℕ → Bool
is_in i ns = list_any (λ n. eqb n i) ns

or_twice : (a b : Bool) → (a || b) ≡ (a || (a || b))
or_twice true b = refl
or_twice false b = refl

or_swap : (a b c : Bool) → (a || (b || c)) ≡ (b || (a || c))
or_swap true true c = refl
or_swap true false c = refl
or_swap false b c = refl

in_one_place : (i x y : ℕ) (ys : List ℕ) (b c : Bool) → eqb y x ≡ c → is_in i (place x ys) ≡ (eqb x i || is_in i ys)
    → is_in i (cond b (x ∷ y ∷ ys) (cond c (y ∷ ys) (y ∷ place x ys))) ≡ (eqb x i || (eqb y i || is_in i ys))
in_one_place i x y ys true c e h = refl
in_one_place i x y ys false true e h =
    or_twice (eqb y i) (is_in i ys) ∙ ap (λ n. eqb n i || (eqb y i || is_in i ys)) (eqb-true y x e)
in_one_place i x y ys false false e h = ap (λ b. eqb y i || b) h ∙ or_swap (eqb y i) (eqb x i) (is_in i ys)

in_place : (i x : ℕ) (ns : List ℕ) → is_in i (place x ns) ≡ (eqb x i || is_in i ns)
in_place i x [] = refl
in_place i x (y ∷ ys) = in_one_place i x y ys (ltb x y) (eqb y x) refl (in_place i x ys)

in_rising : (i : ℕ) (ns : List ℕ) → is_in i (rising ns) ≡ is_in i ns
in_rising i [] = refl
in_rising i (n ∷ ns) = in_place i n (rising ns) ∙ ap (λ b. eqb n i || b) (in_rising i ns)

in_kept : (low i n : ℕ) (ns ms : List ℕ) (b : Bool) → ltb low n ≡ b → low < i → is_in i ns ≡ is_in i ms → is_in i (cond b (n ∷ ns) ns) ≡ (eqb n i || is_in i ms)
in_kept low i n ns ms true e l h = ap (λ b. eqb n i || b) h
in_kept low i n ns ms false e l h =
    h ∙ ap (λ b. b || is_in i ms) (sym (ne_eqb n i (λ q. omega (arith, l, ltb-false low n e, q))))

in_above : (low i : ℕ) (ns : List ℕ) → low < i → is_in i (filter (λ n. ltb low n) ns) ≡ is_in i ns
in_above low i [] l = refl
in_above low i (n ∷ ns) l = in_kept low i n (filter (λ n. ltb low n) ns) ns (ltb low n) refl l (in_above low i ns l)

in_instants : (i : ℕ) (ts : List Take) → is_in i (map (λ (t : Take). t.instant) ts) ≡ list_any (λ (t : Take). eqb t.instant i) ts
in_instants i [] = refl
in_instants i (t ∷ ts) = ap (λ b. eqb t.instant i || b) (in_instants i ts)

-- above the last, the open instants are those that were taken
pub open_is_taken : (g : Given) (E : List Entry) (i : ℕ) → last_of g E < i → is_in i (open_instants g E) ≡ was_taken E i
open_is_taken g E i l =
    in_rising i (filter (λ n. ltb (last_of g E) n) (map (λ (t : Take). t.instant) (takes E)))
    ∙ in_above (last_of g E) i (map (λ (t : Take). t.instant) (takes E)) l ∙ in_instants i (takes E)

-- ---- nothing was taken

found_none : (b : Bool) (t : Take) (rest : Option Take) → b ≡ false → rest ≡ None → cond b (Some t) rest ≡ None
found_none b t rest e h = ap (λ c. cond c (Some t) rest) e ∙ h

-- where no take passes none is found
pub none_found : (p : Take → Bool) (ts : List Take) → list_any p ts ≡ false → find p ts ≡ None
none_found p [] h = refl
none_found p (t ∷ ts) h = let two = or_parts (p t) (list_any p ts) h in found_none (p t) t (find p ts) two.0 (none_found p ts two.1)

some_found : (b c : Bool) (t : Take) (rest : Option Take) → cond b (Some t) rest ≡ None → (rest ≡ None → c ≡ false) → (b || c) ≡ false
some_found true c t rest h k = absurd (none-some t (sym h))
some_found false c t rest h k = k h

-- and where none is found none passes
pub none_passes : (p : Take → Bool) (ts : List Take) → find p ts ≡ None → list_any p ts ≡ false
none_passes p [] h = refl
none_passes p (t ∷ ts) h = some_found (p t) (list_any p ts) t (find p ts) h (none_passes p ts)

of_stream : (s i : ℕ) (ts : List Take) → list_any (λ (t : Take). eqb t.instant i) ts ≡ false → list_any (is_take_of s i) ts ≡ false
of_stream s i [] h = refl
of_stream s i (t ∷ ts) h =
    let two = or_parts (eqb t.instant i) (list_any (λ (u : Take). eqb u.instant i) ts) h in
    or_from (is_take_of s i t) (list_any (is_take_of s i) ts) (and_right (eqb t.stream s) (eqb t.instant i) two.0) (of_stream s i ts two.1)

unless_adopted : (p : Take → Bool) (b : Bool) (ts : List Take) → list_any p ts ≡ false → list_any p (cond b [] ts) ≡ false
unless_adopted p true ts h = refl
unless_adopted p false ts h = h

-- what was taken since an adoption was taken
pub none_since : (p : Take → Bool) (E : List Entry) (c : ℕ) → list_any p (takes E) ≡ false → list_any p (takes_since_adopted E c) ≡ false
none_since p [] c h = refl
none_since p (e ∷ E) c h =
    let two = or_parts (list_any p (take_at e)) (list_any p (takes E)) (sym (list_any-append p (take_at e) (takes E)) ∙ h) in
    unless_adopted p (is_adoption_of c e) (take_at e ++ takes_since_adopted E c)
    (list_any-append p (take_at e) (takes_since_adopted E c)
    ∙ or_from (list_any p (take_at e)) (list_any p (takes_since_adopted E c)) two.0 (none_since p E c two.1))

one_lane_or_two : (b : Bool) (p : Take → Bool) (ts us : List Take) → list_any p ts ≡ false → list_any p us ≡ false → find p (cond b ts us) ≡ None
one_lane_or_two true p ts us h k = none_found p ts h
one_lane_or_two false p ts us h k = none_found p us k

pub no_take : (g : Given) (E : List Entry) (s i : ℕ) → was_taken E i ≡ false → take_of g E s i ≡ None
no_take g E s i h =
    let none : list_any (is_take_of s i) (takes E) ≡ false = of_stream s i (takes E) h in
    one_lane_or_two (eqb g.lanes 1) (is_take_of s i) (takes_since_adopted E s) (takes E) (none_since (is_take_of s i) E s none) none

pub no_cell : (E : List Entry) (s c i : ℕ) → list_any (is_take_of s i) (takes E) ≡ false → cell_of E s c i ≡ None
no_cell E s c i h = ap (cell_in c) (none_found (is_take_of s i) (takes_since_adopted E c) (none_since (is_take_of s i) E c h))

age_if : (b : Bool) (n : ℕ) → b ≡ false → cond b n 0 ≡ 0
age_if b n e = ap (λ c. cond c n 0) e

no_age : (E : List Entry) (i : ℕ) → was_taken E i ≡ false → age_of E i ≡ 0
no_age [] i h = refl
no_age (Tick now counts answer ∷ E) i h = age_if (was_taken E i) (age_of E i + 1) h
no_age (Pop row ∷ E) i h = no_age E i h
no_age (Arrive s bytes arrival answer ∷ E) i h =
    no_age E i (or_parts _ _ (sym (list_any-append (λ (t : Take). eqb t.instant i) (take_at (Arrive s bytes arrival answer)) (takes E)) ∙ h)).1

-- ---- the fresh row

all_one : {A : Type 0} (f : ℕ → A) (a : A) (start n : ℕ) → ((k : ℕ) → f k ≡ a) → map f (range_with_len start n) ≡ replicate n a
all_one f a start zero h = refl
all_one f a start (suc n) h = ap (λ x. x ∷ map f (range_with_len (start + 1) n)) (h start) ∙ ap (λ xs. a ∷ xs) (all_one f a (start + 1) n h)

if_none : (b : Bool) (cell : Option CellView) → cell ≡ None → cond b None cell ≡ None
if_none true cell h = refl
if_none false cell h = h

no_column : (g : Given) (E : List Entry) (i c : ℕ) → was_taken E i ≡ false → column_of g E i c ≡ empty_column
no_column g E i c h =
    ap (λ x. record { first = x; second = cond (eqb g.lanes 1) None (cell_of E 1 c i) })
    (no_cell E (cond (eqb g.lanes 1) c 0) c i (of_stream (cond (eqb g.lanes 1) c 0) i (takes E) h))
    ∙ ap (λ x. record { first = None; second = x })
    (if_none (eqb g.lanes 1) (cell_of E 1 c i) (no_cell E 1 c i (of_stream 1 i (takes E) h)))

pub row_is_fresh : (g : Given) (E : List Entry) (i : ℕ) → was_taken E i ≡ false → open_row_of g E i ≡ blank_row (stream_count g.columns g.lanes) g.columns i
row_is_fresh g E i h =
    ap (λ n. record { instant = i; age = counter n; taken = map (λ s. is_some (take_of g E s i)) (streams_of g); columns = map (column_of g E i) (columns_of g) })
    (no_age E i h)
    ∙ ap (λ xs. record { instant = i; age = 0; taken = xs; columns = map (column_of g E i) (columns_of g) })
    (all_one (λ s. is_some (take_of g E s i)) false 0 (stream_count g.columns g.lanes) (λ s. ap is_some (no_take g E s i h)))
    ∙ ap (λ xs. record { instant = i; age = 0; taken = replicate (stream_count g.columns g.lanes) false; columns = xs })
    (all_one (column_of g E i) empty_column 0 g.columns (λ c. no_column g E i c h))
