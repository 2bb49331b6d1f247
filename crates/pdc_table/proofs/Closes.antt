-- What closes is the front of the rows that are due.
use Rattle.std.proofs.Common.{◌≡◌, ℕ, ◌+◌, ◌<◌, ◌≤◌, Bool, true, false, cond, not, ◌&&◌, leb, List, [], ◌∷◌, length, take, drop, filter, refl, sym, ◌∙◌, ap, arith, suc, rules}
use Rattle.std.specs.List.{prefix_len}
use Rattle.std.proofs.lemmas.List.Folds.{length-prefix_len}
use Rattle.pdc_open_row.specs.pdc_row.Rising.{Rises}
use Rattle.pdc_table.specs.OpenInstants.{instants_of}
use Rattle.pdc_table.specs.Closing.{closes, closing, staying}
use Rattle.pdc_open_row.specs.Due.{is_due}
use Rattle.pdc_open_row.specs.Views.{OpenRowView}
use Rattle.pdc_open_row.specs.declared.wait_rule.WaitRule.{WaitRule}

and_true : (b : Bool) → (b && true) ≡ b
and_true true = refl
and_true false = refl

leb_yes : (m n : ℕ) → m ≤ n → leb m n ≡ true
leb_yes m n h = search rules

leb_no : (m n : ℕ) → n < m → leb m n ≡ false
leb_no m n h = search rules

-- rows above this one do not hold it back
held_by_none : (required : List Bool) (rule : WaitRule) (low : ℕ) (row : OpenRowView) (rows : List OpenRowView) → row.instant ≤ low → Rises low (instants_of rows) → closes required rule rows row ≡ true
held_by_none required rule low row [] h r = refl
held_by_none required rule low row (x ∷ xs) h r =
    rw (leb_no x.instant row.instant (omega (arith, r.0))) (held_by_none required rule x.instant row xs (omega (arith, r.0)) r.1)

-- the first row closes where it is due
first_closes : (required : List Bool) (rule : WaitRule) (x : OpenRowView) (xs : List OpenRowView) → Rises x.instant (instants_of xs) → closes required rule (x ∷ xs) x ≡ is_due required rule x
first_closes required rule x xs r =
    rw (leb_yes x.instant x.instant (omega arith), held_by_none required rule x.instant x xs (omega arith) r) (and_true (is_due required rule x))

-- a later row closes where the first is due and no other holds it back
later_closes : (required : List Bool) (rule : WaitRule) (x row : OpenRowView) (xs : List OpenRowView) → x.instant < row.instant → closes required rule (x ∷ xs) row ≡ is_due required rule x && closes required rule xs row
later_closes required rule x row xs h = rw (leb_yes x.instant row.instant (omega arith)) refl

filter_alike : (p q : OpenRowView → Bool) (low : ℕ) (rows : List OpenRowView) → Rises low (instants_of rows) → ((r : OpenRowView) → low < r.instant → p r ≡ q r) → filter p rows ≡ filter q rows
filter_alike p q low [] r h = refl
filter_alike p q low (x ∷ xs) r h =
    rw (h x r.0, filter_alike p q x.instant xs r.1 (λ y l. h y (omega (arith, r.0)))) refl

filter_none : (rows : List OpenRowView) → filter (λ (r : OpenRowView). false) rows ≡ []
filter_none [] = refl
filter_none (x ∷ xs) = filter_none xs

filter_all : (rows : List OpenRowView) → filter (λ (r : OpenRowView). true) rows ≡ rows
filter_all [] = refl
filter_all (x ∷ xs) = ap (λ ys. x ∷ ys) (filter_all xs)

front_step : (b : Bool) (x : OpenRowView) (f : OpenRowView → Bool) (xs : List OpenRowView) (n : ℕ) → filter f xs ≡ take n xs → cond b (x ∷ filter (λ r. b && f r) xs) (filter (λ r. b && f r) xs) ≡ take (cond b (1 + n) 0) (x ∷ xs)
front_step true x f xs n h = let e : 1 + n ≡ suc n = omega arith in rw e (ap (λ ys. x ∷ ys) h)
front_step false x f xs n h = filter_none xs

back_step : (b : Bool) (x : OpenRowView) (f : OpenRowView → Bool) (xs : List OpenRowView) (n : ℕ) → filter (λ r. not (f r)) xs ≡ drop n xs → cond (not b) (x ∷ filter (λ r. not (b && f r)) xs) (filter (λ r. not (b && f r)) xs) ≡ drop (cond b (1 + n) 0) (x ∷ xs)
back_step true x f xs n h = let e : 1 + n ≡ suc n = omega arith in rw e h
back_step false x f xs n h = ap (λ ys. x ∷ ys) (filter_all xs)

pub closing-front : (required : List Bool) (rule : WaitRule) (low : ℕ) (rows : List OpenRowView) → Rises low (instants_of rows) → closing required rule rows ≡ take (prefix_len (is_due required rule) rows) rows
closing-front required rule low [] r = refl
closing-front required rule low (x ∷ xs) r =
    ap (λ b. cond b (x ∷ filter (closes required rule (x ∷ xs)) xs) (filter (closes required rule (x ∷ xs)) xs)) (first_closes required rule x xs r.1)
    ∙ ap (λ ys. cond (is_due required rule x) (x ∷ ys) ys) (filter_alike (closes required rule (x ∷ xs)) (λ row. is_due required rule x && closes required rule xs row) x.instant xs r.1 (λ row h. later_closes required rule x row xs h))
    ∙ front_step (is_due required rule x) x (closes required rule xs) xs (prefix_len (is_due required rule) xs) (closing-front required rule x.instant xs r.1)

pub staying-back : (required : List Bool) (rule : WaitRule) (low : ℕ) (rows : List OpenRowView) → Rises low (instants_of rows) → staying required rule rows ≡ drop (prefix_len (is_due required rule) rows) rows
staying-back required rule low [] r = refl
staying-back required rule low (x ∷ xs) r =
    ap (λ b. cond (not b) (x ∷ filter (λ row. not (closes required rule (x ∷ xs) row)) xs) (filter (λ row. not (closes required rule (x ∷ xs) row)) xs)) (first_closes required rule x xs r.1)
    ∙ ap (λ ys. cond (not (is_due required rule x)) (x ∷ ys) ys) (filter_alike (λ row. not (closes required rule (x ∷ xs) row)) (λ row. not (is_due required rule x && closes required rule xs row)) x.instant xs r.1 (λ row h. ap not (later_closes required rule x row xs h)))
    ∙ back_step (is_due required rule x) x (closes required rule xs) xs (prefix_len (is_due required rule) xs) (staying-back required rule x.instant xs r.1)

-- the front of the rows as the code cuts it
pub front_is : (required : List Bool) (rule : WaitRule) (low : ℕ) (rows seen : List OpenRowView) (n : ℕ) → seen ≡ rows → n ≡ prefix_len (is_due required rule) seen → Rises low (instants_of rows) → take n seen ≡ closing required rule rows
front_is required rule low rows seen n e k r = rw (k, e) (sym (closing-front required rule low rows r))

pub back_is : (required : List Bool) (rule : WaitRule) (low : ℕ) (rows seen : List OpenRowView) (n : ℕ) → seen ≡ rows → n ≡ prefix_len (is_due required rule) seen → Rises low (instants_of rows) → drop n rows ≡ staying required rule rows
back_is required rule low rows seen n e k r = rw (k, e) (sym (staying-back required rule low rows r))

pub front_length : (required : List Bool) (rule : WaitRule) (low : ℕ) (rows seen : List OpenRowView) (n : ℕ) → seen ≡ rows → n ≡ prefix_len (is_due required rule) seen → Rises low (instants_of rows) → n ≡ length (closing required rule rows)
front_length required rule low rows seen n e k r = rw (k, e, closing-front required rule low rows r) (sym (length-prefix_len (is_due required rule) rows))
