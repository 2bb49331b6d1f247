-- The highest instant that is held.
use Rattle.std.proofs.Common.{◌≡◌, ℕ, ◌-◌, ◌<◌, List, [], ◌∷◌, ◌++◌, length, get_or, map, refl, sym, ◌∙◌, ap, arith, suc, true, false, ltb, rules, Some}
use Rattle.std.specs.List.{slice_get}
use Rattle.std.proofs.lemmas.Bool.{false≢true}
use Rattle.pdc_open_row.specs.pdc_row.Rising.{highest_of}
use Rattle.pdc_table.specs.OpenInstants.{instants_of}
use Rattle.pdc_open_row.specs.pdc_row.RowView.{row_view, row_instants}
use Rattle.pdc_open_row.specs.pdc_row.declared.due_row.DueRow.{DueRow}
use Rattle.pdc_open_row.specs.Views.{OpenRowView}

lower : (m n : ℕ) → m < n → ltb m n ≡ true
lower m n h = search rules

pub highest_open : (cs : List ℕ) (rows : List OpenRowView) (row : OpenRowView) → Some row ≡ slice_get rows (length rows - 1) → highest_of (cs ++ instants_of rows) ≡ Some row.instant
highest_open cs [] row e = cc
highest_open [] (x ∷ []) row e = let f : Some row ≡ Some x = e in cc
highest_open [] (x ∷ y ∷ ys) row e =
    let k : suc (suc (length ys)) - 1 ≡ suc (length ys) = omega arith in
    let j : suc (length ys) - 1 ≡ length ys = omega arith in
    let f : Some row ≡ slice_get (y ∷ ys) (length ys) = rw k at e in
    highest_open [] (y ∷ ys) row (f ∙ ap (λ n. slice_get (y ∷ ys) n) (sym j))
highest_open (c ∷ []) (x ∷ xs) row e = highest_open [] (x ∷ xs) row e
highest_open (c ∷ d ∷ cs) (x ∷ xs) row e = highest_open (d ∷ cs) (x ∷ xs) row e

pub no_rows : (rows : List OpenRowView) → false ≡ ltb 0 (length rows) → rows ≡ []
no_rows [] h = refl
no_rows (x ∷ xs) h = let k : ltb 0 (suc (length xs)) ≡ true = lower 0 (suc (length xs)) (omega arith) in absurd (false≢true (h ∙ k))

highest_row : (rows : List DueRow) (row : DueRow) → 0 < length rows → row ≡ get_or rows (length rows - 1) row → highest_of (row_instants (map row_view rows)) ≡ Some row.instant
highest_row [] row h e = absurd (omega arith)
highest_row (x ∷ []) row h e = ap (λ (r : DueRow). Some r.instant) (sym e)
highest_row (x ∷ y ∷ ys) row h e =
    let k : suc (suc (length ys)) - 1 ≡ suc (length ys) = omega arith in
    let j : suc (length ys) - 1 ≡ length ys = omega arith in
    let f : row ≡ get_or (y ∷ ys) (length ys) row = e ∙ ap (λ n. get_or (x ∷ y ∷ ys) n row) k in
    highest_row (y ∷ ys) row (omega arith) (f ∙ ap (λ n. get_or (y ∷ ys) n row) (sym j))

pub highest_closed : (rows : List DueRow) (row : DueRow) (n : ℕ) → n ≡ length rows → 0 < n → row ≡ get_or rows (n - 1) row → highest_of (row_instants (map row_view rows)) ≡ Some row.instant
highest_closed rows row n l h e = highest_row rows row (omega arith) (e ∙ ap (λ m. get_or rows (m - 1) row) l)

-- the same of instants alone
pub highest_number : (cs ns : List ℕ) (n : ℕ) → Some n ≡ slice_get ns (length ns - 1) → highest_of (cs ++ ns) ≡ Some n
highest_number cs [] n e = cc
highest_number [] (x ∷ []) n e = let f : Some n ≡ Some x = e in cc
highest_number [] (x ∷ y ∷ ys) n e =
    let k : suc (suc (length ys)) - 1 ≡ suc (length ys) = omega arith in
    let j : suc (length ys) - 1 ≡ length ys = omega arith in
    let f : Some n ≡ slice_get (y ∷ ys) (length ys) = rw k at e in
    highest_number [] (y ∷ ys) n (f ∙ ap (λ m. slice_get (y ∷ ys) m) (sym j))
highest_number (c ∷ []) (x ∷ xs) n e = highest_number [] (x ∷ xs) n e
highest_number (c ∷ d ∷ cs) (x ∷ xs) n e = highest_number (d ∷ cs) (x ∷ xs) n e

pub no_numbers : (ns : List ℕ) → false ≡ ltb 0 (length ns) → ns ≡ []
no_numbers [] h = refl
no_numbers (x ∷ xs) h = let k : ltb 0 (suc (length xs)) ≡ true = lower 0 (suc (length xs)) (omega arith) in absurd (false≢true (h ∙ k))

highest_back : (ns : List ℕ) (n : ℕ) → 0 < length ns → n ≡ get_or ns (length ns - 1) n → highest_of ns ≡ Some n
highest_back [] n h e = absurd (omega arith)
highest_back (x ∷ []) n h e = ap (λ m. Some m) (sym e)
highest_back (x ∷ y ∷ ys) n h e =
    let k : suc (suc (length ys)) - 1 ≡ suc (length ys) = omega arith in
    let j : suc (length ys) - 1 ≡ length ys = omega arith in
    let f : n ≡ get_or (y ∷ ys) (length ys) n = e ∙ ap (λ m. get_or (x ∷ y ∷ ys) m n) k in
    highest_back (y ∷ ys) n (omega arith) (f ∙ ap (λ m. get_or (y ∷ ys) m n) (sym j))

pub highest_last : (ns : List ℕ) (n k : ℕ) → k ≡ length ns → 0 < k → n ≡ get_or ns (k - 1) n → highest_of ns ≡ Some n
highest_last ns n k l h e = highest_back ns n (omega arith) (e ∙ ap (λ m. get_or ns (m - 1) n) l)
