-- The cells of held sections stand in columns of their own.
use Rattle.std.proofs.Common.{◌≡◌, ◌≢◌, ℕ, zero, suc, ◌+◌, ◌<◌, Bool, true, false, cond, List, [], ◌∷◌, ◌++◌, drop, length, map, refl, sym, subst, arith, take}
use Rattle.std.specs.Prelude.{◌==◌, if◌then◌else◌}
use Rattle.std.proofs.lemmas.Bool.{and_parts}
use Rattle.std.specs.List.{All, AllByRecursion}
use Rattle.pdc_cfg.specs.Shape.{word_count_of}
use Rattle.pdc_row.specs.CellView.{CellView}
use Rattle.pdc_row.specs.Rising.{Rises}
use Rattle.pdc_table.specs.Content.{HaveOwnColumns, IsPut, NoneIsOf}
use Rattle.pdc_align.specs.Align.{State}
use Rattle.pdc_align.specs.Calls.{column_in}
use Rattle.pdc_table.specs.pdc_columns.Parts.{cut_cells}
use Rattle.pdc_merge.specs.Cells.{are_in_force, cells_in, has_count}
use Rattle.pdc_merge.specs.Held.{AreInPlace}
use Rattle.pdc_merge.specs.declared.held_layout.HeldSection.{HeldSection}

abbrev Cells : Type 0
Cells = List (ℕ × CellView)

abbrev columns_above : List HeldSection → List ℕ
columns_above sections = map (λ (s : HeldSection). s.column + 1) sections

-- one cell more, or not
none_more : (c : ℕ) (b : Bool) (cell : ℕ × CellView) (rest : Cells) → cell.0 ≢ c → NoneIsOf c rest → NoneIsOf c (cond b (cell ∷ []) [] ++ rest)
none_more c true cell rest h k = (h, k)
none_more c false cell rest h k = k

own_more : (b : Bool) (cell : ℕ × CellView) (rest : Cells) → NoneIsOf cell.0 rest → HaveOwnColumns rest → HaveOwnColumns (cond b (cell ∷ []) [] ++ rest)
own_more true cell rest h k = (h, k)
own_more false cell rest h k = k

exist_more : (n : ℕ) (b : Bool) (cell : ℕ × CellView) (rest : Cells) → cell.0 < n → AllByRecursion (λ (part : ℕ × CellView). part.0 < n) rest
    → AllByRecursion (λ (part : ℕ × CellView). part.0 < n) (cond b (cell ∷ []) [] ++ rest)
exist_more n true cell rest h k = (h, k)
exist_more n false cell rest h k = k

abbrev cell_with : (quality : ℕ) → HeldSection → (words : List ℕ) → ℕ × CellView
cell_with quality s words = (s.column, record { block = record { shape = s.shape; words = words }; quality = quality })

none_below : (a : State) (quality c low : ℕ) (sections : List HeldSection) (words : List ℕ) → c < low → Rises low (columns_above sections) → NoneIsOf c (cells_in a quality sections words)
none_below a quality c low [] words l r = tt
none_below a quality c low (s ∷ sections) words l r =
    none_more c (has_count (column_in a s.column).in_force s.count) (cell_with quality s (take (word_count_of s.shape) words)) (cells_in a quality sections (drop (word_count_of s.shape) words))
    (λ e. omega (arith, l, r.0, e))
    (none_below a quality c (s.column + 1) sections (drop (word_count_of s.shape) words) (omega (arith, l, r.0)) r.1)

own_columns : (a : State) (quality low : ℕ) (sections : List HeldSection) (words : List ℕ) → Rises low (columns_above sections) → HaveOwnColumns (cells_in a quality sections words)
own_columns a quality low [] words r = tt
own_columns a quality low (s ∷ sections) words r =
    own_more (has_count (column_in a s.column).in_force s.count) (cell_with quality s (take (word_count_of s.shape) words)) (cells_in a quality sections (drop (word_count_of s.shape) words))
    (none_below a quality s.column (s.column + 1) sections (drop (word_count_of s.shape) words) (omega arith) r.1)
    (own_columns a quality (s.column + 1) sections (drop (word_count_of s.shape) words) r.1)

cells_exist : (a : State) (quality n : ℕ) (sections : List HeldSection) (words : List ℕ) → AllByRecursion (λ (s : HeldSection). s.column < n) sections
    → AllByRecursion (λ (part : ℕ × CellView). part.0 < n) (cells_in a quality sections words)
cells_exist a quality n [] words e = tt
cells_exist a quality n (s ∷ sections) words e =
    exist_more n (has_count (column_in a s.column).in_force s.count) (cell_with quality s (take (word_count_of s.shape) words)) (cells_in a quality sections (drop (word_count_of s.shape) words))
    e.0 (cells_exist a quality n sections (drop (word_count_of s.shape) words) e.1)

each_is : {A : Type 0} (P : A → Type 0) (xs : List A) → AllByRecursion P xs → All P xs
each_is P [] a k d l = absurd (omega (arith, l))
each_is P (x ∷ xs) a zero d l = a.0
each_is P (x ∷ xs) a (suc k) d l = each_is P xs a.1 k d (omega (arith, l))

two_streams : (s columns lanes : ℕ) → lanes ≡ 2 → s < 2 → s < (if lanes == 1 then columns else 2)
two_streams s columns lanes e l = subst (λ n. s < (if n == 1 then columns else 2)) (sym e) l

-- They may be put.
pub is_put : (a : State) (s quality : ℕ) (sections : List HeldSection) (words : List ℕ) → length a.columns ≡ a.content.columns → a.content.lanes ≡ 2 → s < 2 → AreInPlace (length a.columns) sections
    → IsPut a.content s (cells_in a quality sections words)
is_put a s quality sections words each lanes two place = record {
  stream_exists = two_streams s a.content.columns a.content.lanes lanes two;
  columns_exist = each_is (λ (cell : ℕ × CellView). cell.0 < a.content.columns) (cells_in a quality sections words)
      (cells_exist a quality a.content.columns sections words (subst (λ n. AllByRecursion (λ (t : HeldSection). t.column < n) sections) each place.exist));
  own_column = λ one. absurd (omega (arith, lanes, one));
  once = own_columns a quality 0 sections words place.rise;
}

given_more : (b : Bool) (cell : ℕ × CellView) (rest more : Cells) → b ≡ true → rest ≡ more → cond b (cell ∷ []) [] ++ rest ≡ cell ∷ more
given_more b cell rest more e k = rw (e, k) refl

-- where the count of each section is in force, each gives its cell
pub all_given : (a : State) (quality : ℕ) (sections : List HeldSection) (words : List ℕ) → are_in_force a sections ≡ true
    → cells_in a quality sections words ≡ cut_cells (λ (s : HeldSection). s.column) (λ (s : HeldSection). s.shape) sections quality words
all_given a quality [] words h = refl
all_given a quality (s ∷ sections) words h =
    given_more (has_count (column_in a s.column).in_force s.count) (cell_with quality s (take (word_count_of s.shape) words))
    (cells_in a quality sections (drop (word_count_of s.shape) words))
    (cut_cells (λ (t : HeldSection). t.column) (λ (t : HeldSection). t.shape) sections quality (drop (word_count_of s.shape) words))
    (and_parts (has_count (column_in a s.column).in_force s.count) (are_in_force a sections) h).0
    (all_given a quality sections (drop (word_count_of s.shape) words) (and_parts (has_count (column_in a s.column).in_force s.count) (are_in_force a sections) h).1)
