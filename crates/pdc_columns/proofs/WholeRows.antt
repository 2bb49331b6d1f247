-- Rows whose columns all have a shape, and are laid out in it.
use Rattle.std.proofs.Common.{◌≡◌, ◌∙◌, ◌+◌, ◌%◌, ◌<◌, ℕ, Bool, true, false, not, true≢false, List, [], ◌∷◌, ◌++◌, None, Option, Some, ap, append-nil, arith, cond, drop, get_or, length, map, nat_eq, refl, replicate, set, suc, sym, take, zero}
use Rattle.std.specs.Prelude.{max, option_map}
use Rattle.std.specs.Option.{option_to_list}
use Rattle.std.specs.Cmp.Lexicographic.{pointwise, same_text}
use Rattle.std.proofs.lemmas.List.{drop_all, length-map, take_all}
use Rattle.pdc_row.specs.pdc_cfg.declared.shape.Shape.{Shape}
use Rattle.pdc_row.specs.CellView.{BlockView, absent_of, absent_view, is_present}
use Rattle.pdc_row.specs.Chosen.{block_or_absent}
use Rattle.pdc_row.specs.KeptBlocks.{shapes_of}
use Rattle.pdc_row.specs.Quality.{greatest, quality_of, time_quality_of}
use Rattle.pdc_columns.specs.Chosen.{block_in, chosen_of}
use Rattle.pdc_columns.specs.ColumnParts.{GivesHere, column_of, columns_of, nothing}
use Rattle.pdc_columns.specs.Giving.{blocks_of, qualities_at, qualities_of}
use Rattle.pdc_columns.specs.Views.{ColumnView, empty_column}
use Rattle.pdc_columns.specs.declared.column.Held.{Held}
use Rattle.pdc_columns.proofs.ColumnParts.{column_at}
use Rattle.pdc_columns.proofs.RowSteps.{qualities_step}

-- some block, for places that are not there
abbrev pub spare : BlockView
spare = record { shape = record { phasors = 0; analogs = 0; digitals = 0; phasors_fit = omega arith; analogs_fit = omega arith; digitals_fit = omega arith }; words = [] }

-- ---- a list that is written over another, one after the other

stepped : {A : Type 0} → (rs fs : List A) (i : ℕ) (d : A) → i < length rs → i < length fs → set (take i rs ++ drop i fs) i (get_or rs i d) ≡ take (suc i) rs ++ drop (suc i) fs
stepped [] fs i d h k = absurd (omega arith)
stepped (r ∷ rs) [] i d h k = absurd (omega arith)
stepped (r ∷ rs) (f ∷ fs) zero d h k = refl
stepped (r ∷ rs) (f ∷ fs) (suc i) d h k = ap (λ xs. r ∷ xs) (stepped rs fs i d (omega arith) (omega arith))

pub step_over : {A : Type 0} → (rs fs : List A) (i : ℕ) (d : A) → i < length rs → i < length fs → set (take i rs ++ drop i fs) i (get_or rs i d) ≡ take (i + 1) rs ++ drop (i + 1) fs
step_over rs fs i d h k = stepped rs fs i d h k ∙ ap (λ n. take n rs ++ drop n fs) {x = suc i} {y = i + 1} (omega arith)

pub at_over : {A : Type 0} → (rs fs : List A) (i : ℕ) (d : A) → i < length rs → i < length fs → get_or (take i rs ++ drop i fs) i d ≡ get_or fs i d
at_over [] fs i d h k = absurd (omega arith)
at_over (r ∷ rs) [] i d h k = absurd (omega arith)
at_over (r ∷ rs) (f ∷ fs) zero d h k = refl
at_over (r ∷ rs) (f ∷ fs) (suc i) d h k = at_over rs fs i d (omega arith) (omega arith)

pub count_over : {A : Type 0} → (rs fs : List A) (i : ℕ) → length rs ≡ length fs → length (take i rs ++ drop i fs) ≡ length fs
count_over [] [] zero e = refl
count_over [] [] (suc i) e = refl
count_over [] (f ∷ fs) i e = absurd (omega (arith, e))
count_over (r ∷ rs) [] i e = absurd (omega (arith, e))
count_over (r ∷ rs) (f ∷ fs) zero e = refl
count_over (r ∷ rs) (f ∷ fs) (suc i) e = ap suc (count_over rs fs i (omega (arith, e)))

pub all_over : {A : Type 0} → (rs fs : List A) → length rs ≡ length fs → take (length fs) rs ++ drop (length fs) fs ≡ rs
all_over rs fs e = rw (drop_all (length fs) fs (omega arith), append-nil (take (length fs) rs)) (take_all (length fs) rs (omega (arith, e)))

-- ---- each column has a shape

-- how many blocks they give
pub whole_count : (hs : List Held) (fs ss : List BlockView) → length fs ≡ length hs → length ss ≡ length hs → length (blocks_of (map Some (shapes_of fs)) (columns_of hs fs ss)) ≡ length fs
whole_count [] [] ss h k = refl
whole_count [] (f ∷ fs) ss h k = absurd (omega (arith, h))
whole_count (x ∷ hs) [] ss h k = absurd (omega (arith, h))
whole_count (x ∷ hs) (f ∷ fs) [] h k = absurd (omega (arith, k))
whole_count (x ∷ hs) (f ∷ fs) (s ∷ ss) h k = ap suc (whole_count hs fs ss (omega (arith, h)) (omega (arith, k)))

-- their shapes
pub shape_at : (fs : List BlockView) (i : ℕ) (d : BlockView) → get_or (shapes_of fs) i d.shape ≡ (get_or fs i d).shape
shape_at [] i d = refl
shape_at (f ∷ fs) zero d = refl
shape_at (f ∷ fs) (suc i) d = shape_at fs i d

-- and which each gives
pub whole_at : (hs : List Held) (fs ss : List BlockView) (i : ℕ) (d : BlockView) (shape : Shape) → i < length fs → length fs ≡ length hs → length ss ≡ length hs → get_or (blocks_of (map Some (shapes_of fs)) (columns_of hs fs ss)) i d ≡ block_in (get_or (shapes_of fs) i shape) (column_of (get_or hs i nothing) (get_or fs i d) (get_or ss i d))
whole_at [] [] ss i d shape l h k = absurd (omega (arith, l))
whole_at [] (f ∷ fs) ss i d shape l h k = absurd (omega (arith, h))
whole_at (x ∷ hs) [] ss i d shape l h k = absurd (omega (arith, h))
whole_at (x ∷ hs) (f ∷ fs) [] i d shape l h k = absurd (omega (arith, k))
whole_at (x ∷ hs) (f ∷ fs) (s ∷ ss) zero d shape l h k = refl
whole_at (x ∷ hs) (f ∷ fs) (s ∷ ss) (suc i) d shape l h k = whole_at hs fs ss i d shape (omega (arith, l)) (omega (arith, h)) (omega (arith, k))

some_at : (shapes : List Shape) (i : ℕ) (shape : Shape) → i < length shapes → get_or (map Some shapes) i None ≡ Some (get_or shapes i shape)
some_at [] i shape l = absurd (omega arith)
some_at (s ∷ shapes) zero shape l = refl
some_at (s ∷ shapes) (suc i) shape l = some_at shapes i shape (omega arith)

-- the qualities from a column on
pub whole_qualities : (hs : List Held) (fs ss : List BlockView) (i : ℕ) (d : BlockView) (shape : Shape) → i < length fs → length fs ≡ length hs → length ss ≡ length hs
    → qualities_of (drop i (map Some (shapes_of fs))) (drop i (columns_of hs fs ss))
    ≡ option_to_list (option_map time_quality_of (chosen_of (column_of (get_or hs i nothing) (get_or fs i d) (get_or ss i d)))) ++ qualities_of (drop (i + 1) (map Some (shapes_of fs))) (drop (i + 1) (columns_of hs fs ss))
whole_qualities hs fs ss i d shape l h k =
    let os : List (Option Shape) = map Some (shapes_of fs) in
    let cs : List ColumnView = columns_of hs fs ss in
    let rest : List ℕ = qualities_of (drop (i + 1) os) (drop (i + 1) cs) in
    let many : length (shapes_of fs) ≡ length fs = length-map fs (λ (b : BlockView). b.shape) in
    qualities_step os cs i (omega (arith, l, many, length-map (shapes_of fs) (λ (s : Shape). Some s)))
    ∙ ap (λ o. qualities_at o (get_or cs i empty_column) ++ rest) (some_at (shapes_of fs) i shape (omega (arith, l, many)))
    ∙ ap (λ (c : ColumnView). option_to_list (option_map time_quality_of (chosen_of c)) ++ rest)
    (column_at hs fs ss i empty_column nothing d d (omega (arith, l, h)) (omega (arith, h)) (omega (arith, k)))

-- ---- the same is held of each column, and lane 1 has nothing else

-- the block of a column is then that of lane 0, also where it is the absent one
kept_or_absent : (b : Bool) (f : BlockView) (q : ℕ) → (b ≡ false → absent_view f.shape ≡ f) → block_or_absent f.shape (cond b (Some (record { block = f; quality = q })) None) ≡ f
kept_or_absent true f q absent = refl
kept_or_absent false f q absent = absent refl

pub not_other : (b : Bool) → not b ≡ false → b ≡ true
not_other true e = refl
not_other false e = absurd (true≢false e)

pub is_absent : (f : BlockView) → is_present f ≡ false → absent_view f.shape ≡ f
is_absent f e =
    let words : f.words ≡ absent_of f.shape = same_text f.words (absent_of f.shape) (sym (not_other (pointwise nat_eq f.words (absent_of f.shape)) e)) in
    λ i. record { shape = f.shape; words = sym words i }

block_once : (h : Held) (q : ℕ) (f s : BlockView) → GivesHere h q → block_in f.shape (column_of h f s) ≡ f
block_once h q f s g = ap (block_or_absent f.shape) (g f s) ∙ kept_or_absent (is_present f) f q (is_absent f)

pub blocks_once : (h : Held) (q : ℕ) (fs ss : List BlockView) → length ss ≡ length fs → GivesHere h q → blocks_of (map Some (shapes_of fs)) (columns_of (replicate (length fs) h) fs ss) ≡ fs
blocks_once h q [] ss k g = refl
blocks_once h q (f ∷ fs) [] k g = absurd (omega (arith, k))
blocks_once h q (f ∷ fs) (s ∷ ss) k g = rw (block_once h q f s g, blocks_once h q fs ss (omega (arith, k)) g) refl

-- the quality of each block that is present
abbrev pub of_present : ℕ → List BlockView → List ℕ
of_present q [] = []
of_present q (f ∷ fs) = option_to_list (cond (is_present f) (Some q) None) ++ of_present q fs

quality_once : (b : Bool) (f : BlockView) (q : ℕ) → option_map time_quality_of (cond b (Some (record { block = f; quality = q })) None) ≡ cond b (Some (q % 16)) None
quality_once true f q = refl
quality_once false f q = refl

pub qualities_once : (h : Held) (q : ℕ) (fs ss : List BlockView) → length ss ≡ length fs → GivesHere h q → qualities_of (map Some (shapes_of fs)) (columns_of (replicate (length fs) h) fs ss) ≡ of_present (q % 16) fs
qualities_once h q [] ss k g = refl
qualities_once h q (f ∷ fs) [] k g = absurd (omega (arith, k))
qualities_once h q (f ∷ fs) (s ∷ ss) k g =
    let own : option_map time_quality_of (chosen_of (column_of h f s)) ≡ cond (is_present f) (Some (q % 16)) None =
    ap (option_map time_quality_of) (g f s) ∙ quality_once (is_present f) f q in
    ap (λ o. option_to_list o ++ qualities_of (map Some (shapes_of fs)) (columns_of (replicate (length fs) h) fs ss)) own
    ∙ ap (λ qs. option_to_list (cond (is_present f) (Some (q % 16)) None) ++ qs) (qualities_once h q fs ss (omega (arith, k)) g)

same_max : (n : ℕ) → max n n ≡ n
same_max n = omega arith

greatest_more : (b : Bool) (q : ℕ) (qs : List ℕ) → greatest q qs ≡ q → greatest q (option_to_list (cond b (Some q) None) ++ qs) ≡ q
greatest_more true q qs e = ap (λ n. greatest n qs) (same_max q) ∙ e
greatest_more false q qs e = e

greatest_once : (q : ℕ) (fs : List BlockView) → greatest q (of_present q fs) ≡ q
greatest_once q [] = refl
greatest_once q (f ∷ fs) = greatest_more (is_present f) q (of_present q fs) (greatest_once q fs)

quality_more : (b : Bool) (q : ℕ) (qs : List ℕ) → greatest q qs ≡ q → quality_of qs ≡ q → quality_of (option_to_list (cond b (Some q) None) ++ qs) ≡ q
quality_more true q qs g e = g
quality_more false q qs g e = e

-- where some block is present, that is the quality
pub quality_of_present : (q : ℕ) (fs : List BlockView) (i : ℕ) (d : BlockView) → i < length fs → is_present (get_or fs i d) ≡ true → quality_of (of_present q fs) ≡ q
quality_of_present q [] i d l e = absurd (omega arith)
quality_of_present q (f ∷ fs) zero d l e = ap (λ b. quality_of (option_to_list (cond b (Some q) None) ++ of_present q fs)) e ∙ greatest_once q fs
quality_of_present q (f ∷ fs) (suc i) d l e = quality_more (is_present f) q (of_present q fs) (greatest_once q fs) (quality_of_present q fs i d (omega arith) e)

-- and where none is, there is none
pub none_present : (q : ℕ) (fs : List BlockView) (d : BlockView) → ((i : ℕ) → i < length fs → is_present (get_or fs i d) ≡ false) → of_present q fs ≡ []
none_present q [] d h = refl
none_present q (f ∷ fs) d h =
    ap (λ b. option_to_list (cond b (Some q) None) ++ of_present q fs) (h 0 (omega arith))
    ∙ none_present q fs d (λ i l. h (suc i) (omega arith))
