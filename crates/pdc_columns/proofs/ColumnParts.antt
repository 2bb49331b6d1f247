-- The columns of an open row whose flags and cells stand in lists of their own.
use Rattle.std.proofs.Common.{◌≡◌, true≢false, not, nat_eq, ℕ, ◌<◌, ◌≤◌, Bool, true, false, cond, eqb, ◌||◌, List, [], ◌∷◌, length, get_or, set, replicate, map, None, Some, Option, ap, sym, refl, ◌∙◌, arith, zero, suc}
use Rattle.std.specs.Prelude.{is_some}
use Rattle.std.specs.Cmp.Lexicographic.{pointwise}
use Rattle.std.proofs.lemmas.Bool.{eq-eqb, or_parts}
use Rattle.std.proofs.lemmas.List.{get_or_default}
use Rattle.pdc_row.specs.pdc_cfg.declared.shape.Shape.{Shape}
use Rattle.pdc_row.specs.CellView.{BlockView, CellView, is_present, same_block}
use Rattle.pdc_row.specs.Chosen.{present_of}
use Rattle.pdc_columns.specs.Chosen.{are_different, disagreement_at, disagreements_of}
use Rattle.pdc_columns.specs.ColumnParts.{block_of_second, column_of, columns_of, nothing, without_lane}
use Rattle.pdc_columns.specs.Taking.{any_second, with_cell, with_cells}
use Rattle.pdc_columns.specs.Views.{ColumnView, empty_column, kept}
use Rattle.pdc_columns.specs.declared.column.Held.{Held}

pub columns_count : (hs : List Held) (fs ss : List BlockView) → length hs ≤ length fs → length hs ≤ length ss → length (columns_of hs fs ss) ≡ length hs
columns_count [] fs ss h k = refl
columns_count (x ∷ hs) [] ss h k = absurd (omega arith)
columns_count (x ∷ hs) (f ∷ fs) [] h k = absurd (omega arith)
columns_count (x ∷ hs) (f ∷ fs) (s ∷ ss) h k = ap suc (columns_count hs fs ss (omega arith) (omega arith))

-- one column
pub column_at : (hs : List Held) (fs ss : List BlockView) (i : ℕ) (d : ColumnView) (x : Held) (f s : BlockView) → i < length hs → length hs ≤ length fs → length hs ≤ length ss → get_or (columns_of hs fs ss) i d ≡ column_of (get_or hs i x) (get_or fs i f) (get_or ss i s)
column_at [] fs ss i d x f s l h k = absurd (omega arith)
column_at (y ∷ hs) [] ss i d x f s l h k = absurd (omega arith)
column_at (y ∷ hs) (g ∷ fs) [] i d x f s l h k = absurd (omega arith)
column_at (y ∷ hs) (g ∷ fs) (t ∷ ss) zero d x f s l h k = refl
column_at (y ∷ hs) (g ∷ fs) (t ∷ ss) (suc i) d x f s l h k = column_at hs fs ss i d x f s (omega arith) (omega arith) (omega arith)

-- past the last column
pub column_past : (hs : List Held) (fs ss : List BlockView) (i : ℕ) (d : ColumnView) → length hs ≤ i → get_or (columns_of hs fs ss) i d ≡ d
column_past [] fs ss i d l = refl
column_past (y ∷ hs) [] ss i d l = refl
column_past (y ∷ hs) (g ∷ fs) [] i d l = refl
column_past (y ∷ hs) (g ∷ fs) (t ∷ ss) zero d l = absurd (omega arith)
column_past (y ∷ hs) (g ∷ fs) (t ∷ ss) (suc i) d l = column_past hs fs ss i d (omega arith)

-- what is held of a column is written, and its cells
pub column_written : (hs : List Held) (fs ss : List BlockView) (i : ℕ) (x : Held) (f s : BlockView) → i < length hs → length hs ≤ length fs → length hs ≤ length ss → columns_of (set hs i x) (set fs i f) (set ss i s) ≡ set (columns_of hs fs ss) i (column_of x f s)
column_written [] fs ss i x f s l h k = absurd (omega arith)
column_written (y ∷ hs) [] ss i x f s l h k = absurd (omega arith)
column_written (y ∷ hs) (g ∷ fs) [] i x f s l h k = absurd (omega arith)
column_written (y ∷ hs) (g ∷ fs) (t ∷ ss) zero x f s l h k = refl
column_written (y ∷ hs) (g ∷ fs) (t ∷ ss) (suc i) x f s l h k = ap (λ cs. column_of y g t ∷ cs) (column_written hs fs ss i x f s (omega arith) (omega arith) (omega arith))

-- a column is emptied
pub column_emptied : (hs : List Held) (fs ss : List BlockView) (i : ℕ) → i < length hs → length hs ≤ length fs → length hs ≤ length ss → columns_of (set hs i nothing) fs ss ≡ set (columns_of hs fs ss) i empty_column
column_emptied [] fs ss i l h k = absurd (omega arith)
column_emptied (y ∷ hs) [] ss i l h k = absurd (omega arith)
column_emptied (y ∷ hs) (g ∷ fs) [] i l h k = absurd (omega arith)
column_emptied (y ∷ hs) (g ∷ fs) (t ∷ ss) zero l h k = refl
column_emptied (y ∷ hs) (g ∷ fs) (t ∷ ss) (suc i) l h k = ap (λ cs. column_of y g t ∷ cs) (column_emptied hs fs ss i (omega arith) (omega arith) (omega arith))

-- all columns are empty
pub columns_emptied : (n : ℕ) (fs ss : List BlockView) → n ≤ length fs → n ≤ length ss → columns_of (replicate n nothing) fs ss ≡ replicate n empty_column
columns_emptied zero fs ss h k = refl
columns_emptied (suc n) [] ss h k = absurd (omega arith)
columns_emptied (suc n) (f ∷ fs) [] h k = absurd (omega arith)
columns_emptied (suc n) (f ∷ fs) (s ∷ ss) h k = ap (λ cs. empty_column ∷ cs) (columns_emptied n fs ss (omega arith) (omega arith))

lane_emptied_at : (is_first : Bool) (x : Held) (f s : BlockView) → column_of (cond is_first (record x { first = false }) (record x { second = false })) f s ≡ cond is_first (record (column_of x f s) { first = None }) (record (column_of x f s) { second = None })
lane_emptied_at true x f s = refl
lane_emptied_at false x f s = refl

-- a lane of each column is emptied
pub lane_emptied : (lane : ℕ) (hs : List Held) (fs ss : List BlockView) → columns_of (map (without_lane lane) hs) fs ss ≡ map (with_cell lane None) (columns_of hs fs ss)
lane_emptied lane [] fs ss = refl
lane_emptied lane (x ∷ hs) [] ss = refl
lane_emptied lane (x ∷ hs) (f ∷ fs) [] = refl
lane_emptied lane (x ∷ hs) (f ∷ fs) (s ∷ ss) = rw (lane_emptied_at (eqb lane 0) x f s, lane_emptied lane hs fs ss) refl

-- what stands at a place does so whatever stands past the end
own : {X : Type 0} → (xs : List X) (i : ℕ) (d : X) → i < length xs → get_or xs i d ≡ get_or xs i (get_or xs i d)
own xs i d l = get_or_default xs i d (get_or xs i d) l

-- a cell is put into a column
pub column_put : (hs : List Held) (fs ss : List BlockView) (i lane : ℕ) (cell : Option CellView) (x y : Held) (f s g t : BlockView) → i < length hs → length hs ≤ length fs → length hs ≤ length ss → column_of y g t ≡ with_cell lane cell (column_of (get_or hs i x) (get_or fs i f) (get_or ss i s)) → columns_of (set hs i y) (set fs i g) (set ss i t) ≡ set (columns_of hs fs ss) i (with_cell lane cell (get_or (columns_of hs fs ss) i empty_column))
column_put hs fs ss i lane cell x y f s g t l h k p =
    column_written hs fs ss i y g t l h k
    ∙ ap (λ c. set (columns_of hs fs ss) i c) (p ∙ ap (with_cell lane cell) (sym (column_at hs fs ss i empty_column x f s l h k)))

-- how many columns there are
pub columns_seen : (columns : List ColumnView) (hs : List Held) (fs ss : List BlockView) → columns_of hs fs ss ≡ columns → length hs ≤ length fs → length hs ≤ length ss → length columns ≡ length hs
columns_seen columns hs fs ss e h k = ap length (sym e) ∙ columns_count hs fs ss h k

-- a lane of each column, or all of each, is emptied
pub lane_dropped : (columns : List ColumnView) (lane : ℕ) (hs ws : List Held) (fs ss : List BlockView) → columns_of hs fs ss ≡ columns → ws ≡ map (without_lane lane) hs → columns_of ws fs ss ≡ map (with_cell lane None) columns
lane_dropped columns lane hs ws fs ss e k = ap (λ xs. columns_of xs fs ss) k ∙ lane_emptied lane hs fs ss ∙ ap (map (with_cell lane None)) e

pub all_dropped : (columns : List ColumnView) (hs ws : List Held) (fs ss : List BlockView) → columns_of hs fs ss ≡ columns → ws ≡ replicate (length hs) nothing → length fs ≡ length hs → length ss ≡ length hs → columns_of ws fs ss ≡ replicate (length columns) empty_column
all_dropped columns hs ws fs ss e k h m =
    ap (λ xs. columns_of xs fs ss) k
    ∙ columns_emptied (length hs) fs ss (omega (arith, h)) (omega (arith, m))
    ∙ ap (λ n. replicate n empty_column) (sym (columns_seen columns hs fs ss e (omega (arith, h)) (omega (arith, m))))

-- and what was laid out otherwise in between
pub all_given : (columns : List ColumnView) (hs ws : List Held) (fs gs ss : List BlockView) → columns_of hs fs ss ≡ columns → ws ≡ replicate (length hs) nothing → length fs ≡ length hs → length gs ≡ length hs → length ss ≡ length hs → columns_of ws gs ss ≡ replicate (length columns) empty_column
all_given columns hs ws fs gs ss e k h g m =
    ap (λ xs. columns_of xs gs ss) k
    ∙ columns_emptied (length hs) gs ss (omega (arith, g)) (omega (arith, m))
    ∙ ap (λ n. replicate n empty_column) (sym (columns_seen columns hs fs ss e (omega (arith, h)) (omega (arith, m))))

pub one_dropped : (columns : List ColumnView) (hs ws : List Held) (fs ss : List BlockView) (i : ℕ) → columns_of hs fs ss ≡ columns → ws ≡ set hs i nothing → i < length hs → length fs ≡ length hs → length ss ≡ length hs → columns_of ws fs ss ≡ set columns i empty_column
one_dropped columns hs ws fs ss i e k l h m =
    ap (λ xs. columns_of xs fs ss) k ∙ column_emptied hs fs ss i l (omega (arith, h)) (omega (arith, m)) ∙ ap (λ cs. set cs i empty_column) e

-- a cell is put into a column
pub column_given : (columns : List ColumnView) (hs ws : List Held) (fs ss gs ts : List BlockView) (i lane : ℕ) (cell : Option CellView) (y : Held) (d : BlockView) → columns_of hs fs ss ≡ columns → ws ≡ set hs i y → gs ≡ set fs i (get_or gs i d) → ts ≡ set ss i (get_or ts i d) → i < length hs → length fs ≡ length hs → length ss ≡ length hs → column_of y (get_or gs i d) (get_or ts i d) ≡ with_cell lane cell (column_of (get_or hs i nothing) (get_or fs i d) (get_or ss i d)) → columns_of ws gs ts ≡ set columns i (with_cell lane cell (get_or columns i empty_column))
column_given columns hs ws fs ss gs ts i lane cell y d e w g t l h k p =
    ap (λ xs. columns_of xs gs ts) w
    ∙ ap (λ xs. columns_of (set hs i y) xs ts) g
    ∙ ap (λ xs. columns_of (set hs i y) (set fs i (get_or gs i d)) xs) t
    ∙ column_put hs fs ss i lane cell nothing y (get_or fs i d) (get_or ss i d) (get_or gs i d) (get_or ts i d) l (omega (arith, h)) (omega (arith, k))
    (p ∙ ap (λ f. with_cell lane cell (column_of (get_or hs i nothing) f (get_or ss i d))) (own fs i d (omega (arith, l, h)))
    ∙ ap (λ s. with_cell lane cell (column_of (get_or hs i nothing) (get_or fs i (get_or fs i d)) s)) (own ss i d (omega (arith, l, k))))
    ∙ ap (λ cs. set cs i (with_cell lane cell (get_or cs i empty_column))) e

-- what is seen of columns, one of them, and what is behind the last
pub placed : (columns : List ColumnView) (hs : List Held) (fs ss : List BlockView) (i : ℕ) → columns_of hs fs ss ≡ columns → length fs ≡ length hs → length ss ≡ length hs → i < length columns → i < length hs
placed columns hs fs ss i e h k l = omega (arith, columns_seen columns hs fs ss e (omega (arith, h)) (omega (arith, k)))

pub column_seen : (columns : List ColumnView) (hs : List Held) (fs ss : List BlockView) (i : ℕ) (d : ColumnView) (b : BlockView) → columns_of hs fs ss ≡ columns → i < length hs → length fs ≡ length hs → length ss ≡ length hs → get_or columns i d ≡ column_of (get_or hs i nothing) (get_or fs i b) (get_or ss i b)
column_seen columns hs fs ss i d b e l h k =
    ap (λ (cs : List ColumnView). get_or cs i d) (sym e)
    ∙ column_at hs fs ss i d nothing b b l (omega (arith, h)) (omega (arith, k))

pub past_seen : (columns : List ColumnView) (hs : List Held) (fs ss : List BlockView) (i : ℕ) (d : ColumnView) → columns_of hs fs ss ≡ columns → length hs ≤ i → get_or columns i d ≡ d
past_seen columns hs fs ss i d e l = ap (λ (cs : List ColumnView). get_or cs i d) (sym e) ∙ column_past hs fs ss i d l

-- whether lane 1 of some column holds a cell is what is held of them
is_kept : (b : Bool) (cell : CellView) → is_some (kept b cell) ≡ b
is_kept true cell = refl
is_kept false cell = refl

-- with nothing in lane 1, each column has nothing there
pub none_second : (hs : List Held) (fs ss : List BlockView) (i : ℕ) (x : Held) → i < length hs → length hs ≤ length fs → length hs ≤ length ss → any_second (columns_of hs fs ss) ≡ false → (get_or hs i x).second ≡ false
none_second [] fs ss i x l a b e = absurd (omega arith)
none_second (h ∷ hs) [] ss i x l a b e = absurd (omega arith)
none_second (h ∷ hs) (f ∷ fs) [] i x l a b e = absurd (omega arith)
none_second (h ∷ hs) (f ∷ fs) (s ∷ ss) zero x l a b e = sym (is_kept h.second (record { block = block_of_second h f s; quality = h.second_quality })) ∙ (or_parts (is_some (column_of h f s).second) (any_second (columns_of hs fs ss)) e).0
none_second (h ∷ hs) (f ∷ fs) (s ∷ ss) (suc i) x l a b e = none_second hs fs ss i x (omega arith) (omega arith) (omega arith) (or_parts (is_some (column_of h f s).second) (any_second (columns_of hs fs ss)) e).1

pub none_seen : (columns : List ColumnView) (hs : List Held) (fs ss : List BlockView) (i : ℕ) → columns_of hs fs ss ≡ columns → i < length hs → length fs ≡ length hs → length ss ≡ length hs → any_second columns ≡ false → (get_or hs i nothing).second ≡ false
none_seen columns hs fs ss i e l h k a = none_second hs fs ss i nothing l (omega (arith, h)) (omega (arith, k)) (ap any_second e ∙ a)

-- where lane 1 holds nothing, it holds nothing when a column is emptied
pub none_set : (cs : List ColumnView) (i : ℕ) → any_second cs ≡ false → any_second (set cs i empty_column) ≡ false
none_set [] i e = refl
none_set (c ∷ cs) zero e = (or_parts (is_some c.second) (any_second cs) e).1
none_set (c ∷ cs) (suc i) e = rw ((or_parts (is_some c.second) (any_second cs) e).0, none_set cs i (or_parts (is_some c.second) (any_second cs) e).1) refl

without_second : (is_first : Bool) (c : ColumnView) → is_some c.second ≡ false → is_some (cond is_first (record c { first = None }) (record c { second = None })).second ≡ false
without_second true c e = e
without_second false c e = refl

-- and when a lane of each column is emptied
pub none_mapped : (lane : ℕ) (cs : List ColumnView) → any_second cs ≡ false → any_second (map (with_cell lane None) cs) ≡ false
none_mapped lane [] e = refl
none_mapped lane (c ∷ cs) e =
    rw (without_second (eqb lane 0) c (or_parts (is_some c.second) (any_second cs) e).0, none_mapped lane cs (or_parts (is_some c.second) (any_second cs) e).1) refl

-- empty columns hold nothing in lane 1
pub none_replicated : (n : ℕ) → any_second (replicate n empty_column) ≡ false
none_replicated zero = refl
none_replicated (suc n) = none_replicated n

-- a cell that is put into lane 0 leaves whether some column holds a cell in lane 1
second_kept : (lane : ℕ) (cell : Option CellView) (cs : List ColumnView) (i : ℕ) → lane ≡ 0 → any_second (set cs i (with_cell lane cell (get_or cs i empty_column))) ≡ any_second cs
second_kept lane cell [] i e = refl
second_kept lane cell (c ∷ cs) zero e = rw e refl
second_kept lane cell (c ∷ cs) (suc i) e = ap (λ b. is_some c.second || b) (second_kept lane cell cs i e)

pub seconds_kept : (lane : ℕ) (cells : List (ℕ × CellView)) (cs : List ColumnView) → lane ≡ 0 → any_second (with_cells lane cells cs) ≡ any_second cs
seconds_kept lane [] cs e = refl
seconds_kept lane (cell ∷ cells) cs e =
    seconds_kept lane cells (set cs cell.0 (with_cell lane (Some cell.1) (get_or cs cell.0 empty_column))) e
    ∙ second_kept lane (Some cell.1) cs cell.0 e

-- with nothing in lane 1, no column disagrees
lone : (first second : Option CellView) → is_some second ≡ false → cond {A = ℕ} (are_different (present_of first) (present_of second)) 1 0 ≡ 0
lone first (Some cell) e = absurd (true≢false e)
lone first None e = lone_first (present_of first)
  where
    lone_first : (a : Option CellView) → cond {A = ℕ} (are_different a None) 1 0 ≡ 0
    lone_first None = refl
    lone_first (Some c) = refl

alone : (shape : Option Shape) (c : ColumnView) → is_some c.second ≡ false → disagreement_at shape c ≡ 0
alone None c e = refl
alone (Some shape) c e = lone c.first c.second e

pub nothing_disagrees : (shape : Option Shape) → disagreement_at shape empty_column ≡ 0
nothing_disagrees shape = alone shape empty_column refl

pub none_disagree : (shapes : List (Option Shape)) (cs : List ColumnView) → any_second cs ≡ false → disagreements_of shapes cs ≡ 0
none_disagree [] cs e = refl
none_disagree (shape ∷ shapes) [] e = refl
none_disagree (shape ∷ shapes) (c ∷ cs) e =
    rw (alone shape c (or_parts (is_some c.second) (any_second cs) e).0, none_disagree shapes cs (or_parts (is_some c.second) (any_second cs) e).1) refl

-- nor where the same is held of each, and lane 1 has the block of lane 0 or none
same_numbers : (ns : List ℕ) → pointwise nat_eq ns ns ≡ true
same_numbers [] = refl
same_numbers (n ∷ ns) = rw (eq-eqb n n refl, same_numbers ns) refl

is_same : (f : BlockView) → same_block f f ≡ true
is_same f = rw (eq-eqb f.shape.phasors f.shape.phasors refl, eq-eqb f.shape.analogs f.shape.analogs refl, eq-eqb f.shape.digitals f.shape.digitals refl, same_numbers f.words) refl

same_blocks : (b : Bool) (f : BlockView) (q r : ℕ) → cond {A = ℕ} (are_different (cond b (Some (record { block = f; quality = q })) None) (cond b (Some (record { block = f; quality = r })) None)) 1 0 ≡ 0
same_blocks true f q r = ap (λ e. cond {A = ℕ} (not e) 1 0) (is_same f)
same_blocks false f q r = refl

different_once : (is_first is_second alike : Bool) (f s : BlockView) (q r : ℕ) → (alike || not is_second) ≡ true
    → cond {A = ℕ} (are_different (present_of (kept is_first (record { block = f; quality = q }))) (present_of (kept is_second (record { block = cond alike f s; quality = r })))) 1 0 ≡ 0
different_once is_first false alike f s q r e = lone (kept is_first (record { block = f; quality = q })) None refl
different_once false true alike f s q r e = refl
different_once true true true f s q r e = same_blocks (is_present f) f q r
different_once true true false f s q r e = absurd (true≢false (sym e))

disagreement_once : (shape : Option Shape) (h : Held) (f s : BlockView) → (h.alike || not h.second) ≡ true → disagreement_at shape (column_of h f s) ≡ 0
disagreement_once None h f s e = refl
disagreement_once (Some shape) h f s e = different_once h.first h.second h.alike f s h.first_quality h.second_quality e

one_disagrees : (shapes : List (Option Shape)) (n : ℕ) (h : Held) (fs ss : List BlockView) → (h.alike || not h.second) ≡ true → disagreements_of shapes (columns_of (replicate n h) fs ss) ≡ 0
one_disagrees [] n h fs ss e = refl
one_disagrees (shape ∷ shapes) zero h fs ss e = refl
one_disagrees (shape ∷ shapes) (suc n) h [] ss e = refl
one_disagrees (shape ∷ shapes) (suc n) h (f ∷ fs) [] e = refl
one_disagrees (shape ∷ shapes) (suc n) h (f ∷ fs) (s ∷ ss) e = rw (disagreement_once shape h f s e, one_disagrees shapes n h fs ss e) refl

pub none_disagree_once : (shapes : List (Option Shape)) (columns : List ColumnView) (hs : List Held) (h : Held) (fs ss : List BlockView) → columns_of hs fs ss ≡ columns → hs ≡ replicate (length hs) h → (h.alike || not h.second) ≡ true → disagreements_of shapes columns ≡ 0
none_disagree_once shapes columns hs h fs ss seen one e =
    ap (disagreements_of shapes) (sym seen)
    ∙ ap (λ (xs : List Held). disagreements_of shapes (columns_of xs fs ss)) one
    ∙ one_disagrees shapes (length hs) h fs ss e

pub or_last : (a b : Bool) → b ≡ true → (a || b) ≡ true
or_last true b e = refl
or_last false b e = e

empty_shown : (h : Held) (f s : BlockView) → h.first ≡ false → h.second ≡ false → column_of h f s ≡ empty_column
empty_shown h f s e k = rw (e, k) refl

-- where nothing is held, it does not matter which blocks stand there
pub nothing_shown : (n : ℕ) (h : Held) (fs ss : List BlockView) → h.first ≡ false → h.second ≡ false → length fs ≡ n → length ss ≡ n → columns_of (replicate n h) fs ss ≡ replicate n empty_column
nothing_shown zero h fs ss e k a b = refl
nothing_shown (suc n) h [] ss e k a b = absurd (omega (arith, a))
nothing_shown (suc n) h (f ∷ fs) [] e k a b = absurd (omega (arith, b))
nothing_shown (suc n) h (f ∷ fs) (s ∷ ss) e k a b =
    ap (λ column. column ∷ columns_of (replicate n h) fs ss) (empty_shown h f s e k)
    ∙ ap (λ columns. empty_column ∷ columns) (nothing_shown n h fs ss e k (omega (arith, a)) (omega (arith, b)))

pub all_new : (columns : List ColumnView) (hs : List Held) (h : Held) (fs ss : List BlockView) → columns_of hs fs ss ≡ columns → hs ≡ replicate (length hs) h → length fs ≡ length hs → length ss ≡ length hs → h.first ≡ false → h.second ≡ false → columns ≡ replicate (length columns) empty_column
all_new columns hs h fs ss seen one a b e k =
    sym seen
    ∙ ap (λ (xs : List Held). columns_of xs fs ss) one
    ∙ nothing_shown (length hs) h fs ss e k a b
    ∙ ap (λ n. replicate n empty_column) (sym (columns_seen columns hs fs ss seen (omega (arith, a)) (omega (arith, b))))

pub laid_out_again : (columns : List ColumnView) (hs : List Held) (h : Held) (fs ss gs ts : List BlockView) → columns_of hs fs ss ≡ columns → hs ≡ replicate (length hs) h → h.first ≡ false → h.second ≡ false
    → length fs ≡ length hs → length ss ≡ length hs → length gs ≡ length hs → length ts ≡ length hs → columns_of hs gs ts ≡ columns
laid_out_again columns hs h fs ss gs ts seen one e k a b c d =
    ap (λ (xs : List Held). columns_of xs gs ts) one
    ∙ nothing_shown (length hs) h gs ts e k c d
    ∙ sym (nothing_shown (length hs) h fs ss e k a b)
    ∙ ap (λ (xs : List Held). columns_of xs fs ss) (sym one)
    ∙ seen

-- a column that holds nothing shows none of its blocks
shows_nothing : (h : Held) (f s : BlockView) → h.first ≡ false → h.second ≡ false → column_of h f s ≡ empty_column
shows_nothing h f s e k =
    ap {B = ColumnView} (λ x. record { first = kept x (record { block = f; quality = h.first_quality }); second = kept h.second (record { block = block_of_second h f s; quality = h.second_quality }) }) e
    ∙ ap {B = ColumnView} (λ x. record { first = None; second = kept x (record { block = block_of_second h f s; quality = h.second_quality }) }) k

pub laid_empty : (hs : List Held) (fs ss : List BlockView) (i : ℕ) (b : BlockView) → (get_or hs i nothing).first ≡ false → (get_or hs i nothing).second ≡ false → columns_of hs (set fs i b) ss ≡ columns_of hs fs ss
laid_empty [] fs ss i b e k = refl
laid_empty (h ∷ hs) [] ss i b e k = refl
laid_empty (h ∷ hs) (f ∷ fs) [] zero b e k = refl
laid_empty (h ∷ hs) (f ∷ fs) [] (suc i) b e k = refl
laid_empty (h ∷ hs) (f ∷ fs) (s ∷ ss) zero b e k = ap (λ c. c ∷ columns_of hs fs ss) (shows_nothing h b s e k ∙ sym (shows_nothing h f s e k))
laid_empty (h ∷ hs) (f ∷ fs) (s ∷ ss) (suc i) b e k = ap (λ cs. column_of h f s ∷ cs) (laid_empty hs fs ss i b e k)

-- what stands at a place is put there again
pub put_again : {X : Type 0} → (xs : List X) (i : ℕ) (d : X) → i < length xs → xs ≡ set xs i (get_or xs i d)
put_again [] i d l = absurd (omega arith)
put_again (x ∷ xs) zero d l = refl
put_again (x ∷ xs) (suc i) d l = ap (λ ys. x ∷ ys) (put_again xs i d (omega arith))

pub at_set : {X : Type 0} → (xs : List X) (i : ℕ) (x d : X) → i < length xs → get_or (set xs i x) i d ≡ x
at_set [] i x d l = absurd (omega arith)
at_set (y ∷ xs) zero x d l = refl
at_set (y ∷ xs) (suc i) x d l = at_set xs i x d (omega arith)

-- a cell that is put into lane 0 where lane 1 holds nothing
pub first_given : (columns : List ColumnView) (hs ws : List Held) (fs ss gs : List BlockView) (i lane q : ℕ) (block d : BlockView) → columns_of hs fs ss ≡ columns → ws ≡ set hs i (record (get_or hs i nothing) { first = true; first_quality = q }) → gs ≡ set fs i block
    → i < length hs → length fs ≡ length hs → length ss ≡ length hs → lane ≡ 0 → (get_or hs i nothing).second ≡ false
    → columns_of ws gs ss ≡ set columns i (with_cell lane (Some (record { block = block; quality = q })) (get_or columns i empty_column))
first_given columns hs ws fs ss gs i lane q block d seen w g l a b first empty =
    let h : Held = get_or hs i nothing in
    let there : get_or gs i d ≡ block = ap (λ (xs : List BlockView). get_or xs i d) g ∙ at_set fs i block d (omega (arith, l, a)) in
    column_given columns hs ws fs ss gs ss i lane (Some (record { block = block; quality = q })) (record h { first = true; first_quality = q }) d seen w
    (g ∙ ap (λ (x : BlockView). set fs i x) (sym there)) (put_again ss i d (omega (arith, l, b))) l a b
    (ap (λ (x : BlockView). column_of (record h { first = true; first_quality = q }) x (get_or ss i d)) there ∙ alone_at h lane q block (get_or fs i d) (get_or ss i d) first empty)
  where
    alone_at : (h : Held) (lane q : ℕ) (x f s : BlockView) → lane ≡ 0 → h.second ≡ false → column_of (record h { first = true; first_quality = q }) x s ≡ with_cell lane (Some (record { block = x; quality = q })) (column_of h f s)
    alone_at h lane q x f s e k = rw (e, k) refl
