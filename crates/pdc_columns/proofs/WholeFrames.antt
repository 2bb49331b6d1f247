-- A frame whose blocks are one for each column, in their order: it is put as a whole.
use Rattle.std.proofs.Common.{◌≡◌, ◌∙◌, ◌*◌, ◌≤◌, ◌&&◌, ℕ, Bool, true, false, List, [], ◌∷◌, ◌++◌, Some, ap, append_assoc, arith, drop, eqb, get_or, length, nat_eq, refl, replicate, set, suc, sym, take, zero}
use Rattle.std.proofs.lemmas.Bool.{and_parts, eqb-true, false≢true}
use Rattle.std.proofs.lemmas.List.{length-map, length-replicate}
use Rattle.std.proofs.lemmas.List.Sums.{sum_by-cons}
use Rattle.pdc_row.proofs.SameBlocks.{shape_is}
use Rattle.std.specs.Prelude.{sum_by}
use Rattle.pdc_row.specs.pdc_block.Block.{body_len_of, words_in}
use Rattle.pdc_row.specs.pdc_block.Laws.{WordsAreCut}
use Rattle.pdc_row.specs.pdc_cfg.Shape.{word_count_of}
use Rattle.pdc_row.specs.pdc_cfg.declared.shape.Shape.{Shape}
use Rattle.pdc_row.specs.CellView.{BlockView, CellView, same_shape}
use Rattle.pdc_row.specs.KeptBlocks.{blocks_in, shapes_of}
use Rattle.pdc_row.proofs.KeptLemmas.{count}
use Rattle.pdc_columns.specs.ColumnParts.{column_of, columns_of}
use Rattle.pdc_columns.specs.Parts.{are_laid_out, cut_cells, parts_len}
use Rattle.pdc_columns.specs.Taking.{with_cell, with_cells}
use Rattle.pdc_columns.specs.Views.{ColumnView, empty_column}
use Rattle.pdc_columns.specs.declared.column.Held.{Held}
use Rattle.pdc_columns.proofs.ColumnParts.{columns_count}

-- cells of the columns from this one on
abbrev pub numbered : ℕ → List CellView → List (ℕ × CellView)
numbered k [] = []
numbered k (c ∷ cs) = (k, c) ∷ numbered (suc k) cs

-- the cells that blocks make in a frame of this quality
abbrev pub cells_with : ℕ → List BlockView → List CellView
cells_with q [] = []
cells_with q (b ∷ bs) = record { block = b; quality = q } ∷ cells_with q bs

-- each column with its cell in the lane
abbrev pub each_with : ℕ → List CellView → List ColumnView → List ColumnView
each_with lane [] columns = columns
each_with lane (c ∷ cs) [] = []
each_with lane (c ∷ cs) (x ∷ columns) = with_cell lane (Some c) x ∷ each_with lane cs columns

there : {A : Type 0} → (front : List A) (x d : A) (rest : List A) → get_or (front ++ x ∷ rest) (length front) d ≡ x
there [] x d rest = refl
there (f ∷ front) x d rest = there front x d rest

set_there : {A : Type 0} → (front : List A) (x y : A) (rest : List A) → set (front ++ x ∷ rest) (length front) y ≡ front ++ y ∷ rest
set_there [] x y rest = refl
set_there (f ∷ front) x y rest = ap (λ xs. f ∷ xs) (set_there front x y rest)

one_longer : {A : Type 0} → (front : List A) (y : A) → length (front ++ y ∷ []) ≡ suc (length front)
one_longer [] y = refl
one_longer (f ∷ front) y = ap suc (one_longer front y)

-- cells of all columns behind some go into them one by one
with_numbered : (lane : ℕ) (front columns : List ColumnView) (cs : List CellView) → length cs ≤ length columns → with_cells lane (numbered (length front) cs) (front ++ columns) ≡ front ++ each_with lane cs columns
with_numbered lane front columns [] h = refl
with_numbered lane front [] (c ∷ cs) h = absurd (omega arith)
with_numbered lane front (x ∷ columns) (c ∷ cs) h =
    let y : ColumnView = with_cell lane (Some c) x in
    ap (λ z. with_cells lane (numbered (suc (length front)) cs) (set (front ++ x ∷ columns) (length front) (with_cell lane (Some c) z))) (there front x empty_column columns)
    ∙ ap (with_cells lane (numbered (suc (length front)) cs)) (set_there front x y columns ∙ sym (append_assoc front (y ∷ []) columns))
    ∙ ap (λ n. with_cells lane (numbered n cs) ((front ++ y ∷ []) ++ columns)) (sym (one_longer front y))
    ∙ with_numbered lane (front ++ y ∷ []) columns cs (omega arith)
    ∙ append_assoc front (y ∷ []) (each_with lane cs columns)

-- the cells of parts that are laid out
laid : {P : Type 0} → (column : P → ℕ) (shape : P → Shape) (parts : List P) (shapes : List Shape) (k q : ℕ) (bytes : List ℕ) → WordsAreCut → are_laid_out column shape parts shapes k ≡ true
    → cut_cells column shape parts q (words_in bytes) ≡ numbered k (cells_with q (blocks_in shapes bytes))
laid column shape [] [] k q bytes w e = refl
laid column shape [] (s ∷ shapes) k q bytes w e = absurd (false≢true e)
laid column shape (p ∷ parts) [] k q bytes w e = absurd (false≢true e)
laid column shape (p ∷ parts) (s ∷ shapes) k q bytes w e =
    let here = and_parts (nat_eq (column p) k && same_shape (shape p) s) (are_laid_out column shape parts shapes (suc k)) e in
    let front = and_parts (nat_eq (column p) k) (same_shape (shape p) s) here.0 in
    let one : column p ≡ k = eqb-true (column p) k front.0 in
    let same : shape p ≡ s = shape_is (shape p) s front.1 in
    let rest : List (ℕ × CellView) = cut_cells column shape parts q (drop (word_count_of (shape p)) (words_in bytes)) in
    ap (λ (t : Shape). (column p, record { block = record { shape = t; words = take (word_count_of t) (words_in bytes) }; quality = q }) ∷ cut_cells column shape parts q (drop (word_count_of t) (words_in bytes))) same
    ∙ ap (λ n. (n, record { block = record { shape = s; words = take (word_count_of s) (words_in bytes) }; quality = q }) ∷ cut_cells column shape parts q (drop (word_count_of s) (words_in bytes))) one
    ∙ ap (λ (ws : List ℕ). (k, record { block = record { shape = s; words = ws }; quality = q }) ∷ cut_cells column shape parts q (drop (word_count_of s) (words_in bytes))) (sym (w.before (word_count_of s) bytes))
    ∙ ap (λ (ws : List ℕ). (k, record { block = record { shape = s; words = words_in (take (2 * word_count_of s) bytes) }; quality = q }) ∷ cut_cells column shape parts q ws) (sym (w.behind (word_count_of s) bytes))
    ∙ ap (λ (cs : List (ℕ × CellView)). (k, record { block = record { shape = s; words = words_in (take (2 * word_count_of s) bytes) }; quality = q }) ∷ cs) (laid column shape parts shapes (suc k) q (drop (2 * word_count_of s) bytes) w here.1)

-- as many bytes as the shapes have
pub laid_len : {P : Type 0} → (column : P → ℕ) (shape : P → Shape) (parts : List P) (shapes : List Shape) (k : ℕ) → are_laid_out column shape parts shapes k ≡ true → parts_len shape parts ≡ sum_by body_len_of shapes
laid_len column shape [] [] k e = refl
laid_len column shape [] (s ∷ shapes) k e = absurd (false≢true e)
laid_len column shape (p ∷ parts) [] k e = absurd (false≢true e)
laid_len column shape (p ∷ parts) (s ∷ shapes) k e =
    let here = and_parts (nat_eq (column p) k && same_shape (shape p) s) (are_laid_out column shape parts shapes (suc k)) e in
    let same : shape p ≡ s = shape_is (shape p) s (and_parts (nat_eq (column p) k) (same_shape (shape p) s) here.0).1 in
    omega (arith, laid_len column shape parts shapes (suc k) here.1, sum_by-cons (λ q. 2 * word_count_of (shape q)) p parts, sum_by-cons body_len_of s shapes, ap word_count_of same)

-- in one way
laid_once : {P : Type 0} → (column : P → ℕ) (shape : P → Shape) (parts : List P) (some others : List Shape) (k : ℕ) → are_laid_out column shape parts some k ≡ true → are_laid_out column shape parts others k ≡ true → some ≡ others
laid_once column shape [] [] [] k e f = refl
laid_once column shape [] [] (t ∷ others) k e f = absurd (false≢true f)
laid_once column shape [] (s ∷ some) others k e f = absurd (false≢true e)
laid_once column shape (p ∷ parts) [] others k e f = absurd (false≢true e)
laid_once column shape (p ∷ parts) (s ∷ some) [] k e f = absurd (false≢true f)
laid_once column shape (p ∷ parts) (s ∷ some) (t ∷ others) k e f =
    let one = and_parts (nat_eq (column p) k && same_shape (shape p) s) (are_laid_out column shape parts some (suc k)) e in
    let two = and_parts (nat_eq (column p) k && same_shape (shape p) t) (are_laid_out column shape parts others (suc k)) f in
    let first : shape p ≡ s = shape_is (shape p) s (and_parts (nat_eq (column p) k) (same_shape (shape p) s) one.0).1 in
    let second : shape p ≡ t = shape_is (shape p) t (and_parts (nat_eq (column p) k) (same_shape (shape p) t) two.0).1 in
    let rest : some ≡ others = laid_once column shape parts some others (suc k) one.1 two.1 in
    ap (λ (u : Shape). u ∷ some) (sym first ∙ second) ∙ ap (λ (us : List Shape). t ∷ us) rest

cells_count : (q : ℕ) (bs : List BlockView) → length (cells_with q bs) ≡ length bs
cells_count q [] = refl
cells_count q (b ∷ bs) = ap suc (cells_count q bs)

-- such a frame is put by giving each column its block
pub put_laid : {P : Type 0} → (column : P → ℕ) (shape : P → Shape) (parts : List P) (shapes : List Shape) (lane q : ℕ) (bytes : List ℕ) (columns : List ColumnView) → WordsAreCut → are_laid_out column shape parts shapes 0 ≡ true
    → length (blocks_in shapes bytes) ≤ length columns → with_cells lane (cut_cells column shape parts q (words_in bytes)) columns ≡ each_with lane (cells_with q (blocks_in shapes bytes)) columns
put_laid column shape parts shapes lane q bytes columns w e l =
    ap (λ cs. with_cells lane cs columns) (laid column shape parts shapes 0 q bytes w e)
    ∙ with_numbered lane [] columns (cells_with q (blocks_in shapes bytes)) (omega (arith, l, cells_count q (blocks_in shapes bytes)))

-- ---- what each column then holds, where the same was held of each

abbrev pub with_first : ℕ → Held → Held
with_first q h = record h { first = true; first_quality = q }

abbrev pub with_second : ℕ → Bool → Held → Held
with_second q alike h = record h { second = true; alike = alike; second_quality = q }

one_alone : (q : ℕ) (h : Held) (f s x : BlockView) → h.second ≡ false → with_cell 0 (Some (record { block = x; quality = q })) (column_of h f s) ≡ column_of (with_first q h) x s
one_alone q h f s x e = rw e refl

one_twin : (q : ℕ) (h : Held) (f x : BlockView) → h.alike ≡ false → with_cell 0 (Some (record { block = x; quality = q })) (column_of h f x) ≡ column_of (record (with_first q h) { alike = true }) x x
one_twin q h f x e = rw e refl

one_behind : (lane q : ℕ) (h : Held) (f s x : BlockView) → eqb lane 0 ≡ false → h.first ≡ false → with_cell lane (Some (record { block = x; quality = q })) (column_of h f s) ≡ column_of (with_second q true h) x s
one_behind lane q h f s x e a = rw (e, a) refl

-- into lane 0, where lane 1 holds nothing
pub first_alone : (q n : ℕ) (h : Held) (fs ss bs : List BlockView) → h.second ≡ false → length fs ≡ n → length ss ≡ n → length bs ≡ n → each_with 0 (cells_with q bs) (columns_of (replicate n h) fs ss) ≡ columns_of (replicate n (with_first q h)) bs ss
first_alone q zero h [] [] [] e a b c = refl
first_alone q zero h fs ss (x ∷ bs) e a b c = absurd (omega (arith, c))
first_alone q zero h (f ∷ fs) ss [] e a b c = absurd (omega (arith, a))
first_alone q zero h [] (s ∷ ss) [] e a b c = absurd (omega (arith, b))
first_alone q (suc n) h [] ss bs e a b c = absurd (omega (arith, a))
first_alone q (suc n) h (f ∷ fs) [] bs e a b c = absurd (omega (arith, b))
first_alone q (suc n) h (f ∷ fs) (s ∷ ss) [] e a b c = absurd (omega (arith, c))
first_alone q (suc n) h (f ∷ fs) (s ∷ ss) (x ∷ bs) e a b c =
    ap (λ column. column ∷ each_with 0 (cells_with q bs) (columns_of (replicate n h) fs ss)) (one_alone q h f s x e)
    ∙ ap (λ columns. column_of (with_first q h) x s ∷ columns) (first_alone q n h fs ss bs e (omega (arith, a)) (omega (arith, b)) (omega (arith, c)))

-- into lane 0, where lane 1 holds the same blocks in its own places
pub first_twin : (q n : ℕ) (h : Held) (fs bs : List BlockView) → h.alike ≡ false → length fs ≡ n → length bs ≡ n → each_with 0 (cells_with q bs) (columns_of (replicate n h) fs bs) ≡ columns_of (replicate n (record (with_first q h) { alike = true })) bs bs
first_twin q zero h [] [] e a b = refl
first_twin q zero h (f ∷ fs) [] e a b = absurd (omega (arith, a))
first_twin q zero h fs (x ∷ bs) e a b = absurd (omega (arith, b))
first_twin q (suc n) h [] bs e a b = absurd (omega (arith, a))
first_twin q (suc n) h (f ∷ fs) [] e a b = absurd (omega (arith, b))
first_twin q (suc n) h (f ∷ fs) (x ∷ bs) e a b =
    ap (λ column. column ∷ each_with 0 (cells_with q bs) (columns_of (replicate n h) fs bs)) (one_twin q h f x e)
    ∙ ap (λ columns. column_of (record (with_first q h) { alike = true }) x x ∷ columns) (first_twin q n h fs bs e (omega (arith, a)) (omega (arith, b)))

-- into lane 0, where they stand there
pub first_joined : (q n : ℕ) (h : Held) (fs ss : List BlockView) → length fs ≡ n → length ss ≡ n → each_with 0 (cells_with q fs) (columns_of (replicate n h) fs ss) ≡ columns_of (replicate n (with_first q h)) fs ss
first_joined q zero h [] [] a b = refl
first_joined q zero h (f ∷ fs) ss a b = absurd (omega (arith, a))
first_joined q zero h [] (s ∷ ss) a b = absurd (omega (arith, b))
first_joined q (suc n) h [] ss a b = absurd (omega (arith, a))
first_joined q (suc n) h (f ∷ fs) [] a b = absurd (omega (arith, b))
first_joined q (suc n) h (f ∷ fs) (s ∷ ss) a b = ap (λ columns. column_of (with_first q h) f s ∷ columns) (first_joined q n h fs ss (omega (arith, a)) (omega (arith, b)))

-- into lane 1, where lane 0 has the same blocks
pub second_twin : (lane q n : ℕ) (h : Held) (fs ss : List BlockView) → eqb lane 0 ≡ false → length fs ≡ n → length ss ≡ n → each_with lane (cells_with q fs) (columns_of (replicate n h) fs ss) ≡ columns_of (replicate n (with_second q true h)) fs ss
second_twin lane q zero h [] [] e a b = refl
second_twin lane q zero h (f ∷ fs) ss e a b = absurd (omega (arith, a))
second_twin lane q zero h [] (s ∷ ss) e a b = absurd (omega (arith, b))
second_twin lane q (suc n) h [] ss e a b = absurd (omega (arith, a))
second_twin lane q (suc n) h (f ∷ fs) [] e a b = absurd (omega (arith, b))
second_twin lane q (suc n) h (f ∷ fs) (s ∷ ss) e a b = rw (e, second_twin lane q n h fs ss e (omega (arith, a)) (omega (arith, b))) refl

-- into lane 1, where lane 0 holds nothing, and they get its places
pub second_alone : (lane q n : ℕ) (h : Held) (fs ss bs : List BlockView) → eqb lane 0 ≡ false → h.first ≡ false → length fs ≡ n → length ss ≡ n → length bs ≡ n → each_with lane (cells_with q bs) (columns_of (replicate n h) fs ss) ≡ columns_of (replicate n (with_second q true h)) bs ss
second_alone lane q zero h [] [] [] e f a b c = refl
second_alone lane q zero h fs ss (x ∷ bs) e f a b c = absurd (omega (arith, c))
second_alone lane q zero h (y ∷ fs) ss [] e f a b c = absurd (omega (arith, a))
second_alone lane q zero h [] (s ∷ ss) [] e f a b c = absurd (omega (arith, b))
second_alone lane q (suc n) h [] ss bs e f a b c = absurd (omega (arith, a))
second_alone lane q (suc n) h (y ∷ fs) [] bs e f a b c = absurd (omega (arith, b))
second_alone lane q (suc n) h (y ∷ fs) (s ∷ ss) [] e f a b c = absurd (omega (arith, c))
second_alone lane q (suc n) h (y ∷ fs) (s ∷ ss) (x ∷ bs) e f a b c =
    ap (λ column. column ∷ each_with lane (cells_with q bs) (columns_of (replicate n h) fs ss)) (one_behind lane q h y s x e f)
    ∙ ap (λ columns. column_of (with_second q true h) x s ∷ columns) (second_alone lane q n h fs ss bs e f (omega (arith, a)) (omega (arith, b)) (omega (arith, c)))

-- into lane 1, where they get its own places
pub second_own : (lane q n : ℕ) (h : Held) (fs ss bs : List BlockView) → eqb lane 0 ≡ false → length fs ≡ n → length ss ≡ n → length bs ≡ n → each_with lane (cells_with q bs) (columns_of (replicate n h) fs ss) ≡ columns_of (replicate n (with_second q false h)) fs bs
second_own lane q zero h [] [] [] e a b c = refl
second_own lane q zero h fs ss (x ∷ bs) e a b c = absurd (omega (arith, c))
second_own lane q zero h (f ∷ fs) ss [] e a b c = absurd (omega (arith, a))
second_own lane q zero h [] (s ∷ ss) [] e a b c = absurd (omega (arith, b))
second_own lane q (suc n) h [] ss bs e a b c = absurd (omega (arith, a))
second_own lane q (suc n) h (f ∷ fs) [] bs e a b c = absurd (omega (arith, b))
second_own lane q (suc n) h (f ∷ fs) (s ∷ ss) [] e a b c = absurd (omega (arith, c))
second_own lane q (suc n) h (f ∷ fs) (s ∷ ss) (x ∷ bs) e a b c = rw (e, second_own lane q n h fs ss bs e (omega (arith, a)) (omega (arith, b)) (omega (arith, c))) refl

-- as many blocks as there were
pub as_many : (fs : List BlockView) (bytes : List ℕ) (n : ℕ) → length fs ≡ n → length (blocks_in (shapes_of fs) bytes) ≡ n
as_many fs bytes n e = count (shapes_of fs) bytes ∙ length-map fs (λ (b : BlockView). b.shape) ∙ e

-- what is put as a whole, where each column gets its block
whole : {P : Type 0} → (column : P → ℕ) (shape : P → Shape) (parts : List P) (shapes : List Shape) (lane q : ℕ) (bytes : List ℕ) (hs : List Held) (h : Held) (fs ss : List BlockView) (now out : List ColumnView)
    → WordsAreCut → are_laid_out column shape parts shapes 0 ≡ true → columns_of hs fs ss ≡ now → hs ≡ replicate (length hs) h → length (blocks_in shapes bytes) ≡ length hs → length fs ≡ length hs → length ss ≡ length hs
    → each_with lane (cells_with q (blocks_in shapes bytes)) (columns_of (replicate (length hs) h) fs ss) ≡ out → out ≡ with_cells lane (cut_cells column shape parts q (words_in bytes)) now
whole column shape parts shapes lane q bytes hs h fs ss now out w e seen one b a d put =
    let many : length (columns_of (replicate (length hs) h) fs ss) ≡ length hs =
    columns_count (replicate (length hs) h) fs ss (omega (arith, a, length-replicate (length hs) h)) (omega (arith, d, length-replicate (length hs) h)) ∙ length-replicate (length hs) h in
    sym put
    ∙ sym (put_laid column shape parts shapes lane q bytes (columns_of (replicate (length hs) h) fs ss) w e (omega (arith, b, many)))
    ∙ ap (λ (xs : List Held). with_cells lane (cut_cells column shape parts q (words_in bytes)) (columns_of xs fs ss)) (sym one)
    ∙ ap (with_cells lane (cut_cells column shape parts q (words_in bytes))) seen

pub whole_first_alone : {P : Type 0} → (column : P → ℕ) (shape : P → Shape) (parts : List P) (q : ℕ) (bytes : List ℕ) (hs vs : List Held) (h : Held) (fs ss ws : List BlockView) (now : List ColumnView)
    → WordsAreCut → are_laid_out column shape parts (shapes_of fs) 0 ≡ true → columns_of hs fs ss ≡ now → hs ≡ replicate (length hs) h → length fs ≡ length hs → length ss ≡ length hs
    → h.second ≡ false → ws ≡ blocks_in (shapes_of fs) bytes → vs ≡ replicate (length hs) (with_first q h) → columns_of vs ws ss ≡ with_cells 0 (cut_cells column shape parts q (words_in bytes)) now
whole_first_alone column shape parts q bytes hs vs h fs ss ws now w e seen one a d empty written filled =
    let bs : List BlockView = blocks_in (shapes_of fs) bytes in
    let b : length bs ≡ length hs = as_many fs bytes (length hs) a in
    whole column shape parts (shapes_of fs) 0 q bytes hs h fs ss now (columns_of vs ws ss) w e seen one b a d
    (first_alone q (length hs) h fs ss bs empty a d b
    ∙ ap (λ (xs : List BlockView). columns_of (replicate (length hs) (with_first q h)) xs ss) (sym written)
    ∙ ap (λ (xs : List Held). columns_of xs ws ss) (sym filled))

pub whole_first_twin : {P : Type 0} → (column : P → ℕ) (shape : P → Shape) (parts : List P) (q : ℕ) (bytes : List ℕ) (hs vs : List Held) (h : Held) (fs ss ws : List BlockView) (now : List ColumnView)
    → WordsAreCut → are_laid_out column shape parts (shapes_of fs) 0 ≡ true → are_laid_out column shape parts (shapes_of ss) 0 ≡ true → columns_of hs fs ss ≡ now → hs ≡ replicate (length hs) h → length fs ≡ length hs → length ss ≡ length hs
    → h.alike ≡ false → blocks_in (shapes_of ss) bytes ≡ ss → ws ≡ blocks_in (shapes_of fs) bytes → vs ≡ replicate (length hs) (record (with_first q h) { alike = true }) → columns_of vs ws ss ≡ with_cells 0 (cut_cells column shape parts q (words_in bytes)) now
whole_first_twin column shape parts q bytes hs vs h fs ss ws now w e f seen one a d own same written filled =
    let twin : blocks_in (shapes_of fs) bytes ≡ ss = ap (λ (shapes : List Shape). blocks_in shapes bytes) (laid_once column shape parts (shapes_of fs) (shapes_of ss) 0 e f) ∙ same in
    whole column shape parts (shapes_of fs) 0 q bytes hs h fs ss now (columns_of vs ws ss) w e seen one (as_many fs bytes (length hs) a) a d
    (ap (λ (bs : List BlockView). each_with 0 (cells_with q bs) (columns_of (replicate (length hs) h) fs ss)) twin
    ∙ first_twin q (length hs) h fs ss own a d
    ∙ ap (λ (xs : List BlockView). columns_of (replicate (length hs) (record (with_first q h) { alike = true })) xs ss) (sym (written ∙ twin))
    ∙ ap (λ (xs : List Held). columns_of xs ws ss) (sym filled))

pub whole_second_twin : {P : Type 0} → (column : P → ℕ) (shape : P → Shape) (parts : List P) (lane q : ℕ) (bytes : List ℕ) (hs vs : List Held) (h : Held) (fs ss : List BlockView) (now : List ColumnView)
    → eqb lane 0 ≡ false → WordsAreCut → are_laid_out column shape parts (shapes_of fs) 0 ≡ true → columns_of hs fs ss ≡ now → hs ≡ replicate (length hs) h → length fs ≡ length hs → length ss ≡ length hs
    → blocks_in (shapes_of fs) bytes ≡ fs → vs ≡ replicate (length hs) (with_second q true h) → columns_of vs fs ss ≡ with_cells lane (cut_cells column shape parts q (words_in bytes)) now
whole_second_twin column shape parts lane q bytes hs vs h fs ss now l w e seen one a d same filled =
    whole column shape parts (shapes_of fs) lane q bytes hs h fs ss now (columns_of vs fs ss) w e seen one (as_many fs bytes (length hs) a) a d
    (ap (λ (bs : List BlockView). each_with lane (cells_with q bs) (columns_of (replicate (length hs) h) fs ss)) same
    ∙ second_twin lane q (length hs) h fs ss l a d
    ∙ ap (λ (xs : List Held). columns_of xs fs ss) (sym filled))

pub whole_first_joined : {P : Type 0} → (column : P → ℕ) (shape : P → Shape) (parts : List P) (q : ℕ) (bytes : List ℕ) (hs vs : List Held) (h : Held) (fs ss : List BlockView) (now : List ColumnView)
    → WordsAreCut → are_laid_out column shape parts (shapes_of fs) 0 ≡ true → columns_of hs fs ss ≡ now → hs ≡ replicate (length hs) h → length fs ≡ length hs → length ss ≡ length hs
    → blocks_in (shapes_of fs) bytes ≡ fs → vs ≡ replicate (length hs) (with_first q h) → columns_of vs fs ss ≡ with_cells 0 (cut_cells column shape parts q (words_in bytes)) now
whole_first_joined column shape parts q bytes hs vs h fs ss now w e seen one a d same filled =
    whole column shape parts (shapes_of fs) 0 q bytes hs h fs ss now (columns_of vs fs ss) w e seen one (as_many fs bytes (length hs) a) a d
    (ap (λ (bs : List BlockView). each_with 0 (cells_with q bs) (columns_of (replicate (length hs) h) fs ss)) same
    ∙ first_joined q (length hs) h fs ss a d
    ∙ ap (λ (xs : List Held). columns_of xs fs ss) (sym filled))

pub whole_second_alone : {P : Type 0} → (column : P → ℕ) (shape : P → Shape) (parts : List P) (lane q : ℕ) (bytes : List ℕ) (hs vs : List Held) (h : Held) (fs ss ws : List BlockView) (now : List ColumnView)
    → eqb lane 0 ≡ false → WordsAreCut → are_laid_out column shape parts (shapes_of fs) 0 ≡ true → columns_of hs fs ss ≡ now → hs ≡ replicate (length hs) h → length fs ≡ length hs → length ss ≡ length hs
    → h.first ≡ false → ws ≡ blocks_in (shapes_of fs) bytes → vs ≡ replicate (length hs) (with_second q true h) → columns_of vs ws ss ≡ with_cells lane (cut_cells column shape parts q (words_in bytes)) now
whole_second_alone column shape parts lane q bytes hs vs h fs ss ws now l w e seen one a d empty written filled =
    let bs : List BlockView = blocks_in (shapes_of fs) bytes in
    let b : length bs ≡ length hs = as_many fs bytes (length hs) a in
    whole column shape parts (shapes_of fs) lane q bytes hs h fs ss now (columns_of vs ws ss) w e seen one b a d
    (second_alone lane q (length hs) h fs ss bs l empty a d b
    ∙ ap (λ (xs : List BlockView). columns_of (replicate (length hs) (with_second q true h)) xs ss) (sym written)
    ∙ ap (λ (xs : List Held). columns_of xs ws ss) (sym filled))

pub whole_second_own : {P : Type 0} → (column : P → ℕ) (shape : P → Shape) (parts : List P) (lane q : ℕ) (bytes : List ℕ) (hs vs : List Held) (h : Held) (fs ss ts ws : List BlockView) (now : List ColumnView)
    → eqb lane 0 ≡ false → WordsAreCut → are_laid_out column shape parts (shapes_of ts) 0 ≡ true → columns_of hs fs ss ≡ now → hs ≡ replicate (length hs) h → length fs ≡ length hs → length ss ≡ length hs → length ts ≡ length hs
    → ws ≡ blocks_in (shapes_of ts) bytes → vs ≡ replicate (length hs) (with_second q false h) → columns_of vs fs ws ≡ with_cells lane (cut_cells column shape parts q (words_in bytes)) now
whole_second_own column shape parts lane q bytes hs vs h fs ss ts ws now l w e seen one a d m written filled =
    let bs : List BlockView = blocks_in (shapes_of ts) bytes in
    let b : length bs ≡ length hs = as_many ts bytes (length hs) m in
    whole column shape parts (shapes_of ts) lane q bytes hs h fs ss now (columns_of vs fs ws) w e seen one b a d
    (second_own lane q (length hs) h fs ss bs l a d b
    ∙ ap (λ (xs : List BlockView). columns_of (replicate (length hs) (with_second q false h)) fs xs) (sym written)
    ∙ ap (λ (xs : List Held). columns_of xs fs ws) (sym filled))
