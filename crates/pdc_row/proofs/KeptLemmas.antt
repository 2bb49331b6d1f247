-- Blocks and the bytes that they are kept as.
use Rattle.std.proofs.Common.{◌≡◌, ◌∙◌, ◌+◌, ◌*◌, ◌/◌, ◌%◌, ◌<◌, ◌≤◌, ◌&&◌, ℕ, Bool, true, false, zero, suc, List, [], ◌∷◌, ◌++◌, ap, arith, drop, length, length-append, map, nat_eq, refl, set, subst, sym, take}
use Rattle.std.specs.Prelude.{sum_by}
use Rattle.std.specs.Cmp.Lexicographic.{pointwise}
use Rattle.std.proofs.lemmas.Bool.{eq-eqb, eqb-true, false≢true, ne_eqb}
use Rattle.std.proofs.lemmas.Grind.{take-set_at}
use Rattle.std.proofs.lemmas.List.{append_assoc, length-drop, length-take-le, take-append-drop, take_all}
use Rattle.std.proofs.lemmas.List.Folds.{flat_map-map}
use Rattle.std.proofs.lemmas.List.Sums.{sum_by-cons}
use Rattle.pdc_block.specs.pdc_cfg.pdc_frame.Bytes.{AreBytes, word_at}
use Rattle.pdc_block.specs.pdc_cfg.Shape.{word_count_of}
use Rattle.pdc_block.specs.pdc_cfg.declared.shape.Shape.{Shape}
use Rattle.pdc_block.specs.Block.{AreOfShapes, AreWords, IsCut, body_len_of, bytes_of_words, shape_of, words_in, words_of}
use Rattle.pdc_block.specs.declared.block.Block.{Block}
use Rattle.pdc_block.specs.Laws.{WordsOfBytes}
use Rattle.pdc_row.specs.CellView.{BlockView, block_view, is_present}
use Rattle.pdc_row.specs.KeptBlocks.{AreWhole, blocks_in, bytes_of, written_by}

pub count : (shapes : List Shape) (bytes : List ℕ) → length (blocks_in shapes bytes) ≡ length shapes
count [] bytes = refl
count (shape ∷ shapes) bytes = ap suc (count shapes (drop (2 * word_count_of shape) bytes))

-- a block takes 214 bytes at most
pub few_bytes : (shapes : List Shape) → sum_by body_len_of shapes ≤ 214 * length shapes
few_bytes [] = omega arith
few_bytes (shape ∷ shapes) =
    omega (arith, few_bytes shapes, sum_by-cons body_len_of shape shapes, shape.phasors_fit, shape.analogs_fit, shape.digitals_fit)

take_front : (n : ℕ) (front back : List ℕ) → n ≤ length front → take n (front ++ back) ≡ take n front
take_front zero front back h = refl
take_front (suc n) [] back h = absurd (omega (arith, h))
take_front (suc n) (x ∷ front) back h = ap (λ (t : List ℕ). x ∷ t) (take_front n front back (omega (arith, h)))

drop_front : (n : ℕ) (front back : List ℕ) → n ≤ length front → drop n (front ++ back) ≡ drop n front ++ back
drop_front zero front back h = refl
drop_front (suc n) [] back h = absurd (omega (arith, h))
drop_front (suc n) (x ∷ front) back h = drop_front n front back (omega (arith, h))

-- one more block
pub pushed : (shapes : List Shape) (bytes : List ℕ) (shape : Shape) (more : List ℕ) → length bytes ≡ sum_by body_len_of shapes → length more ≡ body_len_of shape
    → blocks_in (shapes ++ shape ∷ []) (bytes ++ more) ≡ blocks_in shapes bytes ++ written_by shape more ∷ []
pushed [] [] shape more e size = ap (λ (t : List ℕ). written_by shape t ∷ []) (take_all (2 * word_count_of shape) more (omega (arith, size)))
pushed [] (b ∷ bytes) shape more e size = absurd (omega (arith, e))
pushed (s ∷ shapes) bytes shape more e size =
    let n : ℕ = 2 * word_count_of s in
    let long : n ≤ length bytes = omega (arith, e, sum_by-cons body_len_of s shapes) in
    let left : length (drop n bytes) ≡ sum_by body_len_of shapes = omega (arith, e, sum_by-cons body_len_of s shapes, length-drop n bytes) in
    ap (λ (t : List ℕ). written_by s t ∷ blocks_in (shapes ++ shape ∷ []) (drop n (bytes ++ more))) (take_front n bytes more long)
    ∙ ap (λ (t : List ℕ). written_by s (take n bytes) ∷ blocks_in (shapes ++ shape ∷ []) t) (drop_front n bytes more long)
    ∙ ap (λ (bs : List BlockView). written_by s (take n bytes) ∷ bs) (pushed shapes (drop n bytes) shape more left size)

-- so many are kept
pub kept : (n : ℕ) (shapes : List Shape) (bytes : List ℕ) → n ≤ length shapes → length (blocks_in (take n shapes) bytes) ≡ n
kept n shapes bytes h = count (take n shapes) bytes ∙ length-take-le n shapes h

-- there is room for the bytes of one more
pub room : (n len more : ℕ) (shapes : List Shape) (shape : Shape) → n < 16 → length shapes ≡ 16 → len ≡ sum_by body_len_of (take n shapes) → more ≡ word_count_of shape → len + 2 * more ≤ 3424
room n len more shapes shape h e s w =
    omega (arith, h, s, w, few_bytes (take n shapes), length-take-le n shapes (omega (arith, h, e)), shape.phasors_fit, shape.analogs_fit, shape.digitals_fit)

-- the shape behind so many
pub one_more : {A : Type 0} → (n : ℕ) (xs : List A) (x : A) → n < length xs → take (n + 1) (set xs n x) ≡ take n xs ++ x ∷ []
one_more n xs x h = take-set_at xs n (n + 1) x (omega arith) h

sum_push : (shapes : List Shape) (shape : Shape) → sum_by body_len_of (shapes ++ shape ∷ []) ≡ sum_by body_len_of shapes + body_len_of shape
sum_push [] shape = omega (arith, sum_by-cons body_len_of shape [])
sum_push (s ∷ shapes) shape = omega (arith, sum_push shapes shape, sum_by-cons body_len_of s (shapes ++ shape ∷ []), sum_by-cons body_len_of s shapes)

pub sum_more : (n len more : ℕ) (shapes : List Shape) (shape : Shape) → n < length shapes → len ≡ sum_by body_len_of (take n shapes) → more ≡ word_count_of shape
    → len + 2 * more ≡ sum_by body_len_of (take (n + 1) (set shapes n shape))
sum_more n len more shapes shape h s w =
    omega (arith, s, w, sum_push (take n shapes) shape, ap (sum_by body_len_of) (one_more n shapes shape h))

-- bytes that are written behind so many
pub written_behind : (n m : ℕ) (bytes more rest : List ℕ) → n ≤ length bytes → length more ≡ m → take (n + m) (take n bytes ++ (more ++ rest)) ≡ take n bytes ++ more
written_behind n m bytes more rest h e =
    let front : List ℕ = take n bytes in
    let size : length (front ++ more) ≡ n + m = omega (arith, length-append front more, length-take-le n bytes h, e) in
    ap (take (n + m)) (sym (append_assoc front more rest)) ∙ take_front (n + m) (front ++ more) rest (omega (arith, size)) ∙ take_all (n + m) (front ++ more) (omega (arith, size))

bytes_take : (n : ℕ) (bytes : List ℕ) → AreBytes bytes → AreBytes (take n bytes)
bytes_take zero bytes fits i = omega arith
bytes_take (suc n) [] fits i = omega arith
bytes_take (suc n) (b ∷ bytes) fits zero = fits 0
bytes_take (suc n) (b ∷ bytes) fits (suc i) = bytes_take n bytes (λ j. fits (suc j)) i

bytes_drop : (n : ℕ) (bytes : List ℕ) → AreBytes bytes → AreBytes (drop n bytes)
bytes_drop zero bytes fits i = fits i
bytes_drop (suc n) [] fits i = omega arith
bytes_drop (suc n) (b ∷ bytes) fits i = bytes_drop n bytes (λ j. fits (suc j)) i

-- they are the bytes of the blocks
pub spelled : WordsOfBytes → (shapes : List Shape) (bytes : List ℕ) → AreBytes bytes → length bytes ≡ sum_by body_len_of shapes → bytes ≡ bytes_of (blocks_in shapes bytes)
spelled law [] [] fits e = refl
spelled law [] (b ∷ bytes) fits e = absurd (omega (arith, e))
spelled law (s ∷ shapes) bytes fits e =
    let n : ℕ = 2 * word_count_of s in
    let long : n ≤ length bytes = omega (arith, e, sum_by-cons body_len_of s shapes) in
    let left : length (drop n bytes) ≡ sum_by body_len_of shapes = omega (arith, e, sum_by-cons body_len_of s shapes, length-drop n bytes) in
    let front : take n bytes ≡ bytes_of_words (words_in (take n bytes)) =
    law.spell (take n bytes) (word_count_of s) (bytes_take n bytes fits) (length-take-le n bytes long) in
    sym (take-append-drop n bytes) ∙ ap (λ (t : List ℕ). t ++ drop n bytes) front
    ∙ ap (λ (t : List ℕ). bytes_of_words (words_in (take n bytes)) ++ t) (spelled law shapes (drop n bytes) (bytes_drop n bytes fits) left)

-- and are cut into these
shaped : WordsOfBytes → (shapes : List Shape) (bytes : List ℕ) → AreBytes bytes → length bytes ≡ sum_by body_len_of shapes → AreOfShapes shapes (map (λ (b : BlockView). b.words) (blocks_in shapes bytes))
shaped law [] bytes fits e = tt
shaped law (s ∷ shapes) bytes fits e =
    let n : ℕ = 2 * word_count_of s in
    let long : n ≤ length bytes = omega (arith, e, sum_by-cons body_len_of s shapes) in
    let left : length (drop n bytes) ≡ sum_by body_len_of shapes = omega (arith, e, sum_by-cons body_len_of s shapes, length-drop n bytes) in (
      law.count (take n bytes) (word_count_of s) (length-take-le n bytes long),
      law.fit (take n bytes) (bytes_take n bytes fits),
      shaped law shapes (drop n bytes) (bytes_drop n bytes fits) left,
    )

pub is_cut : WordsOfBytes → (shapes : List Shape) (bytes : List ℕ) → AreBytes bytes → length bytes ≡ sum_by body_len_of shapes → IsCut shapes bytes (map (λ (b : BlockView). b.words) (blocks_in shapes bytes))
is_cut law shapes bytes fits e = record {
  shaped = shaped law shapes bytes fits e;
  parts = spelled law shapes bytes fits e ∙ sym (flat_map-map bytes_of_words (λ (b : BlockView). b.words) (blocks_in shapes bytes));
}

pub shapes_are : (shapes : List Shape) (bytes : List ℕ) → map (λ (b : BlockView). b.shape) (blocks_in shapes bytes) ≡ shapes
shapes_are [] bytes = refl
shapes_are (s ∷ shapes) bytes = ap (λ ss. s ∷ ss) (shapes_are shapes (drop (2 * word_count_of s) bytes))

-- the words of the blocks that are kept
abbrev pub kept_words : List Shape → List ℕ → List (List ℕ)
kept_words shapes bytes = map (λ (b : BlockView). b.words) (blocks_in shapes bytes)

pub whole : WordsOfBytes → (shapes : List Shape) (bytes : List ℕ) → AreBytes bytes → length bytes ≡ sum_by body_len_of shapes → AreWhole (blocks_in shapes bytes)
whole law shapes bytes fits e = subst (λ ss. AreOfShapes ss (kept_words shapes bytes)) (sym (shapes_are shapes bytes)) (shaped law shapes bytes fits e)

abbrev head_or : {A : Type 0} → A → List A → A
head_or a [] = a
head_or a (x ∷ xs) = x

-- blocks are told by their shapes and their words
pub blocks_are : (found : List Block) (blocks : List BlockView) → map shape_of found ≡ map (λ (b : BlockView). b.shape) blocks → map words_of found ≡ map (λ (b : BlockView). b.words) blocks → map block_view found ≡ blocks
blocks_are [] [] s w = refl
blocks_are [] (b ∷ blocks) s w = absurd (omega (arith, ap length w))
blocks_are (f ∷ found) [] s w = absurd (omega (arith, ap length w))
blocks_are (f ∷ found) (b ∷ blocks) s w =
    let shape : f.shape ≡ b.shape = ap (head_or f.shape) s in
    let words : words_of f ≡ b.words = ap (head_or (words_of f)) w in
    let rest : map block_view found ≡ blocks = blocks_are found blocks (ap (drop 1) s) (ap (drop 1) w) in
    λ i. record { shape = shape i; words = words i } ∷ rest i

-- words are read again
pub words_back : (words : List ℕ) → AreWords words → words_in (bytes_of_words words) ≡ words
words_back [] fits = refl
words_back (w ∷ words) fits =
    let same : 256 * (w / 256 % 256) + w % 256 ≡ w = omega (arith, fits 0) in
    rw same (ap (λ (ws : List ℕ). w ∷ ws) (words_back words (λ i. fits (suc i))))

-- ---- bytes and words are the same together

both_or_one : (a b c : Bool) → (a ≡ true → b ≡ true → c ≡ true) → (c ≡ true → (a ≡ true) × (b ≡ true)) → (a && b) ≡ c
both_or_one true true c both back = sym (both refl refl)
both_or_one true false true both back = absurd (false≢true (back refl).1)
both_or_one true false false both back = refl
both_or_one false b true both back = absurd (false≢true (back refl).0)
both_or_one false b false both back = refl

same_two : (h l k m : ℕ) → h ≡ k → l ≡ m → 256 * h + l ≡ 256 * k + m
same_two h l k m e f = rw (e, f) refl

two_bytes : (h l k m : ℕ) → l < 256 → m < 256 → (nat_eq h k && nat_eq l m) ≡ nat_eq (256 * h + l) (256 * k + m)
two_bytes h l k m fits others =
    both_or_one (nat_eq h k) (nat_eq l m) (nat_eq (256 * h + l) (256 * k + m))
    (λ e f. eq-eqb (256 * h + l) (256 * k + m) (same_two h l k m (eqb-true h k e) (eqb-true l m f)))
    (λ e. (eq-eqb h k (omega (arith, eqb-true (256 * h + l) (256 * k + m) e, fits, others)), eq-eqb l m (omega (arith, eqb-true (256 * h + l) (256 * k + m) e, fits, others))))

and_assoc : (a b c : Bool) → (a && (b && c)) ≡ ((a && b) && c)
and_assoc true b c = refl
and_assoc false b c = refl

-- bytes are the same where the words are that they write
pub same_bytes : (n : ℕ) (xs ys : List ℕ) → AreBytes xs → AreBytes ys → length xs ≡ 2 * n → length ys ≡ 2 * n → pointwise nat_eq xs ys ≡ pointwise nat_eq (words_in xs) (words_in ys)
same_bytes n [] [] hx hy e f = refl
same_bytes n [] (y ∷ ys) hx hy e f = absurd (omega (arith, e, f))
same_bytes n (x ∷ []) ys hx hy e f = absurd (omega (arith, e))
same_bytes n (x ∷ z ∷ xs) [] hx hy e f = absurd (omega (arith, e, f))
same_bytes n (x ∷ z ∷ xs) (y ∷ []) hx hy e f = absurd (omega (arith, f))
same_bytes zero (x ∷ z ∷ xs) (y ∷ v ∷ ys) hx hy e f = absurd (omega (arith, e))
same_bytes (suc n) (x ∷ z ∷ xs) (y ∷ v ∷ ys) hx hy e f =
    and_assoc (nat_eq x y) (nat_eq z v) (pointwise nat_eq xs ys)
    ∙ ap (λ b. b && pointwise nat_eq xs ys) (two_bytes x z y v (omega (arith, hx 1)) (omega (arith, hy 1)))
    ∙ ap (λ b. nat_eq (256 * x + z) (256 * y + v) && b) (same_bytes n xs ys (λ i. hx (suc (suc i))) (λ i. hy (suc (suc i))) (omega (arith, e)) (omega (arith, f)))

-- a block whose STAT is not that of the absent block is another one
pub other_stat : (shape : Shape) (bytes : List ℕ) (n : ℕ) → length bytes ≡ 2 * suc n → (word_at bytes 0 ≡ 0xA1F0 → ⊥) → is_present (written_by shape bytes) ≡ true
other_stat shape [] n e other = absurd (omega (arith, e))
other_stat shape (high ∷ []) n e other = absurd (omega (arith, e))
other_stat shape (high ∷ low ∷ bytes) n e other = rw (ne_eqb (256 * high + low) 0xA1F0 other) refl

-- blocks of one shape are the same where their bytes are
pub same_blocks : (alike : Bool) (n : ℕ) (xs ys words others : List ℕ) → AreBytes xs → AreBytes ys → length xs ≡ 2 * n → length ys ≡ 2 * n → words_in xs ≡ words → words_in ys ≡ others
    → alike ≡ pointwise nat_eq xs ys → alike ≡ pointwise nat_eq words others
same_blocks alike n xs ys words others hx hy e f w o is =
    is ∙ same_bytes n xs ys hx hy e f ∙ ap (λ (t : List ℕ). pointwise nat_eq t (words_in ys)) w ∙ ap (λ (t : List ℕ). pointwise nat_eq words t) o
