-- The bytes of the block at a place.
use Rattle.std.proofs.Common.{◌≡◌, ◌∙◌, ◌+◌, ◌*◌, ◌-◌, ◌<◌, ◌≤◌, ℕ, zero, suc, List, [], ◌∷◌, ◌++◌, ap, arith, drop, drop-drop, length, length-set, refl, set, sym, take, take-add, inl, inr, ⊎_elim, ◌⊎◌}
use Rattle.std.specs.Prelude.{slice_index_or, slice_set, sum_by}
use Rattle.std.proofs.lemmas.List.{append_assoc, drop-take, drop_at, get_or-set_other, get_or-set_same, get_or-take, length-drop, length-take-le, take-set-le, take-take, take_at, take_more}
use Rattle.std.proofs.lemmas.List.Sums.{sum_by-cons, sum_by-take-le, sum_by_more}
use Rattle.pdc_block.specs.pdc_cfg.Shape.{word_count_of}
use Rattle.pdc_block.specs.pdc_cfg.declared.shape.Shape.{Shape}
use Rattle.pdc_block.specs.Block.{body_len_of, bytes_of_words}
use Rattle.pdc_row.specs.CellView.{BlockView}
use Rattle.pdc_row.specs.KeptBlocks.{AreStarts, AreWhole, blocks_in, bytes_of, shapes_of, written_by}
use Rattle.pdc_row.proofs.KeptLemmas.{kept, sum_more, words_back}

-- the blocks of these shapes take no more bytes than they have
pub cut_to : (n : ℕ) (shapes : List Shape) (bytes : List ℕ) → sum_by body_len_of shapes ≤ n → blocks_in shapes (take n bytes) ≡ blocks_in shapes bytes
cut_to n [] bytes h = refl
cut_to n (s ∷ shapes) bytes h =
    let w : ℕ = 2 * word_count_of s in
    let all : sum_by body_len_of (s ∷ shapes) ≡ w + sum_by body_len_of shapes = sum_by-cons body_len_of s shapes in
    let long : w ≤ n = omega (arith, h, all) in
    let left : sum_by body_len_of shapes ≤ n - w = omega (arith, h, all) in
    let parts : n ≡ w + (n - w) = omega (arith, long) in
    ap (λ (t : List ℕ). written_by s t ∷ blocks_in shapes (drop w (take n bytes))) (take-take w n bytes long)
    ∙ ap (λ (t : List ℕ). written_by s (take w bytes) ∷ blocks_in shapes t) (ap (λ k. drop w (take k bytes)) parts ∙ drop-take w (n - w) bytes)
    ∙ ap (λ (bs : List BlockView). written_by s (take w bytes) ∷ bs) (cut_to (n - w) shapes (drop w bytes) left)

-- the block at a place stands behind those before it
pub placed : (place : ℕ) (shapes : List Shape) (bytes : List ℕ) (shape : Shape) (block : BlockView) → place < length shapes
    → slice_index_or (blocks_in shapes bytes) place block
    ≡ written_by (slice_index_or shapes place shape) (take (body_len_of (slice_index_or shapes place shape)) (drop (sum_by body_len_of (take place shapes)) bytes))
placed place [] bytes shape block h = absurd (omega (arith, h))
placed zero (s ∷ shapes) bytes shape block h = refl
placed (suc place) (s ∷ shapes) bytes shape block h =
    let w : ℕ = 2 * word_count_of s in
    let found : Shape = slice_index_or shapes place shape in
    let before : ℕ = sum_by body_len_of (take place shapes) in
    placed place shapes (drop w bytes) shape block (omega (arith, h))
    ∙ ap (λ (t : List ℕ). written_by found (take (body_len_of found) t)) (drop-drop before w bytes)
    ∙ ap (λ k. written_by found (take (body_len_of found) (drop k bytes))) (sym (sum_by-cons body_len_of s (take place shapes)))

-- written over, it is another one, and the others stay
pub over : (place : ℕ) (shapes : List Shape) (bytes more : List ℕ) (shape : Shape) → place < length shapes → sum_by body_len_of shapes ≤ length bytes → length more ≡ body_len_of (slice_index_or shapes place shape)
    → blocks_in shapes (take (sum_by body_len_of (take place shapes)) bytes ++ (more ++ drop (sum_by body_len_of (take place shapes) + body_len_of (slice_index_or shapes place shape)) bytes))
    ≡ slice_set (blocks_in shapes bytes) place (written_by (slice_index_or shapes place shape) more)
over place [] bytes more shape h long size = absurd (omega (arith, h))
over zero (s ∷ shapes) bytes more shape h long size =
    let w : ℕ = 2 * word_count_of s in
    let rest : List ℕ = drop w bytes in
    let end : 0 + w ≡ w = omega arith in
    ap (λ k. blocks_in (s ∷ shapes) (more ++ drop k bytes)) end
    ∙ ap (λ (t : List ℕ). written_by s t ∷ blocks_in shapes (drop w (more ++ rest))) (take_at more rest w size)
    ∙ ap (λ (t : List ℕ). written_by s more ∷ blocks_in shapes t) (drop_at more rest w size)
over (suc place) (s ∷ shapes) bytes more shape h long size =
    let w : ℕ = 2 * word_count_of s in
    let found : Shape = slice_index_or shapes place shape in
    let before : ℕ = sum_by body_len_of (take place shapes) in
    let all : sum_by body_len_of (s ∷ shapes) ≡ w + sum_by body_len_of shapes = sum_by-cons body_len_of s shapes in
    let sum : sum_by body_len_of (s ∷ take place shapes) ≡ w + before = sum_by-cons body_len_of s (take place shapes) in
    let front : List ℕ = take w bytes in
    let rest : List ℕ = drop w bytes in
    let fits : length front ≡ w = length-take-le w bytes (omega (arith, long, all)) in
    let tail : List ℕ = take before rest ++ (more ++ drop (before + body_len_of found) rest) in
    let end : w + before + body_len_of found ≡ w + (before + body_len_of found) = omega arith in
    let joined : take (sum_by body_len_of (s ∷ take place shapes)) bytes ++ (more ++ drop (sum_by body_len_of (s ∷ take place shapes) + body_len_of found) bytes) ≡ front ++ tail =
    ap (λ k. take k bytes ++ (more ++ drop (k + body_len_of found) bytes)) sum
    ∙ ap (λ (t : List ℕ). t ++ (more ++ drop (w + before + body_len_of found) bytes)) (take-add w before bytes)
    ∙ ap (λ k. (front ++ take before rest) ++ (more ++ drop k bytes)) end
    ∙ ap (λ (t : List ℕ). (front ++ take before rest) ++ (more ++ t)) (sym (drop-drop (before + body_len_of found) w bytes))
    ∙ append_assoc front (take before rest) (more ++ drop (before + body_len_of found) rest) in
    let left : sum_by body_len_of shapes ≤ length rest = omega (arith, long, all, length-drop w bytes) in
    ap (λ (t : List ℕ). blocks_in (s ∷ shapes) t) joined
    ∙ ap (λ (t : List ℕ). written_by s t ∷ blocks_in shapes (drop w (front ++ tail))) (take_at front tail w fits)
    ∙ ap (λ (t : List ℕ). written_by s front ∷ blocks_in shapes t) (drop_at front tail w fits)
    ∙ ap (λ (bs : List BlockView). written_by s front ∷ bs) (over place shapes rest more shape (omega (arith, h)) left size)

-- a place of the blocks is one of their shapes
pub in_place : (place count : ℕ) (shapes : List Shape) (bytes : List ℕ) (blocks : List BlockView) → count ≤ length shapes → blocks_in (take count shapes) bytes ≡ blocks → place < length blocks → place < count
in_place place count shapes bytes blocks few e h = omega (arith, h, ap length e, kept count shapes bytes few)

-- where the bytes of a block begin and end
pub begins : (place count start : ℕ) (shapes : List Shape) (starts : List ℕ) → place < count → AreStarts count shapes starts → start ≡ slice_index_or starts place 0 → start ≡ sum_by body_len_of (take place shapes)
begins place count start shapes starts h begun e = e ∙ begun place (omega (arith, h))

pub ends : (place count end : ℕ) (shapes : List Shape) (starts : List ℕ) (shape : Shape) → place < count → count ≤ length shapes → AreStarts count shapes starts → end ≡ slice_index_or starts (place + 1) 0
    → end ≡ sum_by body_len_of (take place shapes) + body_len_of (slice_index_or shapes place shape)
ends place count end shapes starts shape h few begun e = e ∙ begun (place + 1) (omega (arith, h)) ∙ sum_by_more body_len_of shapes place shape (omega (arith, h, few))

-- they lie among those of all
pub ends_within : (place count end : ℕ) (shapes : List Shape) (starts : List ℕ) → place < count → AreStarts count shapes starts → end ≡ slice_index_or starts (place + 1) 0 → end ≤ sum_by body_len_of (take count shapes)
ends_within place count end shapes starts h begun e =
    let less : place + 1 ≤ count = omega (arith, h) in
    let part : sum_by body_len_of (take (place + 1) (take count shapes)) ≤ sum_by body_len_of (take count shapes) = sum_by-take-le body_len_of (take count shapes) (place + 1) in
    let same : sum_by body_len_of (take (place + 1) (take count shapes)) ≡ sum_by body_len_of (take (place + 1) shapes) = ap (sum_by body_len_of) (take-take (place + 1) count shapes less) in
    omega (arith, e, begun (place + 1) less, part, same)

-- the shape and the bytes that stand at a place are the block's
pub lent : (place count len start end : ℕ) (shapes : List Shape) (starts bytes : List ℕ) (shape : Shape) (block : BlockView) → place < count → count ≤ length shapes → len ≡ sum_by body_len_of (take count shapes)
    → AreStarts count shapes starts → start ≡ slice_index_or starts place 0 → end ≡ slice_index_or starts (place + 1) 0
    → written_by (slice_index_or shapes place shape) (take (end - start) (drop start bytes)) ≡ slice_index_or (blocks_in (take count shapes) (take len bytes)) place block
lent place count len start end shapes starts bytes shape block h few size begun s e =
    let found : Shape = slice_index_or shapes place shape in
    let before : ℕ = sum_by body_len_of (take place shapes) in
    let first : start ≡ before = begins place count start shapes starts h begun s in
    let long : end - start ≡ body_len_of found = omega (arith, first, ends place count end shapes starts shape h few begun e) in
    let at : slice_index_or (blocks_in (take count shapes) (take len bytes)) place block ≡ written_by found (take (body_len_of found) (drop before bytes)) =
    ap (λ (bs : List BlockView). slice_index_or bs place block) (cut_to len (take count shapes) bytes (omega (arith, size)))
    ∙ placed place (take count shapes) bytes shape block (omega (arith, h, length-take-le count shapes few))
    ∙ ap (λ (f : Shape). written_by f (take (body_len_of f) (drop (sum_by body_len_of (take place (take count shapes))) bytes))) (get_or-take count shapes place shape h)
    ∙ ap (λ (ss : List Shape). written_by found (take (body_len_of found) (drop (sum_by body_len_of ss) bytes))) (take-take place count shapes (omega (arith, h))) in
    ap (λ k. written_by found (take k (drop start bytes))) long ∙ ap (λ k. written_by found (take (body_len_of found) (drop k bytes))) first ∙ sym at

-- and its bytes are as many as its shape has
pub has_len : (place count len start end : ℕ) (shapes : List Shape) (starts bytes : List ℕ) (shape : Shape) → place < count → count ≤ length shapes → len ≡ sum_by body_len_of (take count shapes) → len ≤ length bytes
    → AreStarts count shapes starts → start ≡ slice_index_or starts place 0 → end ≡ slice_index_or starts (place + 1) 0
    → length (take (end - start) (drop start bytes)) ≡ body_len_of (slice_index_or shapes place shape)
has_len place count len start end shapes starts bytes shape h few size room begun s e =
    let first : start ≡ sum_by body_len_of (take place shapes) = begins place count start shapes starts h begun s in
    let last : end ≡ sum_by body_len_of (take place shapes) + body_len_of (slice_index_or shapes place shape) = ends place count end shapes starts shape h few begun e in
    let within : end ≤ sum_by body_len_of (take count shapes) = ends_within place count end shapes starts h begun e in
    length-take-le (end - start) (drop start bytes) (omega (arith, first, last, within, size, room, length-drop start bytes)) ∙ omega (arith, first, last)

-- other bytes there are another block at the place
pub written_at : (place count len start end : ℕ) (shapes : List Shape) (starts bytes more : List ℕ) (shape : Shape) → place < count → count ≤ length shapes → len ≡ sum_by body_len_of (take count shapes) → len ≤ length bytes
    → AreStarts count shapes starts → start ≡ slice_index_or starts place 0 → end ≡ slice_index_or starts (place + 1) 0 → length more ≡ body_len_of (slice_index_or shapes place shape)
    → blocks_in (take count shapes) (take len (take start bytes ++ (more ++ drop (end - start) (drop start bytes))))
    ≡ slice_set (blocks_in (take count shapes) (take len bytes)) place (written_by (slice_index_or shapes place shape) more)
written_at place count len start end shapes starts bytes more shape h few size room begun s e fits =
    let found : Shape = slice_index_or shapes place shape in
    let front : List Shape = take count shapes in
    let before : ℕ = sum_by body_len_of (take place shapes) in
    let first : start ≡ before = begins place count start shapes starts h begun s in
    let last : end ≡ before + body_len_of found = ends place count end shapes starts shape h few begun e in
    let on : start + (end - start) ≡ before + body_len_of found = omega (arith, first, last) in
    let one : slice_index_or front place shape ≡ found = get_or-take count shapes place shape h in
    let those : take place front ≡ take place shapes = take-take place count shapes (omega (arith, h)) in
    let all : sum_by body_len_of front ≤ len = omega (arith, size) in
    cut_to len front (take start bytes ++ (more ++ drop (end - start) (drop start bytes))) all
    ∙ ap (λ (t : List ℕ). blocks_in front (take start bytes ++ (more ++ t))) (drop-drop (end - start) start bytes)
    ∙ ap (λ k. blocks_in front (take k bytes ++ (more ++ drop (start + (end - start)) bytes))) (first ∙ ap (sum_by body_len_of) (sym those))
    ∙ ap (λ k. blocks_in front (take (sum_by body_len_of (take place front)) bytes ++ (more ++ drop k bytes))) (on ∙ (λ i. sum_by body_len_of (sym those i) + body_len_of (sym one i)))
    ∙ over place front bytes more shape (omega (arith, h, length-take-le count shapes few)) (omega (arith, size, room)) (fits ∙ ap body_len_of (sym one))
    ∙ ap (λ (f : Shape). slice_set (blocks_in front bytes) place (written_by f more)) one
    ∙ ap (λ (bs : List BlockView). slice_set bs place (written_by found more)) (sym (cut_to len front bytes all))

low_or_top : (i count : ℕ) → i ≤ count + 1 → (i ≤ count) ⊎ (i ≡ count + 1)
low_or_top zero count h = inl (omega arith)
low_or_top (suc i) zero h = inr (omega (arith, h))
low_or_top (suc i) (suc count) h = ⊎_elim (λ (low : i ≤ count). inl (omega (arith, low))) (λ (top : i ≡ count + 1). inr (omega (arith, top))) (low_or_top i count (omega (arith, h)))

-- one block more begins behind those that are there
pub begun_more : (count len more : ℕ) (shapes : List Shape) (starts : List ℕ) (shape : Shape) → count < length shapes → count + 1 < length starts → len ≡ sum_by body_len_of (take count shapes) → more ≡ word_count_of shape
    → AreStarts count shapes starts → AreStarts (count + 1) (set shapes count shape) (set starts (count + 1) (len + 2 * more))
begun_more count len more shapes starts shape h room size e begun i le =
    ⊎_elim
    (λ (low : i ≤ count).
    get_or-set_other starts (count + 1) i (len + 2 * more) 0 (λ same. omega (arith, low, same))
    ∙ begun i low ∙ ap (sum_by body_len_of) (sym (take-set-le i shapes count shape low)))
    (λ (top : i ≡ count + 1).
    ap (λ k. slice_index_or (set starts (count + 1) (len + 2 * more)) k 0) top ∙ get_or-set_same starts (count + 1) (len + 2 * more) 0 room
    ∙ sum_more count len more shapes shape h size e ∙ ap (λ k. sum_by body_len_of (take k (set shapes count shape))) (sym top))
    (low_or_top i count le)

-- ---- the bytes of all

-- a word takes two bytes
word_bytes : (words : List ℕ) → length (bytes_of_words words) ≡ 2 * length words
word_bytes [] = omega arith
word_bytes (w ∷ words) = omega (arith, word_bytes words)

-- blocks are read again from their bytes
pub read_back : (blocks : List BlockView) → AreWhole blocks → blocks_in (shapes_of blocks) (bytes_of blocks) ≡ blocks
read_back [] whole = refl
read_back (b ∷ blocks) whole =
    let w : ℕ = 2 * word_count_of b.shape in
    let front : List ℕ = bytes_of_words b.words in
    let rest : List ℕ = bytes_of blocks in
    let fits : length front ≡ w = word_bytes b.words ∙ ap (λ n. 2 * n) whole.0 in
    ap (λ (t : List ℕ). written_by b.shape t ∷ blocks_in (shapes_of blocks) (drop w (front ++ rest))) (take_at front rest w fits)
    ∙ ap (λ (t : List ℕ). written_by b.shape front ∷ blocks_in (shapes_of blocks) t) (drop_at front rest w fits)
    ∙ ap (λ (words : List ℕ). record { shape = b.shape; words = words } ∷ blocks_in (shapes_of blocks) rest) (words_back b.words whole.1)
    ∙ ap (λ (bs : List BlockView). b ∷ bs) (read_back blocks whole.2)

-- ---- a block put to a place, one after the other

-- so far they are few
pub put_so_far : (at place : ℕ) (blocks so_far : List BlockView) (block : BlockView) → at < length blocks → length blocks ≤ 16 → so_far ≡ take at (slice_set blocks place block) → length so_far < 16
put_so_far at place blocks so_far block h few e =
    let long : length (slice_set blocks place block) ≡ length blocks = length-set blocks place block in
    omega (arith, h, few, ap length e, long, length-take-le at (slice_set blocks place block) (omega (arith, h, long)))

-- the place itself
pub put_there : (at place : ℕ) (blocks : List BlockView) (block : BlockView) → at ≡ place → place < length blocks → take at (slice_set blocks place block) ++ block ∷ [] ≡ take (at + 1) (slice_set blocks place block)
put_there at place blocks block e h =
    let long : length (slice_set blocks place block) ≡ length blocks = length-set blocks place block in
    sym (take_more (slice_set blocks place block) at block (omega (arith, e, h, long))
    ∙ ap (λ (b : BlockView). take at (slice_set blocks place block) ++ b ∷ []) (ap (λ k. slice_index_or (slice_set blocks place block) k block) e ∙ get_or-set_same blocks place block block h))

-- any other one
pub kept_there : (at place : ℕ) (blocks : List BlockView) (block other : BlockView) → (at ≡ place → ⊥) → at < length blocks → other ≡ slice_index_or blocks at other → take at (slice_set blocks place block) ++ other ∷ [] ≡ take (at + 1) (slice_set blocks place block)
kept_there at place blocks block other ne h is_it =
    let long : length (slice_set blocks place block) ≡ length blocks = length-set blocks place block in
    sym (take_more (slice_set blocks place block) at other (omega (arith, h, long))
    ∙ ap (λ (b : BlockView). take at (slice_set blocks place block) ++ b ∷ []) (get_or-set_other blocks place at block other ne ∙ sym is_it))
