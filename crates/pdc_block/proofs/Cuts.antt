-- A payload, cut into blocks of given shapes.
use Rattle.std.proofs.Common.{◌≡◌, ℕ, ◌+◌, List, [], ◌∷◌, ◌++◌, length, take, drop, map, refl, sym, ap, ◌∙◌, arith, length-drop}
use Rattle.std.specs.Prelude.{sum_by}
use Rattle.std.proofs.lemmas.List.{take-append-drop, length-take}
use Rattle.std.proofs.lemmas.List.Sums.{sum_by-cons}
use Rattle.pdc_cfg.specs.pdc_frame.Bytes.{AreBytes}
use Rattle.pdc_cfg.specs.pdc_frame.Parts.{WordsAreTheirBytes, PartsKeepTheirWords}
use Rattle.pdc_cfg.specs.declared.shape.Shape.{Shape}
use Rattle.pdc_block.specs.declared.block.Block.{Block}
use Rattle.pdc_block.specs.Block.{AreOfShapes, IsCut, body_len_of, bytes_of_blocks, bytes_of_words, shape_of, words_in, words_of}
use Rattle.pdc_block.proofs.Words.{length-bytes_of_blocks, same_blocks}
use Rattle.pdc_block.proofs.Bodies.{body_of_bytes}

pub same_cut : (words : WordsAreTheirBytes) (keep : PartsKeepTheirWords) (shapes : List Shape) (payload : List ℕ) (a b : List (List ℕ)) → IsCut shapes payload a → IsCut shapes payload b → a ≡ b
same_cut words keep shapes payload a b ha hb = same_blocks words keep shapes a b ha.shaped hb.shaped (sym ha.parts ∙ hb.parts)

pub length-cut : (shapes : List Shape) (payload : List ℕ) (blocks : List (List ℕ)) → IsCut shapes payload blocks → length payload ≡ sum_by body_len_of shapes
length-cut shapes payload blocks h = ap length h.parts ∙ length-bytes_of_blocks shapes blocks h.shaped

-- no bytes are left over
nothing : (payload : List ℕ) → length payload ≡ 0 → payload ≡ []
nothing [] e = refl
nothing (x ∷ xs) e = absurd (omega (arith, e))

-- a body, and what stands behind it
behind : (front rest payload : List ℕ) (words : List ℕ) (blocks : List (List ℕ)) → front ++ rest ≡ payload → front ≡ bytes_of_words words → rest ≡ bytes_of_blocks blocks
    → payload ≡ bytes_of_blocks (words ∷ blocks)
behind front rest payload words blocks whole first others =
    sym whole ∙ ap (λ (t : List ℕ). t ++ rest) first ∙ ap (λ (t : List ℕ). bytes_of_words words ++ t) others

pub cut_of_bytes : (words : WordsAreTheirBytes) (keep : PartsKeepTheirWords) (shapes : List Shape) (payload : List ℕ) → AreBytes payload → length payload ≡ sum_by body_len_of shapes → (blocks : List (List ℕ)) × IsCut shapes payload blocks
cut_of_bytes words keep [] payload fits len = ([], record { shaped = tt; parts = nothing payload len })
cut_of_bytes words keep (s ∷ shapes) payload fits len =
    let n : ℕ = body_len_of s in
    let both : length payload ≡ n + sum_by body_len_of shapes = len ∙ sum_by-cons body_len_of s shapes in
    let front : length (take n payload) ≡ n = omega (arith, both, length-take n payload) in
    let back : length (drop n payload) ≡ sum_by body_len_of shapes = omega (arith, both, length-drop n payload) in
    let body = body_of_bytes words s (take n payload) (keep.bytes_in_take n payload fits) front in
    let others : (blocks : List (List ℕ)) × IsCut shapes (drop n payload) blocks = cut_of_bytes words keep shapes (drop n payload) (keep.bytes_in_drop n payload fits) back in (
      words_in (take n payload) ∷ others.0,
      record {
        shaped = (body.count, body.fits, others.1.shaped);
        parts = behind (take n payload) (drop n payload) payload (words_in (take n payload)) others.0 (take-append-drop n payload) body.spelled others.1.parts;
      },
    )

blocks_shaped : (blocks : List Block) → AreOfShapes (map shape_of blocks) (map words_of blocks)
blocks_shaped [] = tt
blocks_shaped (b ∷ blocks) = (b.counted, b.words_fit, blocks_shaped blocks)

-- the bytes of blocks are cut back
pub cut_of_blocks : (blocks : List Block) → IsCut (map shape_of blocks) (bytes_of_blocks (map words_of blocks)) (map words_of blocks)
cut_of_blocks blocks = record { shaped = blocks_shaped blocks; parts = refl }

sum_of_shapes : (blocks : List Block) → sum_by body_len_of (map shape_of blocks) ≡ sum_by (λ block. body_len_of (shape_of block)) blocks
sum_of_shapes [] = refl
sum_of_shapes (b ∷ blocks) =
    omega (arith, sum_by-cons body_len_of (shape_of b) (map shape_of blocks), sum_by-cons (λ block. body_len_of (shape_of block)) b blocks, sum_of_shapes blocks)

-- and are as many as their shapes take
pub length-blocks : (blocks : List Block) → length (bytes_of_blocks (map words_of blocks)) ≡ sum_by (λ block. body_len_of (shape_of block)) blocks
length-blocks blocks = length-bytes_of_blocks (map shape_of blocks) (map words_of blocks) (blocks_shaped blocks) ∙ sum_of_shapes blocks
