use Rattle.std.proofs.Common.{◌≡◌, ℕ, ◌+◌, ◌-◌, ◌*◌, ◌≤◌, List, [], ◌∷◌, ◌++◌, length, take, drop, map, ap, sym, subst, ◌∙◌, arith}
use Rattle.std.specs.Prelude.{sum_by}
use Rattle.std.proofs.lemmas.List.{take_more, map_push, take_all}
use Rattle.std.proofs.lemmas.List.Sums.{sum_by_push}
use Rattle.pdc_cfg.specs.declared.shape.Shape.{Shape}
use Rattle.pdc_block.specs.Block.{IsCut, AreOfShapes, bytes_of_blocks, bytes_of_words, body_len_of, words_of, shape_of}
use Rattle.pdc_block.proofs.Words.{length-bytes_of_blocks, same_blocks, AreOfShapes-push, bytes_of_blocks-push}
use Rattle.pdc_block.proofs.reading.cut.Goals as goal

pub returns-then-payload-payload_len-clause-only : goal.returns-then-payload-payload_len-clause-only
returns-then-payload-payload_len-clause-only c = λ blocks h. c.if-payload-payload_len.true (ap length h.parts ∙ length-bytes_of_blocks c.args.shapes.now blocks h.shaped ∙ sym c.payload_len.ensures)

pub returns-then-payload-payload_len-clause-refused : goal.returns-then-payload-payload_len-clause-refused
returns-then-payload-payload_len-clause-refused c = returns-then-payload-payload_len-clause-only c

pub loop-shape-preserved : goal.loop-shape-preserved
loop-shape-preserved c =
    let shapes : List Shape = c.args.shapes.now in
    let payload : List ℕ = c.args.payload.now in
    let i : ℕ = c.loop-shape.shape-index in
    let s : Shape = c.shape-item.result in
    let place : ℕ = c.loop-shape.place in
    let before = c.loop-shape.blocks.items in
    let block = c.body_of.result in
    let inv = c.loop-shape.invariant in
    let body = c.body_of.ensures.found in
    let more : take (i + 1) shapes ≡ take i shapes ++ s ∷ [] = take_more shapes i s (omega arith) ∙ ap (λ (t : Shape). take i shapes ++ t ∷ []) (sym c.shape-item.is) in
    let width : place + 2 * c.word_count.result - place ≡ 2 * c.word_count.result = omega arith in
    let shapes' : map shape_of c.push.new.self.items ≡ take i shapes ++ s ∷ [] = ap (map shape_of) c.push.ensures.items ∙ map_push shape_of before block ∙ ap (λ (t : List Shape). t ++ shape_of block ∷ []) inv.shapes ∙ ap (λ (t : Shape). take i shapes ++ t ∷ []) c.body_of.ensures.shape in
    let words' : map words_of c.push.new.self.items ≡ map words_of before ++ words_of block ∷ [] = ap (map words_of) c.push.ensures.items ∙ map_push words_of before block in
    let here : bytes_of_words (words_of block) ≡ take (2 * c.word_count.result) (drop place payload) = sym body.spelled ∙ ap (λ (n : ℕ). take n (drop place payload)) width in
    let shaped : AreOfShapes (take i shapes ++ s ∷ []) (map words_of before ++ words_of block ∷ []) = AreOfShapes-push (take i shapes) (map words_of before) s (words_of block) inv.shaped body.count body.fits in
    record {
      place = omega (arith, inv.place, ap (sum_by body_len_of) more, sum_by_push body_len_of (take i shapes) s, c.word_count.ensures.value);
      shapes = shapes' ∙ sym more;
      shaped = subst (λ (t : List Shape). AreOfShapes t (map words_of c.push.new.self.items)) (sym more) (subst (λ (w : List (List ℕ)). AreOfShapes (take i shapes ++ s ∷ []) w) (sym words') shaped);
      parts = ap bytes_of_blocks words' ∙ bytes_of_blocks-push (map words_of before) (words_of block) payload place (2 * c.word_count.result) inv.parts here;
    }

-- blocks for all shapes are the whole payload
is_cut : (shapes : List Shape) (payload : List ℕ) (n place : ℕ) (blocks : List (List ℕ)) → length shapes ≤ n → place ≡ sum_by body_len_of (take n shapes) → AreOfShapes (take n shapes) blocks
    → bytes_of_blocks blocks ≡ take place payload → length payload ≡ sum_by body_len_of shapes → IsCut shapes payload blocks
is_cut shapes payload n place blocks le place-is shaped parts len =
    let all : take n shapes ≡ shapes = take_all n shapes le in
    record {
      shaped = subst (λ (t : List Shape). AreOfShapes t blocks) all shaped;
      parts = sym (parts ∙ take_all place payload (omega (arith, len, place-is, ap (sum_by body_len_of) all)));
    }

pub returns-clause-only : goal.returns-clause-only
returns-clause-only c = λ blocks h.
    let found = is_cut c.args.shapes.now c.args.payload.now c.loop-shape.shape-index c.loop-shape.place _ c.loop-shape-test.false c.loop-shape.invariant.place c.loop-shape.invariant.shaped c.loop-shape.invariant.parts (c.if-payload-payload_len.false ∙ c.payload_len.ensures) in
    same_blocks c.words_are_their_bytes.ensures c.parts_keep_their_words.ensures c.args.shapes.now _ blocks found.shaped h.shaped (sym found.parts ∙ h.parts)
