use Rattle.std.proofs.Common.{◌≡◌, ◌++◌, ◌∙◌, ◌-◌, List, ap, arith, drop, length, length-append, ℕ, take}
use Rattle.std.proofs.lemmas.List.{length-drop, length-take, take_all}
use Rattle.pdc_block.specs.Block.{bytes_of_words}
use Rattle.pdc_block.proofs.Words.{last_words, length-bytes_of_words, more_words}
use Rattle.pdc_block.proofs.writing.append_words.Goals as goal

pub loop-at-preserved : goal.loop-at-preserved
loop-at-preserved g c =
    let words : List ℕ = c.args.words.now in
    let at : ℕ = c.loop-at.at in
    let before : List ℕ = g.B.Buffer.content c.loop-at.out in
    let piece : List ℕ = take 8 (drop at words) in
    let whole : g.B.Buffer.content c.append_few.new.self ≡ before ++ bytes_of_words piece = c.append_few.ensures.bytes ∙ ap (λ (bytes : List ℕ). before ++ bytes) c.eight_words.ensures in
    record {
      at_most = omega (arith, c.loop-at-test.true, c.loop-at.invariant.at_most);
      content = whole ∙ more_words words (g.B.Buffer.content c.args.out.now) before at c.loop-at.invariant.content;
      len = omega (
        arith,
        ap length whole,
        length-append before (bytes_of_words piece),
        length-bytes_of_words piece,
        length-take 8 (drop at words),
        length-drop at words,
        c.loop-at-test.true,
        c.loop-at.invariant.len,
      );
      in_place = c.append_few.ensures.in_place ∙ c.loop-at.invariant.in_place;
    }

pub returns-clause-content : goal.returns-clause-content
returns-clause-content g c =
    let words : List ℕ = c.args.words.now in
    let at : ℕ = c.loop-at.at in
    let rest : List ℕ = take (length words - at) (drop at words) in
    c.append_last.ensures.content
    ∙ last_words words rest (g.B.Buffer.content c.args.out.now) (g.B.Buffer.content c.loop-at.out) at c.loop-at.invariant.content
    (take_all (length words - at) (drop at words) (omega (arith, length-drop at words)))
