use Rattle.std.proofs.Common.{◌+◌, ◌∙◌, List, ap, get_or, sym, ℕ}
use Rattle.std.specs.Int.{w16, to_be_bytes}
use Rattle.pdc_block.specs.Block.{bytes_of_words}
use Rattle.pdc_block.proofs.Words.{four_from, joined_four}
use Rattle.pdc_block.proofs.writing.four_words.Goals as goal

pub returns : goal.returns
returns c =
    let words : List ℕ = c.args.words.now in
    let at : ℕ = c.args.at in
    let w : ℕ → List ℕ = λ n. to_be_bytes w16 (get_or words n 0) in
    ap (λ (x : List ℕ). joined_four x c.to_be_bytes-b.result c.to_be_bytes-c.result c.to_be_bytes-d.result) c.to_be_bytes-a.ensures
    ∙ ap (λ (x : List ℕ). joined_four (w at) x c.to_be_bytes-c.result c.to_be_bytes-d.result) c.to_be_bytes-b.ensures
    ∙ ap (λ (x : List ℕ). joined_four (w at) (w (at + 1)) x c.to_be_bytes-d.result) c.to_be_bytes-c.ensures
    ∙ ap (λ (x : List ℕ). joined_four (w at) (w (at + 1)) (w (at + 2)) x) c.to_be_bytes-d.ensures
    ∙ sym (ap bytes_of_words (four_from words at c.requires))
