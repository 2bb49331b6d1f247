use Rattle.std.proofs.Common.{◌+◌, ◌∙◌, List, ap, get_or, sym, ℕ}
use Rattle.std.specs.Int.{w16, to_be_bytes}
use Rattle.pdc_block.specs.Block.{bytes_of_words}
use Rattle.pdc_block.proofs.Words.{eight_from, joined}
use Rattle.pdc_block.proofs.writing.eight_words.Goals as goal

pub returns : goal.returns
returns c =
    let words : List ℕ = c.args.words.now in
    let at : ℕ = c.args.at in
    let w : ℕ → List ℕ = λ n. to_be_bytes w16 (get_or words n 0) in
    ap (λ (x : List ℕ). joined x c.to_be_bytes-b.result c.to_be_bytes-c.result c.to_be_bytes-d.result c.to_be_bytes-e.result c.to_be_bytes-f.result c.to_be_bytes-g.result c.to_be_bytes-h.result) c.to_be_bytes-a.ensures
    ∙ ap (λ (x : List ℕ). joined (w at) x c.to_be_bytes-c.result c.to_be_bytes-d.result c.to_be_bytes-e.result c.to_be_bytes-f.result c.to_be_bytes-g.result c.to_be_bytes-h.result) c.to_be_bytes-b.ensures
    ∙ ap (λ (x : List ℕ). joined (w at) (w (at + 1)) x c.to_be_bytes-d.result c.to_be_bytes-e.result c.to_be_bytes-f.result c.to_be_bytes-g.result c.to_be_bytes-h.result) c.to_be_bytes-c.ensures
    ∙ ap (λ (x : List ℕ). joined (w at) (w (at + 1)) (w (at + 2)) x c.to_be_bytes-e.result c.to_be_bytes-f.result c.to_be_bytes-g.result c.to_be_bytes-h.result) c.to_be_bytes-d.ensures
    ∙ ap (λ (x : List ℕ). joined (w at) (w (at + 1)) (w (at + 2)) (w (at + 3)) x c.to_be_bytes-f.result c.to_be_bytes-g.result c.to_be_bytes-h.result) c.to_be_bytes-e.ensures
    ∙ ap (λ (x : List ℕ). joined (w at) (w (at + 1)) (w (at + 2)) (w (at + 3)) (w (at + 4)) x c.to_be_bytes-g.result c.to_be_bytes-h.result) c.to_be_bytes-f.ensures
    ∙ ap (λ (x : List ℕ). joined (w at) (w (at + 1)) (w (at + 2)) (w (at + 3)) (w (at + 4)) (w (at + 5)) x c.to_be_bytes-h.result) c.to_be_bytes-g.ensures
    ∙ ap (λ (x : List ℕ). joined (w at) (w (at + 1)) (w (at + 2)) (w (at + 3)) (w (at + 4)) (w (at + 5)) (w (at + 6)) x) c.to_be_bytes-h.ensures
    ∙ sym (ap bytes_of_words (eight_from words at c.requires))
