use Rattle.std.proofs.Common.{List, ℕ, [], ◌∷◌, ◌++◌, ap, ◌∙◌, append_assoc}
use Rattle.pdc_row.specs.pdc_block.Block.{bytes_of_words}
use Rattle.pdc_row.specs.Layout.{stamp_words}
use Rattle.pdc_row.proofs.row_frame.append_own_block.Goals as goal

pub returns-clause-content : goal.returns-clause-content
returns-clause-content g c =
    let old : List ℕ = g.B.Buffer.content c.args.out.now in
    let begun : List ℕ = g.B.Buffer.content c.append_words.new.out in
    let first : List ℕ = bytes_of_words (0 ∷ 0 ∷ 0 ∷ []) in
    let stamp : List ℕ = bytes_of_words (stamp_words c.args.start c.args.change) in
    c.append_words-2.ensures.content ∙ ap (λ (t : List ℕ). begun ++ bytes_of_words t) c.stamp_words.ensures
    ∙ ap (λ (t : List ℕ). t ++ stamp) c.append_words.ensures.content ∙ append_assoc old first stamp
