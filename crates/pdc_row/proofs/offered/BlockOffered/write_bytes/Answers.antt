use Rattle.std.proofs.Common.{◌∙◌, ◌++◌, List, ℕ, ap}
use Rattle.pdc_block.specs.Block.{bytes_of_words, words_in}
use Rattle.pdc_row.proofs.KeptLemmas.{words_back}
use Rattle.pdc_row.proofs.offered.BlockOffered.write_bytes.Goals as goal

pub returns : goal.returns
returns c =
    ap words_in (c.copy_from_slice.ensures.after ∙ c.as_slice.ensures.value ∙ c.append_words.ensures.content)
    ∙ ap (λ (t : List ℕ). words_in (t ++ bytes_of_words c.words.result.now)) c.new-written.ensures
    ∙ ap (λ (t : List ℕ). words_in (bytes_of_words t)) c.words.ensures.words
    ∙ words_back c.args.self.now.words.items c.args.self.now.words_fit
