use Rattle.std.proofs.Common.{List, ℕ, ◌++◌, ap, ap₂, sym, ◌∙◌}
use Rattle.std.specs.Int.{w16, to_be_bytes}
use Rattle.pdc_row.specs.pdc_frame.CheckWord.{check_word_of}
use Rattle.pdc_row.proofs.row_frame.ends_behind.Goals as goal

pub check_behind-word-requires : goal.check_behind-word-requires
check_behind-word-requires c = c.requires.known ∙ ap (λ (xs : List ℕ). check_word_of (c.args.known.now.bytes ++ xs)) (sym c.bytes.ensures.bytes)

pub returns-clause-check : goal.returns-clause-check
returns-clause-check c =
    c.to_be_bytes.ensures
    ∙ ap (to_be_bytes w16) (c.check_behind-word.ensures ∙ ap₂ (λ (xs ys : List ℕ). check_word_of (xs ++ ys)) c.write_front.ensures c.bytes.ensures.bytes)
