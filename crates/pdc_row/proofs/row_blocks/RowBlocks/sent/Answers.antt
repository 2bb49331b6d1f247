use Rattle.std.proofs.Common.{◌≡◌, ◌∙◌, ◌++◌, Bor, List, Option, Some, None, ap, arith, subst, sym, take, ℕ}
use Rattle.pdc_block.specs.pdc_cfg.pdc_frame.Bytes.{AreBytes}
use Rattle.std.specs.Option.{option_copied}
use Rattle.std.specs.Prelude.{IfSome}
use Rattle.std.proofs.lemmas.List.{length-take-le}
use Rattle.pdc_block.specs.declared.CheckedFront.{CheckedFront}
use Rattle.pdc_block.specs.pdc_frame.CheckWord.{check_word_of}
use Rattle.pdc_row.specs.KeptBlocks.{bytes_of}
use Rattle.pdc_row.specs.KnownFront.{known_of}
use Rattle.pdc_row.proofs.KeptLemmas.{spelled}
use Rattle.pdc_row.proofs.row_blocks.RowBlocks.sent.Goals as goal

-- what is lent is what is kept, and the rest is these bytes
lent_as_kept : (rest bytes : List ℕ) (kept : Option CheckedFront) (lent : Option (Bor CheckedFront)) → option_copied lent ≡ kept → rest ≡ bytes → IfSome kept (λ known. known.check ≡ check_word_of (known.bytes ++ rest))
    → IfSome lent (λ known. known.now.check ≡ check_word_of (known.now.bytes ++ bytes))
lent_as_kept rest bytes kept None same e h = tt
lent_as_kept rest bytes kept (Some known) same e h =
    let at : known.now.check ≡ check_word_of (known.now.bytes ++ rest) = subst (λ (o : Option CheckedFront). IfSome o (λ known. known.check ≡ check_word_of (known.bytes ++ rest))) (sym same) h in
    at ∙ ap (λ (xs : List ℕ). check_word_of (known.now.bytes ++ xs)) e

pub returns : goal.returns
returns c =
    let i = c.self.inside in
    lent_as_kept (take i.len i.room) (bytes_of c.args.self.now) (known_of i.sent) c.as_ref.result c.as_ref.ensures
    (spelled c.bodies_are_their_words.ensures.words (take i.count i.shapes) (take i.len i.room) (subst AreBytes c.first.ensures c.are_bytes.ensures) (length-take-le i.len i.room (omega (arith, c.self.invariant.room, c.self.invariant.fits)) ∙ c.self.invariant.size)
    ∙ ap bytes_of c.self.view_is)
    c.self.invariant.sent
