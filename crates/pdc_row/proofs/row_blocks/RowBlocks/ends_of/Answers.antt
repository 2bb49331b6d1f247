use Rattle.std.proofs.Common.{◌≡◌, ◌∙◌, ◌+◌, ◌++◌, List, ℕ, ap, ap₂, arith, length, subst, sym, take}
use Rattle.std.specs.Int.{w16, to_be_bytes}
use Rattle.std.proofs.lemmas.List.{length-take-le}
use Rattle.pdc_block.specs.pdc_cfg.pdc_frame.Bytes.{AreBytes}
use Rattle.pdc_block.specs.pdc_frame.CheckWord.{check_word_of}
use Rattle.pdc_row.specs.KeptBlocks.{bytes_of}
use Rattle.pdc_row.specs.pdc_frame.Frame.{fields_of, header_of}
use Rattle.pdc_row.proofs.KeptLemmas.{spelled}
use Rattle.pdc_row.proofs.row_blocks.RowBlocks.ends_of.Goals as goal

pub returns-clause-front : goal.returns-clause-front
returns-clause-front c =
    let i = c.self.inside in
    let bytes : List ℕ = take i.len i.room in
    let size : length bytes ≡ i.len = length-take-le i.len i.room (omega (arith, c.self.invariant.room, c.self.invariant.fits)) in
    let same : bytes ≡ bytes_of c.args.self.now =
    spelled c.bodies_are_their_words.ensures.words (take i.count i.shapes) bytes (subst AreBytes c.first.ensures c.are_bytes.ensures) (size ∙ c.self.invariant.size) ∙ ap bytes_of c.self.view_is in
    c.ends_of.ensures.front ∙ ap (λ n. header_of (fields_of c.args.head.now) (14 + n + 16) ++ c.args.own.now) (sym size ∙ ap length same)

pub returns-clause-check : goal.returns-clause-check
returns-clause-check c =
    let i = c.self.inside in
    let bytes : List ℕ = take i.len i.room in
    let size : length bytes ≡ i.len = length-take-le i.len i.room (omega (arith, c.self.invariant.room, c.self.invariant.fits)) in
    let same : bytes ≡ bytes_of c.args.self.now =
    spelled c.bodies_are_their_words.ensures.words (take i.count i.shapes) bytes (subst AreBytes c.first.ensures c.are_bytes.ensures) (size ∙ c.self.invariant.size) ∙ ap bytes_of c.self.view_is in
    c.ends_of.ensures.check
    ∙ ap₂ (λ n (t : List ℕ). to_be_bytes w16 (check_word_of (header_of (fields_of c.args.head.now) (14 + n + 16) ++ (c.args.own.now ++ t)))) (sym size ∙ ap length same) same
