use Rattle.std.proofs.Common.{◌≡◌, ◌∙◌, ◌++◌, List, ℕ, ap, arith, length, subst, sym, take}
use Rattle.std.proofs.lemmas.List.{length-take-le}
use Rattle.pdc_block.specs.pdc_cfg.pdc_frame.Bytes.{AreBytes}
use Rattle.pdc_row.specs.KeptBlocks.{bytes_of}
use Rattle.pdc_row.specs.Shown.{MayBeShown, ShowsAt}
use Rattle.pdc_row.proofs.KeptLemmas.{spelled}
use Rattle.pdc_row.proofs.row_blocks.RowBlocks.show_framed.Goals as goal

pub show-requires-clause-may : goal.show-requires-clause-may
show-requires-clause-may g c =
    let i = c.self.inside in
    let bytes : List ℕ = take i.len i.room in
    let size : length bytes ≡ i.len = length-take-le i.len i.room (omega (arith, c.self.invariant.room, c.self.invariant.fits)) in
    let same : bytes ≡ bytes_of c.args.self.now =
    spelled c.bodies_are_their_words.ensures.words (take i.count i.shapes) bytes (subst AreBytes c.first.ensures c.are_bytes.ensures) (size ∙ c.self.invariant.size) ∙ ap bytes_of c.self.view_is in
    subst (λ (t : List ℕ). MayBeShown g.F.FnOnce c.args.with (c.args.ends.now.front ++ (t ++ c.args.ends.now.check)) c.args.to.now) (sym same) c.requires

pub returns-clause-shows : goal.returns-clause-shows
returns-clause-shows g c =
    let i = c.self.inside in
    let bytes : List ℕ = take i.len i.room in
    let size : length bytes ≡ i.len = length-take-le i.len i.room (omega (arith, c.self.invariant.room, c.self.invariant.fits)) in
    let same : bytes ≡ bytes_of c.args.self.now =
    spelled c.bodies_are_their_words.ensures.words (take i.count i.shapes) bytes (subst AreBytes c.first.ensures c.are_bytes.ensures) (size ∙ c.self.invariant.size) ∙ ap bytes_of c.self.view_is in
    subst (λ (t : List ℕ). ShowsAt g.F.FnOnce c.args.with (c.args.ends.now.front ++ (t ++ c.args.ends.now.check)) c.args.to.now c.show.result c.show.new.to) same c.show.ensures.shows
