use Rattle.std.proofs.Common.{◌≡◌, ◌∙◌, ◌++◌, Bor, List, None, Option, Some, ap, arith, drop, length, refl, subst, sym, take, ℕ}
use Rattle.std.specs.Option.{ForSome}
use Rattle.std.specs.Prelude.{IfSome, option_map, sum_by}
use Rattle.std.proofs.lemmas.List.{take_at}
use Rattle.pdc_block.specs.pdc_cfg.declared.shape.Shape.{Shape}
use Rattle.pdc_block.specs.Block.{body_len_of}
use Rattle.pdc_block.specs.declared.CheckedFront.{CheckedFront}
use Rattle.pdc_block.specs.declared.LentFront.{LentFront}
use Rattle.pdc_block.specs.pdc_frame.CheckWord.{check_word_of}
use Rattle.pdc_block.specs.pdc_frame.Fronts.{front_of}
use Rattle.pdc_row.specs.KeptBlocks.{blocks_in, shapes_of}
use Rattle.pdc_row.specs.KnownFront.{known_of}
use Rattle.pdc_row.proofs.KeptLemmas.{shapes_are}
use Rattle.pdc_row.proofs.Rooms.{first_long}
use Rattle.pdc_row.proofs.row_blocks.RowBlocks.write_over.Goals as goal

-- what is lent is kept, and the rest is these bytes
kept_as_lent : (rest bytes : List ℕ) (lent : Option (Bor LentFront)) (own : Option CheckedFront) → own ≡ option_map (λ (f : Bor LentFront). front_of f.now) lent → rest ≡ bytes → ForSome lent (λ known. (front_of known.now).check ≡ check_word_of ((front_of known.now).bytes ++ bytes))
    → IfSome own (λ known. known.check ≡ check_word_of (known.bytes ++ rest))
kept_as_lent rest bytes None own same e h = subst (λ (o : Option CheckedFront). IfSome o (λ known. known.check ≡ check_word_of (known.bytes ++ rest))) (sym same) tt
kept_as_lent rest bytes (Some known) own same e h =
    subst (λ (o : Option CheckedFront). IfSome o (λ known. known.check ≡ check_word_of (known.bytes ++ rest))) (sym same)
    (h known refl ∙ ap (λ (xs : List ℕ). check_word_of ((front_of known.now).bytes ++ xs)) (sym e))

pub write_first-requires : goal.write_first-requires
write_first-requires c =
    let i = c.self.inside in
    let shapes : take i.count i.shapes ≡ shapes_of c.args.self.now = sym (shapes_are (take i.count i.shapes) (take i.len i.room)) ∙ ap shapes_of c.self.view_is in
    let long : length c.args.bytes.now ≡ i.len = c.requires.size ∙ ap (sum_by body_len_of) (sym shapes) ∙ sym c.self.invariant.size in
    omega (arith, long, c.self.invariant.fits)

pub returns : goal.returns
returns c =
    let i = c.self.inside in
    let bytes : List ℕ = c.args.bytes.now in
    let shapes : take i.count i.shapes ≡ shapes_of c.args.self.now = sym (shapes_are (take i.count i.shapes) (take i.len i.room)) ∙ ap shapes_of c.self.view_is in
    let long : length bytes ≡ i.len = c.requires.size ∙ ap (sum_by body_len_of) (sym shapes) ∙ sym c.self.invariant.size in
    ap (λ (t : List ℕ). blocks_in (take i.count i.shapes) (take i.len t)) c.write_first.ensures
    ∙ ap (blocks_in (take i.count i.shapes)) (take_at bytes (drop (length bytes) i.room) i.len long)
    ∙ ap (λ (ss : List Shape). blocks_in ss bytes) shapes

pub invariant_of-self : goal.invariant_of-self
invariant_of-self c =
    let i = c.self.inside in
    let bytes : List ℕ = c.args.bytes.now in
    let shapes : take i.count i.shapes ≡ shapes_of c.args.self.now = sym (shapes_are (take i.count i.shapes) (take i.len i.room)) ∙ ap shapes_of c.self.view_is in
    let long : length bytes ≡ i.len = c.requires.size ∙ ap (sum_by body_len_of) (sym shapes) ∙ sym c.self.invariant.size in
    record {
      places = c.self.invariant.places;
      few = c.self.invariant.few;
      fits = c.self.invariant.fits;
      size = c.self.invariant.size;
      begun = c.self.invariant.begun;
      sent =
          kept_as_lent _ bytes c.args.sent (known_of c.set_lent.new.self) c.set_lent.ensures
          (ap (take i.len) c.write_first.ensures ∙ take_at bytes (drop (length bytes) i.room) i.len long)
          c.requires.sent;
      room = ap length c.write_first.ensures ∙ first_long bytes i.room (omega (arith, long, c.self.invariant.fits, c.self.invariant.room)) ∙ c.self.invariant.room;
    }
