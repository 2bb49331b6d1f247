use Rattle.std.proofs.Common.{◌≡◌, ◌∙◌, ◌+◌, ◌*◌, ◌-◌, ◌<◌, ◌≤◌, ◌++◌, ◌∷◌, [], List, ℕ, ap, arith, drop, length, length-set, set, take}
use Rattle.std.proofs.lemmas.List.{length-take-le}
use Rattle.pdc_block.specs.pdc_cfg.declared.shape.Shape.{Shape}
use Rattle.pdc_row.specs.CellView.{BlockView}
use Rattle.pdc_row.specs.KeptBlocks.{blocks_in}
use Rattle.pdc_row.proofs.KeptLemmas.{kept, one_more, pushed, room, sum_more, written_behind}
use Rattle.pdc_row.proofs.PlacedBlocks.{begun_more}
use Rattle.pdc_row.proofs.Rooms.{same_room}
use Rattle.pdc_row.proofs.row_blocks.RowBlocks.push.Goals as goal

pub overflow_add-end : goal.overflow_add-end
overflow_add-end g c = omega (arith, c.self.invariant.fits, c.word_count.ensures.most)

pub write-requires-clause-most : goal.write-requires-clause-most
write-requires-clause-most g c =
    let i = c.self.inside in
    let few : i.count < 16 = omega (arith, c.requires, ap length c.self.view_is, kept i.count i.shapes (take i.len i.room) (omega (arith, c.self.invariant.few, c.self.invariant.places))) in
    let most : i.len + 2 * c.word_count.result ≤ 3424 = room i.count i.len c.word_count.result i.shapes c.shape-shape.result few c.self.invariant.places c.self.invariant.size c.word_count.ensures.value in
    omega (arith, most)

pub listed : goal.listed
listed g c =
    let i = c.self.inside in
    omega (arith, c.requires, ap length c.self.view_is, c.self.invariant.places, kept i.count i.shapes (take i.len i.room) (omega (arith, c.self.invariant.few, c.self.invariant.places)))

pub bounds-self-inside-self-inside : goal.bounds-self-inside-self-inside
bounds-self-inside-self-inside g c =
    let i = c.self.inside in
    let few : i.count < 16 = omega (arith, c.requires, ap length c.self.view_is, kept i.count i.shapes (take i.len i.room) (omega (arith, c.self.invariant.few, c.self.invariant.places))) in
    few

pub bounds-self-inside-self-inside-2 : goal.bounds-self-inside-self-inside-2
bounds-self-inside-self-inside-2 g c =
    let i = c.self.inside in
    let few : i.count < 16 = omega (arith, c.requires, ap length c.self.view_is, kept i.count i.shapes (take i.len i.room) (omega (arith, c.self.invariant.few, c.self.invariant.places))) in
    omega (arith, few)

pub invariant_of-self : goal.invariant_of-self
invariant_of-self g c =
    let i = c.self.inside in
    let few : i.count < 16 = omega (arith, c.requires, ap length c.self.view_is, kept i.count i.shapes (take i.len i.room) (omega (arith, c.self.invariant.few, c.self.invariant.places))) in
    record {
      places = length-set i.shapes i.count c.shape-shape.result ∙ c.self.invariant.places;
      few = omega (arith, few);
      fits = room i.count i.len c.word_count.result i.shapes c.shape-shape.result few c.self.invariant.places c.self.invariant.size c.word_count.ensures.value;
      size = sum_more i.count i.len c.word_count.result i.shapes c.shape-shape.result (omega (arith, few, c.self.invariant.places)) c.self.invariant.size c.word_count.ensures.value;
      begun =
          begun_more i.count i.len c.word_count.result i.shapes i.starts c.shape-shape.result (omega (arith, few, c.self.invariant.places)) (omega (arith, few, c.self.told)) c.self.invariant.size c.word_count.ensures.value
          c.self.invariant.begun;
      sent = tt;
      room = ap length c.write.ensures.1 ∙ same_room i.len (i.len + 2 * c.word_count.result) i.room c.write.ensures.0 (omega arith) (omega (arith, c.self.invariant.room, room i.count i.len c.word_count.result i.shapes c.shape-shape.result few c.self.invariant.places c.self.invariant.size c.word_count.ensures.value)) c.write.ensures.2 ∙ c.self.invariant.room;
    }

pub returns : goal.returns
returns g c =
    let i = c.self.inside in
    let n : ℕ = 2 * c.word_count.result in
    let words : List ℕ = c.write.ensures.0 in
    let few : i.count < 16 = omega (arith, c.requires, ap length c.self.view_is, kept i.count i.shapes (take i.len i.room) (omega (arith, c.self.invariant.few, c.self.invariant.places))) in
    let front : List Shape = take i.count i.shapes in
    let bytes : List ℕ = take i.len i.room in
    let long : length words ≡ n = omega (arith, c.write.ensures.2) in
    let inside : i.len ≤ length i.room = omega (arith, c.self.invariant.room, c.self.invariant.fits) in
    let rest : List ℕ = drop (i.len + n - i.len) (drop i.len i.room) in
    let view : BlockView = g.B.Offered.view c.args.block.now in
    ap (λ (t : List ℕ). blocks_in (take (i.count + 1) (set i.shapes i.count c.shape-shape.result)) (take (i.len + n) t)) c.write.ensures.1
    ∙ ap (λ ss. blocks_in ss (take (i.len + n) (bytes ++ (words ++ rest)))) (one_more i.count i.shapes c.shape-shape.result (omega (arith, few, c.self.invariant.places)))
    ∙ ap (blocks_in (front ++ c.shape-shape.result ∷ [])) (written_behind i.len n i.room words rest inside long)
    ∙ pushed front bytes c.shape-shape.result words (length-take-le i.len i.room inside ∙ c.self.invariant.size) (omega (arith, long, c.word_count.ensures.value))
    ∙ ap (λ (ws : List ℕ). blocks_in front bytes ++ record { shape = c.shape-shape.result; words = ws } ∷ []) c.write.ensures.3
    ∙ ap (λ shape. blocks_in front bytes ++ record { shape = shape; words = view.words } ∷ []) c.shape-shape.ensures
    ∙ ap (λ (bs : List BlockView). bs ++ view ∷ []) c.self.view_is
