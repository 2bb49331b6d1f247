use Rattle.std.proofs.Common.{◌≡◌, ◌∙◌, ◌<◌, ◌≤◌, ◌-◌, ℕ, List, ap, arith, length, take}
use Rattle.std.specs.Prelude.{slice_index_or, slice_set}
use Rattle.pdc_block.specs.Block.{body_len_of}
use Rattle.pdc_block.specs.pdc_cfg.declared.shape.Shape.{Shape}
use Rattle.pdc_row.specs.CellView.{BlockView}
use Rattle.pdc_row.specs.KeptBlocks.{blocks_in}
use Rattle.pdc_row.proofs.PlacedBlocks.{begins, ends, ends_within, in_place, written_at}
use Rattle.pdc_row.proofs.Rooms.{same_room}
use Rattle.pdc_row.proofs.SameBlocks.{found_same}
use Rattle.pdc_row.proofs.row_blocks.RowBlocks.put.Goals as goal

pub offset_bounds-self-inside-place : goal.offset_bounds-self-inside-place
offset_bounds-self-inside-place g c =
    let i = c.self.inside in
    let few : i.count ≤ length i.shapes = omega (arith, c.self.invariant.few, c.self.invariant.places) in
    let place : c.args.place < i.count = in_place c.args.place i.count i.shapes (take i.len i.room) c.args.self.now few c.self.view_is c.requires in
    omega (arith, place, c.self.invariant.few)

pub bounds-self-inside-place : goal.bounds-self-inside-place
bounds-self-inside-place g c =
    let i = c.self.inside in
    let few : i.count ≤ length i.shapes = omega (arith, c.self.invariant.few, c.self.invariant.places) in
    let place : c.args.place < i.count = in_place c.args.place i.count i.shapes (take i.len i.room) c.args.self.now few c.self.view_is c.requires in
    omega (arith, place, c.self.invariant.few)

pub offset_bounds-self-inside-place-then-eq : goal.offset_bounds-self-inside-place-then-eq
offset_bounds-self-inside-place-then-eq g c =
    let i = c.self.inside in
    let few : i.count ≤ length i.shapes = omega (arith, c.self.invariant.few, c.self.invariant.places) in
    let place : c.args.place < i.count = in_place c.args.place i.count i.shapes (take i.len i.room) c.args.self.now few c.self.view_is c.requires in
    omega (arith, place, c.self.invariant.few)

pub bounds-self-inside-place-then-eq : goal.bounds-self-inside-place-then-eq
bounds-self-inside-place-then-eq g c =
    let i = c.self.inside in
    let few : i.count ≤ length i.shapes = omega (arith, c.self.invariant.few, c.self.invariant.places) in
    let place : c.args.place < i.count = in_place c.args.place i.count i.shapes (take i.len i.room) c.args.self.now few c.self.view_is c.requires in
    omega (arith, place, c.self.invariant.few)

pub overflow_add-place : goal.overflow_add-place
overflow_add-place g c =
    let i = c.self.inside in
    let few : i.count ≤ length i.shapes = omega (arith, c.self.invariant.few, c.self.invariant.places) in
    let place : c.args.place < i.count = in_place c.args.place i.count i.shapes (take i.len i.room) c.args.self.now few c.self.view_is c.requires in
    omega (arith, place, c.self.invariant.few)

pub offset_bounds-self-inside-place-then-eq-2 : goal.offset_bounds-self-inside-place-then-eq-2
offset_bounds-self-inside-place-then-eq-2 g c =
    let i = c.self.inside in
    let few : i.count ≤ length i.shapes = omega (arith, c.self.invariant.few, c.self.invariant.places) in
    let place : c.args.place < i.count = in_place c.args.place i.count i.shapes (take i.len i.room) c.args.self.now few c.self.view_is c.requires in
    omega (arith, place, c.self.invariant.few)

pub bounds-self-inside-place-then-eq-2 : goal.bounds-self-inside-place-then-eq-2
bounds-self-inside-place-then-eq-2 g c =
    let i = c.self.inside in
    let few : i.count ≤ length i.shapes = omega (arith, c.self.invariant.few, c.self.invariant.places) in
    let place : c.args.place < i.count = in_place c.args.place i.count i.shapes (take i.len i.room) c.args.self.now few c.self.view_is c.requires in
    omega (arith, place, c.self.invariant.few)

pub listed : goal.listed
listed g c =
    let i = c.self.inside in
    let few : i.count ≤ length i.shapes = omega (arith, c.self.invariant.few, c.self.invariant.places) in
    let place : c.args.place < i.count = in_place c.args.place i.count i.shapes (take i.len i.room) c.args.self.now few c.self.view_is c.requires in
    omega (arith, place, few)

pub write-requires-clause-order : goal.write-requires-clause-order
write-requires-clause-order g c =
    let i = c.self.inside in
    let few : i.count ≤ length i.shapes = omega (arith, c.self.invariant.few, c.self.invariant.places) in
    let place : c.args.place < i.count = in_place c.args.place i.count i.shapes (take i.len i.room) c.args.self.now few c.self.view_is c.requires in
    let s : c.from-start.result ≡ _ = begins c.args.place i.count c.from-start.result i.shapes i.starts place c.self.invariant.begun c.from-start.ensures in
    let e : c.from-end.result ≡ _ = ends c.args.place i.count c.from-end.result i.shapes i.starts c.index-self-place.result place few c.self.invariant.begun c.from-end.ensures in
    let up : c.from-start.result ≤ c.from-end.result = omega (arith, s, e) in
    up

pub write-requires-clause-most : goal.write-requires-clause-most
write-requires-clause-most g c =
    let i = c.self.inside in
    let few : i.count ≤ length i.shapes = omega (arith, c.self.invariant.few, c.self.invariant.places) in
    let place : c.args.place < i.count = in_place c.args.place i.count i.shapes (take i.len i.room) c.args.self.now few c.self.view_is c.requires in
    let up : c.from-end.result ≤ 3426 = omega (arith, ends_within c.args.place i.count c.from-end.result i.shapes i.starts place c.self.invariant.begun c.from-end.ensures, c.self.invariant.size, c.self.invariant.fits) in
    up

pub write-requires-clause-len : goal.write-requires-clause-len
write-requires-clause-len g c =
    let i = c.self.inside in
    let few : i.count ≤ length i.shapes = omega (arith, c.self.invariant.few, c.self.invariant.places) in
    let place : c.args.place < i.count = in_place c.args.place i.count i.shapes (take i.len i.room) c.args.self.now few c.self.view_is c.requires in
    let s : c.from-start.result ≡ _ = begins c.args.place i.count c.from-start.result i.shapes i.starts place c.self.invariant.begun c.from-start.ensures in
    let e : c.from-end.result ≡ _ = ends c.args.place i.count c.from-end.result i.shapes i.starts c.index-self-place.result place few c.self.invariant.begun c.from-end.ensures in
    let size : c.from-end.result - c.from-start.result ≡ body_len_of (slice_index_or i.shapes c.args.place c.index-self-place.result) = omega (arith, s, e) in
    size ∙ ap body_len_of (found_same c.eq.result (slice_index_or i.shapes c.args.place c.index-self-place.result) c.shape.result c.eq.ensures c.if-eq.true ∙ c.shape.ensures)

pub returns-then-eq : goal.returns-then-eq
returns-then-eq g c =
    let i = c.self.inside in
    let few : i.count ≤ length i.shapes = omega (arith, c.self.invariant.few, c.self.invariant.places) in
    let place : c.args.place < i.count = in_place c.args.place i.count i.shapes (take i.len i.room) c.args.self.now few c.self.view_is c.requires in
    let s : c.from-start.result ≡ _ = begins c.args.place i.count c.from-start.result i.shapes i.starts place c.self.invariant.begun c.from-start.ensures in
    let e : c.from-end.result ≡ _ = ends c.args.place i.count c.from-end.result i.shapes i.starts c.index-self-place.result place few c.self.invariant.begun c.from-end.ensures in
    let view : BlockView = g.B.Offered.view c.args.block.now in
    let found : Shape = slice_index_or i.shapes c.args.place c.index-self-place.result in
    let same : found ≡ view.shape = found_same c.eq.result found c.shape.result c.eq.ensures c.if-eq.true ∙ c.shape.ensures in
    let blocks : List BlockView = blocks_in (take i.count i.shapes) (take i.len i.room) in
    let more : List ℕ = c.write.ensures.0 in
    let long : length more ≡ body_len_of found = omega (arith, c.write.ensures.2, s, e) in
    ap (λ (t : List ℕ). blocks_in (take i.count i.shapes) (take i.len t)) c.write.ensures.1
    ∙ written_at c.args.place i.count i.len c.from-start.result c.from-end.result i.shapes i.starts i.room more c.index-self-place.result place few c.self.invariant.size
    (omega (arith, c.self.invariant.room, c.self.invariant.fits)) c.self.invariant.begun c.from-start.ensures c.from-end.ensures long
    ∙ ap (λ (ws : List ℕ). slice_set blocks c.args.place (record { shape = found; words = ws })) c.write.ensures.3
    ∙ ap (λ (shape : Shape). slice_set blocks c.args.place (record { shape = shape; words = view.words })) same
    ∙ ap (λ (bs : List BlockView). slice_set bs c.args.place view) c.self.view_is

pub invariant_of-self : goal.invariant_of-self
invariant_of-self g c =
    let i = c.self.inside in
    let few : i.count ≤ length i.shapes = omega (arith, c.self.invariant.few, c.self.invariant.places) in
    let place : c.args.place < i.count = in_place c.args.place i.count i.shapes (take i.len i.room) c.args.self.now few c.self.view_is c.requires in
    let s : c.from-start.result ≡ _ = begins c.args.place i.count c.from-start.result i.shapes i.starts place c.self.invariant.begun c.from-start.ensures in
    let e : c.from-end.result ≡ _ = ends c.args.place i.count c.from-end.result i.shapes i.starts c.index-self-place.result place few c.self.invariant.begun c.from-end.ensures in
    let up : c.from-end.result ≤ length i.room =
    omega (arith, ends_within c.args.place i.count c.from-end.result i.shapes i.starts place c.self.invariant.begun c.from-end.ensures, c.self.invariant.size, c.self.invariant.fits, c.self.invariant.room) in
    record {
      places = c.self.invariant.places;
      few = c.self.invariant.few;
      fits = c.self.invariant.fits;
      size = c.self.invariant.size;
      begun = c.self.invariant.begun;
      sent = tt;
      room = ap length c.write.ensures.1 ∙ same_room c.from-start.result c.from-end.result i.room c.write.ensures.0 (omega (arith, s, e)) up c.write.ensures.2 ∙ c.self.invariant.room;
    }
