use Rattle.std.proofs.Common.{ℕ, ◌≡◌, ◌∙◌, ◌<◌, ◌≤◌, List, ap, arith, length, take}
use Rattle.std.specs.Prelude.{slice_index_or}
use Rattle.pdc_row.specs.CellView.{BlockView}
use Rattle.pdc_row.specs.KeptBlocks.{written_by}
use Rattle.pdc_row.proofs.PlacedBlocks.{begins, ends, ends_within, has_len, in_place, lent}
use Rattle.pdc_row.proofs.row_blocks.RowBlocks.body.Goals as goal

pub offset_bounds-self-inside-place : goal.offset_bounds-self-inside-place
offset_bounds-self-inside-place c =
    let i = c.self.inside in
    let few : i.count ≤ length i.shapes = omega (arith, c.self.invariant.few, c.self.invariant.places) in
    let place : c.args.place < i.count = in_place c.args.place i.count i.shapes (take i.len i.room) c.args.self.now few c.self.view_is c.requires in
    omega (arith, place, c.self.invariant.few)

pub bounds-self-inside-place : goal.bounds-self-inside-place
bounds-self-inside-place c =
    let i = c.self.inside in
    let few : i.count ≤ length i.shapes = omega (arith, c.self.invariant.few, c.self.invariant.places) in
    let place : c.args.place < i.count = in_place c.args.place i.count i.shapes (take i.len i.room) c.args.self.now few c.self.view_is c.requires in
    omega (arith, place, c.self.invariant.few)

pub overflow_add-place : goal.overflow_add-place
overflow_add-place c =
    let i = c.self.inside in
    let few : i.count ≤ length i.shapes = omega (arith, c.self.invariant.few, c.self.invariant.places) in
    let place : c.args.place < i.count = in_place c.args.place i.count i.shapes (take i.len i.room) c.args.self.now few c.self.view_is c.requires in
    omega (arith, place, c.self.invariant.few)

pub offset_bounds-self-inside-place-2 : goal.offset_bounds-self-inside-place-2
offset_bounds-self-inside-place-2 c =
    let i = c.self.inside in
    let few : i.count ≤ length i.shapes = omega (arith, c.self.invariant.few, c.self.invariant.places) in
    let place : c.args.place < i.count = in_place c.args.place i.count i.shapes (take i.len i.room) c.args.self.now few c.self.view_is c.requires in
    omega (arith, place, c.self.invariant.few)

pub bounds-self-inside-place-2 : goal.bounds-self-inside-place-2
bounds-self-inside-place-2 c =
    let i = c.self.inside in
    let few : i.count ≤ length i.shapes = omega (arith, c.self.invariant.few, c.self.invariant.places) in
    let place : c.args.place < i.count = in_place c.args.place i.count i.shapes (take i.len i.room) c.args.self.now few c.self.view_is c.requires in
    omega (arith, place, c.self.invariant.few)

pub offset_bounds-self-inside-place-3 : goal.offset_bounds-self-inside-place-3
offset_bounds-self-inside-place-3 c =
    let i = c.self.inside in
    let few : i.count ≤ length i.shapes = omega (arith, c.self.invariant.few, c.self.invariant.places) in
    let place : c.args.place < i.count = in_place c.args.place i.count i.shapes (take i.len i.room) c.args.self.now few c.self.view_is c.requires in
    omega (arith, place, c.self.invariant.few)

pub listed : goal.listed
listed c =
    let i = c.self.inside in
    let few : i.count ≤ length i.shapes = omega (arith, c.self.invariant.few, c.self.invariant.places) in
    let place : c.args.place < i.count = in_place c.args.place i.count i.shapes (take i.len i.room) c.args.self.now few c.self.view_is c.requires in
    omega (arith, place, few)

pub bounds-self-inside-place-3 : goal.bounds-self-inside-place-3
bounds-self-inside-place-3 c =
    let i = c.self.inside in
    let few : i.count ≤ length i.shapes = omega (arith, c.self.invariant.few, c.self.invariant.places) in
    let place : c.args.place < i.count = in_place c.args.place i.count i.shapes (take i.len i.room) c.args.self.now few c.self.view_is c.requires in
    omega (arith, place, c.self.invariant.few)

pub part-requires-clause-order : goal.part-requires-clause-order
part-requires-clause-order c =
    let i = c.self.inside in
    let few : i.count ≤ length i.shapes = omega (arith, c.self.invariant.few, c.self.invariant.places) in
    let place : c.args.place < i.count = in_place c.args.place i.count i.shapes (take i.len i.room) c.args.self.now few c.self.view_is c.requires in
    let s : c.from-start.result ≡ _ = begins c.args.place i.count c.from-start.result i.shapes i.starts place c.self.invariant.begun c.from-start.ensures in
    let e : c.from-end.result ≡ _ = ends c.args.place i.count c.from-end.result i.shapes i.starts c.index-self-place.result place few c.self.invariant.begun c.from-end.ensures in
    omega (arith, s, e)

pub part-requires-clause-most : goal.part-requires-clause-most
part-requires-clause-most c =
    let i = c.self.inside in
    let few : i.count ≤ length i.shapes = omega (arith, c.self.invariant.few, c.self.invariant.places) in
    let place : c.args.place < i.count = in_place c.args.place i.count i.shapes (take i.len i.room) c.args.self.now few c.self.view_is c.requires in
    let up : c.from-end.result ≤ 3426 = omega (arith, ends_within c.args.place i.count c.from-end.result i.shapes i.starts place c.self.invariant.begun c.from-end.ensures, c.self.invariant.size, c.self.invariant.fits) in
    up

pub invariant_of-result : goal.invariant_of-result
invariant_of-result c =
    let i = c.self.inside in
    let few : i.count ≤ length i.shapes = omega (arith, c.self.invariant.few, c.self.invariant.places) in
    let place : c.args.place < i.count = in_place c.args.place i.count i.shapes (take i.len i.room) c.args.self.now few c.self.view_is c.requires in
    record {
      whole =
          ap length c.part.ensures
          ∙ has_len c.args.place i.count i.len c.from-start.result c.from-end.result i.shapes i.starts i.room c.index-self-place.result place few c.self.invariant.size (omega (arith, c.self.invariant.room, c.self.invariant.fits))
          c.self.invariant.begun c.from-start.ensures c.from-end.ensures;
    }

pub returns : goal.returns
returns c =
    let i = c.self.inside in
    let few : i.count ≤ length i.shapes = omega (arith, c.self.invariant.few, c.self.invariant.places) in
    let place : c.args.place < i.count = in_place c.args.place i.count i.shapes (take i.len i.room) c.args.self.now few c.self.view_is c.requires in
    λ default.
    ap (λ (bytes : List ℕ). written_by (slice_index_or i.shapes c.args.place c.index-self-place.result) bytes) c.part.ensures
    ∙ lent c.args.place i.count i.len c.from-start.result c.from-end.result i.shapes i.starts i.room c.index-self-place.result default place few c.self.invariant.size
    c.self.invariant.begun c.from-start.ensures c.from-end.ensures
    ∙ ap (λ (bs : List BlockView). slice_index_or bs c.args.place default) c.self.view_is
