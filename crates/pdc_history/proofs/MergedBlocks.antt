-- The blocks of the merger's frames are genuine.
use Rattle.std.proofs.Common.{[], ◌∙◌, ◌∷◌, ◌≡◌, ap, drop, inr, List, map, option_map, refl, Some, subst, sym, ℕ}
use Rattle.pdc_history.proofs.Names.{A, AreGenuineBlocks, B, BlockLaws, BlockView, Contains, Data, Entry, FrameLaws, given_in, Happened, HasBrought, held_layout, HeldLayout, HeldLayoutsWereSent, IsCut, IsData, IsDataOf, IsForOne, IsGenuineBlock, IsGenuineData, IsHistory, IsLayoutSent, IsLayoutUnder, kind_of, life_of, LifeLaws, M, MergedBlocksAreGenuine, MergedNode, nodes_of, OfMerger, own_block, SectionFields, seen_in, sent, Shape, shapes_of, slice_get, slice_get-map, Stamp, stamp_words, Stream, stream_from, stream_ids, Who, World}
use Rattle.pdc_history.proofs.{Blocks.{block_stays, IsSourced}, Cuts.{genuine_frames, own_shape, same_own, stamps_of_words}, Layouts.{layouts_are_one}, Lists.{tail_of}, Lives.{life_is_life}, Merged.{from_node, FromNode, genuine_place, held_under, is_first, is_second, IsFrom, LayoutCame, merged_column}, Moments.{before, began}, Nodes.{has_arrived, HasArrived}}
use Rattle.pdc_life.specs.MergerReading as reading

shapes_same : (parts : List (ℕ × SectionFields)) → map (λ (s : SectionFields). s.shape) (map (λ (part : ℕ × SectionFields). part.1) parts) ≡ map (λ (part : ℕ × SectionFields). part.1.shape) parts
shapes_same [] = refl
shapes_same (part ∷ parts) = ap (λ (ss : List Shape). part.1.shape ∷ ss) (shapes_same parts)

-- the section at the place of a part
at_part : (parts : List (ℕ × SectionFields)) (others : List SectionFields) (place c : ℕ) (s : SectionFields) → map (λ (part : ℕ × SectionFields). part.1) parts ≡ others → slice_get parts place ≡ Some (c, s) → slice_get others place ≡ Some s
at_part parts others place c s q h =
    sym (ap (λ (ss : List SectionFields). slice_get ss place) q) ∙ slice_get-map (λ (part : ℕ × SectionFields). part.1) parts place ∙ ap (option_map (λ (part : ℕ × SectionFields). part.1)) h

data_for_one : (W : World) (stream : Stream) (bytes : List ℕ) (i quality : ℕ) (payload : List ℕ) → Contains (stream_ids (kind_of W M)) stream.id → IsData stream bytes i quality payload → IsForOne W M bytes
data_for_one W stream bytes i quality payload listed d = record {
  fields = d.fields;
  frame = d.of_stream.frame;
  listed = subst (Contains (stream_ids (kind_of W M))) (sym d.of_stream.id) listed;
}

-- the frame of the node from which a block was taken, in the history in which it came: cut under the layout that was held then, and
-- in no other way
cut_alike : LifeLaws → FrameLaws → (W : World) (X : List Happened) (v : Who) (i : ℕ) (payload own : List ℕ) (layout : HeldLayout) (others : List SectionFields) (blocks : List (List ℕ)) → IsHistory W X
    → IsGenuineData (seen_in W X) v i payload → IsLayoutUnder (seen_in W X) v layout.stamp others → map (λ (part : ℕ × SectionFields). part.1) layout.sections ≡ others → IsCut (own_shape ∷ shapes_of layout) payload (own ∷ blocks)
    → drop 3 own ≡ stamp_words layout.stamp.start layout.stamp.change → AreGenuineBlocks (seen_in W X) i others blocks
cut_alike L F W X v i payload own layout others blocks is n under same cut stamp =
    let shapes : List Shape = map (λ (s : SectionFields). s.shape) n.sections in
    let first : IsCut (own_shape ∷ shapes) payload (own_block n.stamp.start n.stamp.change ∷ n.blocks) = n.is_cut.cut.cut own_shape refl refl refl in
    let alike : own_block n.stamp.start n.stamp.change ≡ own = same_own shapes (shapes_of layout) payload (own_block n.stamp.start n.stamp.change) own n.blocks blocks first cut in
    let stamps = stamps_of_words n.stamp.start n.stamp.change layout.stamp.start layout.stamp.change [] [] (ap (drop 3) alike ∙ stamp) in
    let one : n.stamp ≡ layout.stamp = λ j. record { start = stamps.0 j; change = stamps.1 j } in
    let sections : n.sections ≡ others = layouts_are_one L F W X v layout.stamp n.sections others is (subst (λ (x : Stamp). IsLayoutUnder (seen_in W X) v x n.sections) one n.is_cut.under) under in
    let same_shapes : shapes ≡ shapes_of layout = ap (map (λ (s : SectionFields). s.shape)) (sections ∙ sym same) ∙ shapes_same layout.sections in
    let split : n.blocks ≡ blocks =
    tail_of (F.one_cut (own_shape ∷ shapes_of layout) payload (own_block n.stamp.start n.stamp.change ∷ n.blocks) (own ∷ blocks)
    (subst (λ (ss : List Shape). IsCut (own_shape ∷ ss) payload (own_block n.stamp.start n.stamp.change ∷ n.blocks)) same_shapes first) cut) in
    subst (λ (ss : List SectionFields). AreGenuineBlocks (seen_in W X) i ss blocks) sections (subst (AreGenuineBlocks (seen_in W X) i n.sections) split n.genuine)

-- the block at the section of the column, in that history
then_genuine : LifeLaws → FrameLaws → BlockLaws → (W : World) (X : List Happened) (E : List Entry) (stream c i : ℕ) (s : SectionFields) (b : BlockView) (quality : ℕ) → IsHistory W X → (d : IsDataOf (OfMerger W.m.settings) E stream c i s (record { block = b; quality = quality }))
    → life_of X M ≡ d.earlier → (IsForOne W M d.bytes → Contains (sent W X) d.bytes) → IsGenuineBlock (seen_in W X) i s b.words
then_genuine L F K W X E stream c i s b quality is d life was =
    let from : FromNode W d.reads.sender = from_node W stream d.reads.sender (began W X is).settings d.reads.listed in
    let of_node : IsData (stream_from W from.0) d.bytes i d.quality d.payload = subst (λ (x : Stream). IsData x d.bytes i d.quality d.payload) from.1.stream d.reads.reads in
    let among : Contains (sent W X) d.bytes = was (data_for_one W (reading.stream_from W.m.settings d.reads.sender) d.bytes i d.quality d.payload from.1.listed d.reads.reads) in
    let n : IsGenuineData (seen_in W X) from.0 i d.payload = (from.1.genuine L F K X is).every_frame d.bytes i d.quality d.payload among of_node in
    let came : LayoutCame W X d.reads.sender d.words.layout.stamp d.words.layout.sections =
    held_under W X stream d.reads.sender d.words.layout is d.reads.listed (subst (λ (F : List Entry). held_layout F stream ≡ Some d.words.layout) (sym life) d.words.held) in
    let all : AreGenuineBlocks (seen_in W X) i came.others d.words.blocks =
    cut_alike L F W X from.0 i d.payload d.words.own d.words.layout came.others d.words.blocks is n (inr (came.sent from.0 from.1)) came.same (d.words.cut.cut own_shape refl refl refl) d.words.cut.stamp in
    genuine_place W X i d.words.place came.others d.words.blocks s b.words all (at_part d.words.layout.sections came.others d.words.place c s came.same d.words.section) d.words.block

merged_block : LifeLaws → FrameLaws → BlockLaws → (W : World) (H : List Happened) (c i : ℕ) (s : SectionFields) (b : BlockView) → IsHistory W H → HasBrought (given_in W H M) (life_of H M) c i s b → IsGenuineBlock (seen_in W H) i s b.words
merged_block L F K W H c i s b is k =
    let d : IsDataOf (OfMerger W.m.settings) (life_of H M) k.stream c i s k.cell = K.cells (OfMerger W.m.settings) (given_in W H M) (life_of H M) k.stream c i s k.cell (life_is_life W H M is) k.in_force k.given in
    let a : HasArrived W H M k.stream d.bytes (Data i d.quality d.payload) d.earlier = has_arrived W H M d.later k.stream d.bytes (Data i d.quality d.payload) d.answer d.earlier is d.stands in
    let then : IsHistory W a.then = before W a.later a.then (subst (IsHistory W) a.stands is) in
    let there : IsGenuineBlock (seen_in W a.then) i s k.cell.block.words = then_genuine L F K W a.then (life_of H M) k.stream c i s k.cell.block k.cell.quality then d a.life a.was_sent in
    let here : IsGenuineBlock (seen_in W H) i s k.cell.block.words =
    subst (λ (X : List Happened). IsGenuineBlock (seen_in W X) i s k.cell.block.words) (sym a.stands) (block_stays W a.later a.then i s k.cell.block.words there) in
    subst (λ (x : BlockView). IsGenuineBlock (seen_in W H) i s x.words) k.block here

pub merger_is_sourced : LifeLaws → FrameLaws → BlockLaws → (W : World) → IsSourced W M
merger_is_sourced L F K W = record {
  columns = λ H c s is q. merged_column L F K W H c s is q;
  blocks = λ H c i s b is k. merged_block L F K W H c i s b is k;
}

pub merged_blocks_are_genuine : LifeLaws → FrameLaws → BlockLaws → MergedBlocksAreGenuine
merged_blocks_are_genuine L F K W H is = genuine_frames L F K W H M (merger_is_sourced L F K W) is

-- ---- the layouts that the merger holds

held_of : LifeLaws → (W : World) (H : List Happened) (s : ℕ) (node : MergedNode) (v : Who) (layout : HeldLayout) → IsHistory W H → IsFrom W node v → slice_get (nodes_of W.m.settings) s ≡ Some node → held_layout (life_of H M) s ≡ Some layout
    → IsLayoutUnder (seen_in W H) v layout.stamp (map (λ (part : ℕ × SectionFields). part.1) layout.sections)
held_of L W H s node v layout is from listed q =
    let came : LayoutCame W H node layout.stamp layout.sections = held_under W H s node layout is listed q in
    inr (subst (IsLayoutSent (seen_in W H) v layout.stamp) (sym came.same) (came.sent v from))

pub held_layouts_were_sent : LifeLaws → HeldLayoutsWereSent
held_layouts_were_sent L W H is = record {
  first = λ layout q. held_of L W H 0 W.m.settings.first A layout is (is_first W (began W H is).settings) refl q;
  second = λ layout q. held_of L W H 1 W.m.settings.second B layout is (is_second W (began W H is).settings) refl q;
}
