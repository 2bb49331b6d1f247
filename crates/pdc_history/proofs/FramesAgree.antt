-- Any two frames for one instant agree.
use Rattle.std.proofs.Common.{◌∙◌, ◌≡◌, ap, inl, inr, List, subst, sym, ℕ}
use Rattle.pdc_history.proofs.Names.{◌≢◌, A, absent_of, AreBytes, AreGenuineBlocks, B, BlockLaws, FrameLaws, FramesAgree, Happened, HasGenuineFrames, IsData, IsGenuineBlock, IsHistory, IsPublishedData, IsValid, LifeLaws, M, OfHistories, output_of, Pmu, published, PublishedAgree, row_payload, RowView, SectionFields, SectionWasSent, seen_in, Shows, ShowsPublished, stream_of, WasSent, Who, wire_of, words_in, World}
use Rattle.pdc_history.proofs.{Cuts.{published_were_sent}, Lists.{element, place_there}, Merged.{genuine_place}, MergedBlocks.{merged_blocks_are_genuine}, NodeFrames.{frames_of_a, frames_of_b}, One.{one_body, one_section, pmu_of_source}}

frames_of : LifeLaws → FrameLaws → BlockLaws → (W : World) (H : List Happened) (who : Who) → IsHistory W H → HasGenuineFrames (seen_in W H) who
frames_of L F K W H A is = frames_of_a L F K W H is
frames_of L F K W H B is = frames_of_b L F K W H is
frames_of L F K W H M is = merged_blocks_are_genuine L F K W H is

present_was_sent : (W : World) (H : List Happened) (i : ℕ) (s : SectionFields) (words : List ℕ) → words ≢ absent_of s.shape → IsGenuineBlock (seen_in W H) i s words → WasSent (seen_in W H) i s words
present_was_sent W H i s words present (inl absent) = absurd (present absent)
present_was_sent W H i s words present (inr k) = k

shown_was_sent : LifeLaws → FrameLaws → BlockLaws → (W : World) (H : List Happened) (who : Who) (i : ℕ) (s : SectionFields) (words : List ℕ) → IsHistory W H → Shows (seen_in W H) who i s words → WasSent (seen_in W H) i s words
shown_was_sent L F K W H who i s words is k =
    let f = k.shown in
    let all : AreGenuineBlocks (seen_in W H) i f.sections f.blocks = (frames_of L F K W H who is).every_cut k.bytes i f.quality f.payload f.stamp f.sections f.blocks k.among f.is_data f.is_cut in
    present_was_sent W H i s words f.present (genuine_place W H i f.place f.sections f.blocks s words all f.section f.block)

section_of : LifeLaws → FrameLaws → BlockLaws → (W : World) (H : List Happened) (who : Who) (i : ℕ) (s : SectionFields) (words : List ℕ) → IsHistory W H → Shows (seen_in W H) who i s words → SectionWasSent (seen_in W H) s
section_of L F K W H who i s words is k =
    let f = k.shown in
    element (SectionWasSent (seen_in W H)) f.sections s ((frames_of L F K W H who is).sections f.stamp f.sections f.is_cut.under) (place_there f.sections f.place s f.section)

-- the words are those of the body
words_are : FrameLaws → (W : World) (H : List Happened) (i : ℕ) (s : SectionFields) (words : List ℕ) → (k : WasSent (seen_in W H) i s words) → words ≡ words_in k.payload
words_are F W H i s words k =
    let fits : AreBytes k.payload = subst AreBytes k.is_data.same_payload k.is_data.of_stream.frame.fits.bytes in
    F.one_body s.shape k.payload words fits k.body

same_words : LifeLaws → FrameLaws → (W : World) (H : List Happened) (i : ℕ) (s t : SectionFields) (words others : List ℕ) → IsHistory W H → WasSent (seen_in W H) i s words → WasSent (seen_in W H) i t others → s.source ≡ t.source → words ≡ others
same_words L F W H i s t words others is a b same =
    let one : a.pmu ≡ b.pmu = pmu_of_source W a.p b.p a.pmu b.pmu a.listed b.listed (a.source ∙ same ∙ sym b.source) in
    let body : a.payload ≡ b.payload =
    one_body L F W H b.p b.pmu a.bytes b.bytes i a.quality b.quality a.payload b.payload is b.listed a.among b.among
    (subst (λ (x : Pmu). IsData (stream_of W.a.settings x) a.bytes i a.quality a.payload) one a.is_data) b.is_data in
    words_are F W H i s words a ∙ ap words_in body ∙ sym (words_are F W H i t others b)

same_section : LifeLaws → FrameLaws → (W : World) (H : List Happened) (s t : SectionFields) → IsHistory W H → SectionWasSent (seen_in W H) s → SectionWasSent (seen_in W H) t → s.source ≡ t.source → s.count ≡ t.count → s.bytes ≡ t.bytes
same_section L F W H s t is a b source count =
    let one : a.pmu ≡ b.pmu = pmu_of_source W a.p b.p a.pmu b.pmu a.listed b.listed (sym a.valid.source ∙ source ∙ b.valid.source) in
    one_section L F W H b.p b.pmu a.bytes b.bytes s t is b.listed a.among b.among (subst (λ (x : Pmu). IsValid W.a.settings x a.bytes s) one a.valid) b.valid count

pub frames_agree : LifeLaws → FrameLaws → BlockLaws → OfHistories FramesAgree
frames_agree L F K W H is v w i s t words others a b source count = (
  same_words L F W H i s t words others is (shown_was_sent L F K W H v i s words is a) (shown_was_sent L F K W H w i t others is b) source,
  same_section L F W H s t is (section_of L F K W H v i s words is a) (section_of L F K W H w i t others is b) source count,
)

-- ---- published frames are among those sent

published_shows : LifeLaws → FrameLaws → (W : World) (H : List Happened) (who : Who) (r : RowView) (s : SectionFields) (words : List ℕ) → IsHistory W H → ShowsPublished W H who r s words → Shows (seen_in W H) who r.instant s words
published_shows L F W H who r s words is k =
    let one : IsPublishedData W H (who, r) = element (IsPublishedData W H) (published H) (who, r) (published_were_sent L F W H is) k.published in
    record {
      bytes = wire_of (output_of W who) r;
      among = one.among;
      shown = record {
        quality = r.quality;
        payload = row_payload r;
        is_data = one.is_data;
        stamp = k.stamp;
        sections = k.sections;
        blocks = k.blocks;
        is_cut = k.is_cut;
        place = k.place;
        section = k.section;
        block = k.block;
        present = k.present;
      };
    }

pub published_agree : LifeLaws → FrameLaws → BlockLaws → PublishedAgree
published_agree L F K W H v w q r s t words others is a b instant source count =
    frames_agree L F K W H is v w r.instant s t words others
    (subst (λ (i : ℕ). Shows (seen_in W H) v i s words) instant (published_shows L F W H v q s words is a)) (published_shows L F W H w r t others is b) source count
