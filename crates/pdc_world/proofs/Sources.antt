-- Whether a section or a block was sent can be told: PMUs and frames are so many.
use Rattle.std.proofs.Common.{[], ◌^◌, ◌∙◌, ◌∷◌, ◌≡◌, ap, arith, length, List, subst, sym, ℕ}
use Rattle.pdc_world.proofs.HeadlineNames.{absent_of, AreBytes, AreGenuineBlocks, bytes_of_words, Contains, Fields, HasGenuineFrames, IsBody, IsCutOf, IsData, IsGenuineData, IsValid, place_there, Pmu, SectionFields, SectionWasSent, Seen, Shape, Stamp, stream_in, stream_of, WasSent, Who, word_count_of}
use Rattle.pdc_world.proofs.{Cuts.{CutLaws, is_somehow_cut, IsSomehowCut}, Reading.{data_in, data_there, is_data_there, IsDataThere, same_data, TagsAreComputed, there_of_data}, Stable.{each}, Told.{are_below, both, CannotFail, either, has_one, HasOne, holds, is_list, is_number, IsTold, likewise, so_does, there}, Valid.{is_valid}}

-- ---- sections

section_was_sent : (seen : Seen) (s : SectionFields) → IsTold (SectionWasSent seen s)
section_was_sent seen s =
    likewise
    (has_one (λ (pmu : Pmu). HasOne (λ (bytes : List ℕ). IsValid seen.a pmu bytes s) seen.frames)
    (λ pmu. has_one (λ (bytes : List ℕ). IsValid seen.a pmu bytes s) (λ bytes. is_valid seen.a pmu bytes s) seen.frames) seen.a.pmus.items)
    (λ h. record { p = h.0; pmu = h.1; listed = h.2; bytes = h.3.1; among = place_there seen.frames h.3.0 h.3.1 h.3.2; valid = h.3.3 })
    (λ k. (k.p, k.pmu, k.listed, (k.among.0, k.bytes, there seen.frames k.bytes k.among, k.valid)))

-- ---- blocks

is_body : (shape : Shape) (bytes words : List ℕ) → IsTold (IsBody shape bytes words)
is_body shape bytes words =
    likewise (both (is_number (length words) (word_count_of shape)) (both (are_below (2 ^ 16) words (omega arith)) (is_list bytes (bytes_of_words words))))
    (λ p. record { count = p.0; fits = p.1.0; spelled = p.1.1 }) (λ k. (k.count, (k.fits, k.spelled)))

-- a frame of the PMU has them
abbrev IsBroughtBy : Seen → ℕ → SectionFields → List ℕ → Pmu → List ℕ → Type 0
IsBroughtBy seen i s words pmu bytes = IsDataThere (stream_of seen.a pmu) bytes i × IsBody s.shape (data_in bytes).payload words

abbrev IsFoundAt : Seen → ℕ → SectionFields → List ℕ → Pmu → Type 0
IsFoundAt seen i s words pmu = (pmu.source ≡ s.source) × HasOne (IsBroughtBy seen i s words pmu) seen.frames

was_of_found : TagsAreComputed → (seen : Seen) (i : ℕ) (s : SectionFields) (words : List ℕ) → HasOne (IsFoundAt seen i s words) seen.a.pmus.items → WasSent seen i s words
was_of_found T seen i s words h = record {
  p = h.0;
  pmu = h.1;
  listed = h.2;
  source = h.3.0;
  bytes = h.3.1.1;
  quality = (data_in h.3.1.1).quality;
  payload = (data_in h.3.1.1).payload;
  among = place_there seen.frames h.3.1.0 h.3.1.1 h.3.1.2;
  is_data = data_there T (stream_of seen.a h.1) h.3.1.1 i h.3.1.3.0;
  body = h.3.1.3.1;
}

found_of_was : TagsAreComputed → (seen : Seen) (i : ℕ) (s : SectionFields) (words : List ℕ) → WasSent seen i s words → HasOne (IsFoundAt seen i s words) seen.a.pmus.items
found_of_was T seen i s words k =
    let same : k.payload ≡ (data_in k.bytes).payload =
    sym k.is_data.same_payload ∙ ap (λ (f : Fields). f.payload) (same_data (stream_of seen.a k.pmu) k.bytes i k.quality k.payload k.is_data) in (
      k.p,
      k.pmu,
      k.listed,
      (
        k.source,
        (
          k.among.0,
          k.bytes,
          there seen.frames k.bytes k.among,
          (there_of_data T (stream_of seen.a k.pmu) k.bytes i k.quality k.payload k.is_data, subst (λ (p : List ℕ). IsBody s.shape p words) same k.body),
        ),
      ),
    )

was_sent : TagsAreComputed → (seen : Seen) (i : ℕ) (s : SectionFields) (words : List ℕ) → IsTold (WasSent seen i s words)
was_sent T seen i s words =
    likewise
    (has_one (IsFoundAt seen i s words)
    (λ pmu. both (is_number pmu.source s.source)
    (has_one (IsBroughtBy seen i s words pmu) (λ bytes. both (is_data_there (stream_of seen.a pmu) bytes i) (is_body s.shape (data_in bytes).payload words)) seen.frames))
    seen.a.pmus.items) (was_of_found T seen i s words) (found_of_was T seen i s words)

blocks_hold : TagsAreComputed → (seen : Seen) (i : ℕ) (sections : List SectionFields) (blocks : List (List ℕ)) → CannotFail (AreGenuineBlocks seen i sections blocks)
    → AreGenuineBlocks seen i sections blocks
blocks_hold T seen i [] [] k = tt
blocks_hold T seen i (s ∷ sections) (words ∷ blocks) k = (
  holds (either (is_list words (absent_of s.shape)) (was_sent T seen i s words)) (so_does (λ a. a.0) k),
  blocks_hold T seen i sections blocks (so_does (λ a. a.1) k),
)
blocks_hold T seen i sections blocks k = k (λ a. a)

-- ---- frames

cut_holds : TagsAreComputed → (seen : Seen) (who : Who) → CannotFail (HasGenuineFrames seen who) → (bytes : List ℕ) (i quality : ℕ) (payload : List ℕ) (stamp : Stamp) (sections : List SectionFields) (blocks : List (List ℕ))
    → Contains seen.frames bytes → IsData (stream_in seen who) bytes i quality payload → IsCutOf seen who payload stamp sections blocks → AreGenuineBlocks seen i sections blocks
cut_holds T seen who k bytes i quality payload stamp sections blocks is d c =
    blocks_hold T seen i sections blocks (so_does (λ (g : HasGenuineFrames seen who). g.every_cut bytes i quality payload stamp sections blocks is d c) k)

somehow_of : (seen : Seen) (who : Who) (i : ℕ) (payload : List ℕ) → IsGenuineData seen who i payload → IsSomehowCut seen who payload
somehow_of seen who i payload g = record { stamp = g.stamp; sections = g.sections; blocks = g.blocks; is_cut = g.is_cut }

frame_holds : TagsAreComputed → CutLaws → (seen : Seen) (who : Who) → CannotFail (HasGenuineFrames seen who) → (bytes : List ℕ) (i quality : ℕ) (payload : List ℕ) → Contains seen.frames bytes
    → IsData (stream_in seen who) bytes i quality payload → IsGenuineData seen who i payload
frame_holds T C seen who k bytes i quality payload is d =
    let fits : AreBytes payload = subst AreBytes d.same_payload d.of_stream.frame.fits.bytes in
    let c : IsSomehowCut seen who payload =
    holds (is_somehow_cut C seen who payload fits) (so_does (λ (g : HasGenuineFrames seen who). somehow_of seen who i payload (g.every_frame bytes i quality payload is d)) k) in
    record {
      stamp = c.stamp;
      sections = c.sections;
      blocks = c.blocks;
      is_cut = c.is_cut;
      genuine = cut_holds T seen who k bytes i quality payload c.stamp c.sections c.blocks is d c.is_cut;
    }

pub genuine_frames_hold : TagsAreComputed → CutLaws → (seen : Seen) (who : Who) → CannotFail (HasGenuineFrames seen who) → HasGenuineFrames seen who
genuine_frames_hold T C seen who k = record {
  sections = λ stamp sections under.
      each (SectionWasSent seen) (λ s n. holds (section_was_sent seen s) n) sections (so_does (λ (g : HasGenuineFrames seen who). g.sections stamp sections under) k);
  every_frame = λ bytes i quality payload is d. frame_holds T C seen who k bytes i quality payload is d;
  every_cut = λ bytes i quality payload stamp sections blocks is d c. cut_holds T seen who k bytes i quality payload stamp sections blocks is d c;
}
