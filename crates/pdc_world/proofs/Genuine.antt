-- What PMUs, layouts and frames show: in a history, and of whatever is seen.
use Rattle.std.proofs.Common.{ap, List, subst, sym, ℕ}
use Rattle.pdc_world.proofs.HeadlineNames.{A, B, bytes_of, FramesAgree, HasGenuineFrames, LayoutsAreOne, M, OfHistories, place_there, PmusSendOneBody, PmusSendOneSection, Published, PublishedAgree, SectionFields, Seen, Shows, ShowsPublished, who_of}
use Rattle.pdc_world.proofs.Told.{are_lists, CannotFail, holds, is_list, so_does}
use Rattle.pdc_history.specs.Genuine as genuine

-- ---- in a history

pub layouts_are_one_in : genuine.LayoutsAreOne → OfHistories LayoutsAreOne
layouts_are_one_in L W H is who stamp sections others a b =
    ap bytes_of
    (L W H who stamp sections others is a b)

abbrev pub NodesAreGenuine : Seen → Type 0
NodesAreGenuine seen = HasGenuineFrames seen A × HasGenuineFrames seen B

abbrev pub MergerIsGenuine : Seen → Type 0
MergerIsGenuine seen = HasGenuineFrames seen M

-- ---- of whatever is seen

pub one_body : (seen : Seen) → CannotFail (PmusSendOneBody seen) → PmusSendOneBody seen
one_body seen k p pmu bytes other i q r payload body listed a b c d =
    holds (is_list payload body) (so_does (λ (f : PmusSendOneBody seen). f p pmu bytes other i q r payload body listed a b c d) k)

pub one_section : (seen : Seen) → CannotFail (PmusSendOneSection seen) → PmusSendOneSection seen
one_section seen k p pmu bytes other s t listed a b c d count =
    holds (is_list s.bytes t.bytes) (so_does (λ (f : PmusSendOneSection seen). f p pmu bytes other s t listed a b c d count) k)

pub one_layout : (seen : Seen) → CannotFail (LayoutsAreOne seen) → LayoutsAreOne seen
one_layout seen k who stamp sections others a b =
    holds (are_lists (bytes_of sections) (bytes_of others)) (so_does (λ (f : LayoutsAreOne seen). f who stamp sections others a b) k)

pub agree : (seen : Seen) → CannotFail (FramesAgree seen) → FramesAgree seen
agree seen k v w i s t words others a b source count = (
  holds (is_list words others) (so_does (λ (f : FramesAgree seen). (f v w i s t words others a b source count).0) k),
  holds (is_list s.bytes t.bytes) (so_does (λ (f : FramesAgree seen). (f v w i s t words others a b source count).1) k),
)

-- what a published row shows, a frame that was sent shows
published_shows : (seen : Seen) (rows : List Published) (row : Published) (s : SectionFields) (words : List ℕ) → ShowsPublished seen rows row s words → Shows seen (who_of row.who) row.instant s words
published_shows seen rows row s words k = record {
  bytes = k.bytes;
  among = place_there seen.frames row.number k.bytes k.there;
  shown = k.shown;
}

pub published_agree : (seen : Seen) (rows : List Published) → FramesAgree seen → PublishedAgree seen rows
published_agree seen rows F q r s t words others a b instant source count =
    F (who_of q.who) (who_of r.who) q.instant s t words others (published_shows seen rows q s words a)
    (subst (λ (i : ℕ). Shows seen (who_of r.who) i t others) (sym instant) (published_shows seen rows r t others b)) source count
