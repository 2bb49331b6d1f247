-- The blocks of frames that were sent are genuine, so frames agree.
use Rattle.std.specs.{List.{AllByRecursion, Contains, slice_get}, Prelude.{◌≡◌, ◌≢◌, List, map, Some, ℕ}}
use Rattle.pdc_block.specs.pdc_cfg.Section.{SectionFields}
use Rattle.pdc_block.specs.AbsentBlock.{absent_of}
use Rattle.pdc_row.specs.RowView.{RowView}
use Rattle.pdc_row.specs.Layout.{row_payload, wire_of}
use Rattle.pdc_life.specs.{Arrival.{Stamp}, Merger.{held_layout, HeldLayout}, Reading.{IsData}}
use Rattle.pdc_history.specs.{Frames.{AreGenuineBlocks, IsCutOf, IsLayoutUnder, SectionWasSent, stream_from}, History.{IsHistory}, Seen.{OfHistories, Seen, seen_in, stream_in}, World.{A, B, Happened, life_of, M, output_of, published, sent, Who, World}}

-- Under a stamp there is one layout.
abbrev pub LayoutsAreOne : Type 0
LayoutsAreOne =
    (W : World) (H : List Happened) (who : Who) (stamp : Stamp) (sections others : List SectionFields) → IsHistory W H →
    IsLayoutUnder (seen_in W H) who stamp sections → IsLayoutUnder (seen_in W H) who stamp others → sections ≡ others

-- A row that was published is among what was sent, as the owner's data for its instant.
pub record IsPublishedData (W : World) (H : List Happened) (r : Who × RowView) : Type 0 where
  pub among : Contains (sent W H) (wire_of (output_of W r.0) r.1)
  pub is_data : IsData (stream_from W r.0) (wire_of (output_of W r.0) r.1) r.1.instant r.1.quality (row_payload r.1)

abbrev pub PublishedWereSent : Type 0
PublishedWereSent = (W : World) (H : List Happened) → IsHistory W H → AllByRecursion (IsPublishedData W H) (published H)

-- Data of the owner that was sent is cut, under the layout of its stamp, into the own block and genuine blocks.
pub record IsGenuineData (seen : Seen) (who : Who) (i : ℕ) (payload : List ℕ) : Type 0 where
  pub stamp : Stamp
  pub sections : List SectionFields
  pub blocks : List (List ℕ)
  pub is_cut : IsCutOf seen who payload stamp sections blocks
  pub genuine : AreGenuineBlocks seen i sections blocks

-- Of an owner: each section of its layouts is that of a valid configuration of a PMU that was sent; each of its data frames that was
-- ever sent, in whatever life, is cut so; and however it is cut under a layout of the owner, its blocks are genuine.
pub record HasGenuineFrames (seen : Seen) (who : Who) : Type 0 where
  pub sections : (stamp : Stamp) (sections : List SectionFields) → IsLayoutUnder seen who stamp sections → AllByRecursion (SectionWasSent seen) sections
  pub every_frame :
      (bytes : List ℕ) (i quality : ℕ) (payload : List ℕ) → Contains seen.frames bytes → IsData (stream_in seen who) bytes i quality payload →
      IsGenuineData seen who i payload
  pub every_cut :
      (bytes : List ℕ) (i quality : ℕ) (payload : List ℕ) (stamp : Stamp) (sections : List SectionFields) (blocks : List (List ℕ)) →
      Contains seen.frames bytes → IsData (stream_in seen who) bytes i quality payload → IsCutOf seen who payload stamp sections blocks →
      AreGenuineBlocks seen i sections blocks

-- At both nodes, and at the merger.
abbrev pub NodeBlocksAreGenuine : Type 0
NodeBlocksAreGenuine = OfHistories (λ seen. HasGenuineFrames seen A × HasGenuineFrames seen B)

abbrev pub MergedBlocksAreGenuine : Type 0
MergedBlocksAreGenuine = OfHistories (λ seen. HasGenuineFrames seen M)

-- Each layout that the merger holds of a node is the one under its stamp.
pub record HoldsThoseSent (W : World) (H : List Happened) : Type 0 where
  pub first :
      (layout : HeldLayout) → held_layout (life_of H M) 0 ≡ Some layout → IsLayoutUnder (seen_in W H) A layout.stamp (map (λ (part : ℕ × SectionFields). part.1) layout.sections)
  pub second :
      (layout : HeldLayout) → held_layout (life_of H M) 1 ≡ Some layout → IsLayoutUnder (seen_in W H) B layout.stamp (map (λ (part : ℕ × SectionFields). part.1) layout.sections)

abbrev pub HeldLayoutsWereSent : Type 0
HeldLayoutsWereSent = (W : World) (H : List Happened) → IsHistory W H → HoldsThoseSent W H

-- These bytes are data of the owner for this instant, and cut under the layout of their stamp they show these words at this section;
-- and the words are present.
pub record AreShown (seen : Seen) (who : Who) (bytes : List ℕ) (i : ℕ) (s : SectionFields) (words : List ℕ) : Type 0 where
  pub quality : ℕ
  pub payload : List ℕ
  pub is_data : IsData (stream_in seen who) bytes i quality payload
  pub stamp : Stamp
  pub sections : List SectionFields
  pub blocks : List (List ℕ)
  pub is_cut : IsCutOf seen who payload stamp sections blocks
  pub place : ℕ
  pub section : slice_get sections place ≡ Some s
  pub block : slice_get blocks place ≡ Some words
  pub present : words ≢ absent_of s.shape

-- A frame that was sent shows them.
pub record Shows (seen : Seen) (who : Who) (i : ℕ) (s : SectionFields) (words : List ℕ) : Type 0 where
  pub bytes : List ℕ
  pub among : Contains seen.frames bytes
  pub shown : AreShown seen who bytes i s words

-- Any two such frames for one instant, of nodes or merger and of whatever lives, agree on each PMU that both show under one count:
-- the words are equal, and so are the sections, byte for byte.
abbrev pub FramesAgree : Seen → Type 0
FramesAgree seen =
    (v w : Who) (i : ℕ) (s t : SectionFields) (words others : List ℕ) → Shows seen v i s words → Shows seen w i t others → s.source ≡ t.source →
    s.count ≡ t.count → (words ≡ others) × (s.bytes ≡ t.bytes)

-- A published row shows these words at this section, and they are present: its frame is cut under the layout of its stamp.
pub record ShowsPublished (W : World) (H : List Happened) (who : Who) (r : RowView) (s : SectionFields) (words : List ℕ) : Type 0 where
  pub published : Contains (published H) (who, r)
  pub stamp : Stamp
  pub sections : List SectionFields
  pub blocks : List (List ℕ)
  pub is_cut : IsCutOf (seen_in W H) who (row_payload r) stamp sections blocks
  pub place : ℕ
  pub section : slice_get sections place ≡ Some s
  pub block : slice_get blocks place ≡ Some words
  pub present : words ≢ absent_of s.shape

-- Any two published frames for one instant agree on every block that is present in both under one configuration count.
abbrev pub PublishedAgree : Type 0
PublishedAgree =
    (W : World) (H : List Happened) (v w : Who) (q r : RowView) (s t : SectionFields) (words others : List ℕ) → IsHistory W H →
    ShowsPublished W H v q s words → ShowsPublished W H w r t others → q.instant ≡ r.instant → s.source ≡ t.source → s.count ≡ t.count →
    (words ≡ others) × (s.bytes ≡ t.bytes)
