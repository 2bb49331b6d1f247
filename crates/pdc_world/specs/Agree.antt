-- Frames agree, as a reader of the streams sees them.
use Rattle.std.specs.{List.{Contains, slice_get}, Prelude.{◌≡◌, List, Some, ℕ}}
use Rattle.pdc_cfg.specs.Section.{SectionFields}
use Rattle.pdc_history.specs.{Genuine.{AreShown}, Seen.{Seen}}
use Rattle.pdc_history.specs.{declared.reply.Published.{Published}, Handed.{who_of}}

-- A row that was published shows these words at this section, by its frame, and they are present.
pub record ShowsPublished (seen : Seen) (rows : List Published) (row : Published) (s : SectionFields) (words : List ℕ) : Type 0 where
  pub published : Contains rows row
  pub bytes : List ℕ
  pub there : slice_get seen.frames row.number ≡ Some bytes
  pub shown : AreShown seen (who_of row.who) bytes row.instant s words

-- Any two published frames for one instant agree on every block that is present in both under one configuration count.
abbrev pub PublishedAgree : Seen → List Published → Type 0
PublishedAgree seen rows =
    (q r : Published) (s t : SectionFields) (words others : List ℕ) → ShowsPublished seen rows q s words → ShowsPublished seen rows r t others →
    q.instant ≡ r.instant → s.source ≡ t.source → s.count ≡ t.count → (words ≡ others) × (s.bytes ≡ t.bytes)
