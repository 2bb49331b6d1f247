-- The layout under a stamp, among the frames that were sent alone.
use Rattle.std.specs.Prelude.{◌≡◌, List, map, ℕ}
use Rattle.pdc_cfg.specs.Section.{SectionFields}
use Rattle.pdc_life.specs.Arrival.{Stamp}
use Rattle.pdc_history.specs.{Frames.{IsLayoutUnder}, Seen.{Seen}, World.{Who}}

-- the bytes of sections: what a section says is what its bytes say
abbrev pub bytes_of : List SectionFields → List (List ℕ)
bytes_of sections = map (λ (s : SectionFields). s.bytes) sections

-- There is one, byte for byte, whatever restarts came between.
abbrev pub LayoutsAreOne : Seen → Type 0
LayoutsAreOne seen =
    (who : Who) (stamp : Stamp) (sections others : List SectionFields) → IsLayoutUnder seen who stamp sections → IsLayoutUnder seen who stamp others →
    bytes_of sections ≡ bytes_of others
