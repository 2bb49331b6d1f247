-- What a cell is in the data that gave it.
use Rattle.std.specs.Prelude.{◌++◌, ◌∷◌, ◌≡◌}
use Rattle.pdc_life.specs.Lives.{Answer, Arrive, CellView, CoreKind, Data, drop, Entry, Given, held_layout, HeldLayout, IsBody, IsCut, IsLifeOf, List, map, OfMerger, OfNode, Says, section_in_force, SectionFields, Shape, slice_get, Some, stamp_words, Taken, ℕ}
use Rattle.pdc_life.specs.Genuine.{HasGiven}

-- the shapes of the sections of a layout, in their order
abbrev pub shapes_of : HeldLayout → List Shape
shapes_of layout = map (λ (part : ℕ × SectionFields). part.1.shape) layout.sections

-- The payload is the own block, which bears the stamp of the layout, and a block for each of its sections, in their order.
pub record IsCutUnder (layout : HeldLayout) (payload own : List ℕ) (blocks : List (List ℕ)) : Type 0 where
  pub cut : (shape : Shape) → shape.phasors ≡ 0 → shape.analogs ≡ 0 → shape.digitals ≡ 4 → IsCut (shape ∷ shapes_of layout) payload (own ∷ blocks)
  pub stamp : drop 3 own ≡ stamp_words layout.stamp.start layout.stamp.change

-- The words are those that the payload, cut under the layout that was held of the node when it came, has at the section of the column;
-- and that section is the one in force.
pub record IsBlockAt (before : List Entry) (s c : ℕ) (f : SectionFields) (payload words : List ℕ) : Type 0 where
  pub layout : HeldLayout
  pub held : held_layout before s ≡ Some layout
  pub own : List ℕ
  pub blocks : List (List ℕ)
  pub cut : IsCutUnder layout payload own blocks
  pub place : ℕ
  pub section : slice_get layout.sections place ≡ Some (c, f)
  pub block : slice_get blocks place ≡ Some words

-- At a node they are the body of its own PMU's payload, under the section in force; at the merger a block of the node's.
abbrev pub AreOfPayload : CoreKind → (before : List Entry) → (s c : ℕ) → SectionFields → (payload words : List ℕ) → Type 0
AreOfPayload (OfNode settings) before s c f payload words = (s ≡ c) × IsBody f.shape payload words
AreOfPayload (OfMerger settings) before s c f payload words = IsBlockAt before s c f payload words

-- The cell is what data of the stream for the instant, which was taken in the life, has for the column.
pub record IsDataOf (kind : CoreKind) (E : List Entry) (s c i : ℕ) (f : SectionFields) (cell : CellView) : Type 0 where
  pub later : List Entry
  pub earlier : List Entry
  pub bytes : List ℕ
  pub quality : ℕ
  pub payload : List ℕ
  pub answer : Answer
  pub stands : E ≡ later ++ Arrive s bytes (Data i quality payload) answer ∷ earlier
  pub taken : answer.outcome ≡ Taken
  pub reads : Says kind s bytes (Data i quality payload)
  pub same_quality : cell.quality ≡ quality
  pub shape : cell.block.shape ≡ f.shape
  pub words : AreOfPayload kind earlier s c f payload cell.block.words

-- What a cell was given by is data of a PMU, or of a node.
abbrev pub CellsAreData : Type 0
CellsAreData =
    (kind : CoreKind) (g : Given) (E : List Entry) (s c i : ℕ) (f : SectionFields) (cell : CellView) → IsLifeOf kind g E →
    section_in_force g E c ≡ Some f → HasGiven g E s c i cell → IsDataOf kind E s c i f cell
