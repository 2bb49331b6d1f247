-- What the bytes say that arrive from a node at the merger: all that needs no memory of what came before.
use Rattle.std.specs.Prelude.{◌+◌, ◌<◌, ◌^◌, ◌∷◌, ◌≡◌, ◌⊎◌}
use Rattle.pdc_life.specs.Names.{[], AllByRecursion, ConfigFields, List, map, None, own_bytes, Rises, SectionFields, slice_get, Some, WrongKind, ℕ}
use Rattle.pdc_row.specs.declared.output.Nominal.TheVariants.{Hz50, Hz60}
use Rattle.pdc_row.specs.pdc_frame.Frame as frame
use Rattle.pdc_life.specs.Arrival.{Arrival, Stamp, BytesRefused, Data, Layout}
use Rattle.pdc_life.specs.Reading.{Stream, HasBase, HasNoInstant, HasOtherRate, HasOtherTimeBase, IsBroken, IsData, IsForeign, IsOtherKind}
use Rattle.pdc_life.specs.declared.merging.MergedNode.{MergedNode}
use Rattle.pdc_life.specs.declared.merging.MergerSettings.{MergerSettings}
use Rattle.pdc_life.specs.declared.outcome.Refusal.{Refusal}
use Rattle.pdc_life.specs.declared.outcome.Refusal.TheVariants.{NoFrame, WrongId, NoConfiguration, WrongTimeBase, WrongRate, BadOwnBlock, UnknownSource, BadTag}

-- the node of a stream: 0 is A, 1 is B
abbrev pub nodes_of : MergerSettings → List MergedNode
nodes_of settings = settings.first ∷ settings.second ∷ []

-- the stream of a node
abbrev pub stream_from : MergerSettings → MergedNode → Stream
stream_from settings node = record { id = node.id.value; time_base = node.time_base; rate = settings.output.rate }

-- The bytes are the own section of a node, with this stamp, for either nominal frequency.
pub record IsOwn (id : ℕ) (bytes : List ℕ) (stamp : Stamp) : Type 0 where
  pub start_fits : stamp.start < 2 ^ 32
  pub change_fits : stamp.change < 2 ^ 32
  pub spelled : (bytes ≡ own_bytes id Hz50 stamp.start stamp.change) ⊎ (bytes ≡ own_bytes id Hz60 stamp.start stamp.change)

-- Each section stands beside the column of its source, and the columns rise.
pub record AreOfTable (sources : List ℕ) (sections : List SectionFields) (parts : List (ℕ × SectionFields)) : Type 0 where
  pub same : map (λ (part : ℕ × SectionFields). part.1) parts ≡ sections
  pub listed : AllByRecursion (λ (part : ℕ × SectionFields). slice_get sources part.0 ≡ Some part.1.source) parts
  pub rise : Rises 0 (map (λ (part : ℕ × SectionFields). part.0 + 1) parts)

-- The bytes are a configuration of the node with the right numbers: this first section, and these others.
pub record HasSections (settings : MergerSettings) (node : MergedNode) (bytes : List ℕ) (own : SectionFields) (others : List SectionFields) : Type 0 where
  pub config : ConfigFields
  pub base : HasBase (stream_from settings node) bytes config
  pub sections : config.sections ≡ own ∷ others

-- They are a layout of the node: its own section with this stamp, then sections of the table, each with its column.
pub record IsLayoutOf (settings : MergerSettings) (node : MergedNode) (bytes : List ℕ) (stamp : Stamp) (parts : List (ℕ × SectionFields)) : Type 0 where
  pub own : SectionFields
  pub others : List SectionFields
  pub has : HasSections settings node bytes own others
  pub itself : IsOwn node.id.value own.bytes stamp
  pub of_table : AreOfTable settings.sources.items others parts

-- Its first section is not the own one, with any stamp.
pub record HasNoOwn (settings : MergerSettings) (node : MergedNode) (bytes : List ℕ) : Type 0 where
  pub own : SectionFields
  pub others : List SectionFields
  pub has : HasSections settings node bytes own others
  pub none : (stamp : Stamp) → IsOwn node.id.value own.bytes stamp → ⊥

-- It is, and the others are not of the table, or not in its order.
pub record HasUnknownSource (settings : MergerSettings) (node : MergedNode) (bytes : List ℕ) : Type 0 where
  pub own : SectionFields
  pub others : List SectionFields
  pub has : HasSections settings node bytes own others
  pub stamp : Stamp
  pub itself : IsOwn node.id.value own.bytes stamp
  pub none : (parts : List (ℕ × SectionFields)) → AreOfTable settings.sources.items others parts → ⊥

-- Why bytes are refused, whatever came before: the first cause that holds.
abbrev pub IsRefusedFrom : MergerSettings → MergedNode → List ℕ → Refusal → Type 0
IsRefusedFrom settings node bytes (NoFrame fault) = frame.IsFirstFault bytes fault
IsRefusedFrom settings node bytes WrongId = IsForeign (stream_from settings node) bytes
IsRefusedFrom settings node bytes (NoConfiguration WrongKind) = IsOtherKind (stream_from settings node) bytes
IsRefusedFrom settings node bytes (NoConfiguration fault) = IsBroken (stream_from settings node) bytes fault
IsRefusedFrom settings node bytes WrongTimeBase = (c : ConfigFields) × HasOtherTimeBase (stream_from settings node) bytes c
IsRefusedFrom settings node bytes WrongRate = (c : ConfigFields) × HasOtherRate (stream_from settings node) bytes c
IsRefusedFrom settings node bytes BadOwnBlock = HasNoOwn settings node bytes
IsRefusedFrom settings node bytes UnknownSource = HasUnknownSource settings node bytes
IsRefusedFrom settings node bytes BadTag = HasNoInstant (stream_from settings node) bytes
IsRefusedFrom settings node bytes _ = ⊥

-- What the bytes say that came from a node. A layout has a stamp.
abbrev pub ReadsFrom : MergerSettings → MergedNode → List ℕ → Arrival → Type 0
ReadsFrom settings node bytes (BytesRefused refusal) = IsRefusedFrom settings node bytes refusal
ReadsFrom settings node bytes (Data instant quality payload) = IsData (stream_from settings node) bytes instant quality payload
ReadsFrom settings node bytes (Layout (Some stamp) parts) = IsLayoutOf settings node bytes stamp parts
ReadsFrom settings node bytes (Layout None parts) = ⊥
