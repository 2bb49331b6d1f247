-- The frames of one stream.
use Rattle.std.specs.Prelude.{◌≡◌, ℕ, List, [], ◌∷◌, ◌++◌, Some}
use Rattle.std.specs.Int.{w16, cast_unsigned}
use Rattle.pdc_frame.specs.Frame.{Fields, IsFrame}
use Rattle.pdc_frame.specs.declared.frame.Kind.TheVariants.{Cfg2, DataFrame}
use Rattle.pdc_cfg.specs.Config.{ConfigFields, IsConfig}
use Rattle.pdc_frame.specs.Instant.{instant_of}
use Rattle.pdc_row.specs.declared.output.Nominal.{Nominal}
use Rattle.pdc_row.specs.declared.output.Output.{Output}
use Rattle.pdc_row.specs.Layout.{own_block, own_bytes}
use Rattle.pdc_block.specs.Block.{bytes_of_words}
use Rattle.pdc_cfg.specs.Section.{SectionFields}
use Rattle.pdc_session.specs.Recent.{Kept}
use Rattle.pdc_server.specs.declared.stamp.Stamp.{Stamp}

-- the id of a stream, and by which its time tags tell instants
pub record Stream : Type 0 where
  pub id : ℕ
  pub time_base : ℕ
  pub rate : ℕ

-- the stream of a concentrator
abbrev pub stream_of : Output → Stream
stream_of output = record { id = output.id.value; time_base = output.time_base; rate = output.rate }

-- The bytes are a data frame of the stream, its time tag tells this instant, and its own block, the first one, tells that it is of the
-- layout with this stamp.
pub record IsData (stream : Stream) (stamp : Stamp) (instant : ℕ) (bytes : List ℕ) : Type 0 where
  pub fields : Fields
  pub frame : IsFrame bytes fields
  pub kind : fields.kind ≡ DataFrame
  pub id : fields.id ≡ stream.id
  pub tag : instant_of fields.soc fields.frac stream.time_base stream.rate ≡ Some instant
  pub blocks : List ℕ
  pub own : fields.payload ≡ bytes_of_words (own_block stamp.start stamp.change) ++ blocks

-- each is a data frame of its instant, and of this layout
abbrev pub AreData : Stream → Stamp → List Kept → Type 0
AreData stream stamp [] = Unit {0}
AreData stream stamp (piece ∷ pieces) = IsData stream stamp piece.instant piece.bytes × AreData stream stamp pieces

-- The own section, the first one of these, tells that they are those of the layout with this stamp of the concentrator with this id.
pub record TellsStamp (id : ℕ) (sections : List SectionFields) (stamp : Stamp) : Type 0 where
  pub nominal : Nominal
  pub itself : SectionFields
  pub others : List SectionFields
  pub first : sections ≡ itself ∷ others
  pub own : itself.bytes ≡ own_bytes id nominal stamp.start stamp.change

-- The bytes are a CFG-2 frame of the stream with this configuration, which tells the stream's TIME_BASE and rate, and whose own section,
-- the first one, tells that it is the layout with this stamp.
pub record IsLayoutWith (stream : Stream) (stamp : Stamp) (bytes : List ℕ) (config : ConfigFields) : Type 0 where
  pub fields : Fields
  pub frame : IsFrame bytes fields
  pub kind : fields.kind ≡ Cfg2
  pub id : fields.id ≡ stream.id
  pub spelled : IsConfig fields.payload config
  pub time_base : config.time_base ≡ stream.time_base
  pub rate : cast_unsigned w16 config.rate ≡ stream.rate
  pub tells : TellsStamp stream.id config.sections stamp

-- with some configuration
abbrev pub IsLayout : Stream → Stamp → List ℕ → Type 0
IsLayout stream stamp bytes = (config : ConfigFields) × IsLayoutWith stream stamp bytes config
