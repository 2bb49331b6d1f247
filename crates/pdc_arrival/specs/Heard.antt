-- What bytes say of a node's stream before a configuration is read.
use Rattle.std.specs.Prelude.{◌≡◌, ◌==◌, ℕ, List, if◌then◌else◌}
use Rattle.pdc_life.specs.CoreKind.{OfMerger, Says}
use Rattle.pdc_life.specs.pdc_frame.Frame.{fields_of}
use Rattle.pdc_life.specs.pdc_frame.declared.frame.Frame.{Frame}
use Rattle.pdc_life.specs.pdc_frame.declared.frame.Kind.TheVariants.{Cfg2}
use Rattle.pdc_life.specs.Arrival.{BytesRefused, Data}
use Rattle.pdc_life.specs.MergerReading.{ReadsFrom, stream_from}
use Rattle.pdc_life.specs.Reading.{IsOfStream}
use Rattle.pdc_life.specs.declared.merging.MergedNode.{MergedNode}
use Rattle.pdc_life.specs.declared.merging.MergerSettings.{MergerSettings}
use Rattle.pdc_life.specs.declared.reading.Reading.{Reading}
use Rattle.pdc_life.specs.declared.reading.Reading.TheVariants as heard

-- the node of the stream with this number: 0 is A, any other B
abbrev pub node_of : MergerSettings → (s : ℕ) → MergedNode
node_of settings s = if s == 0 then settings.first else settings.second

-- Refused bytes and data say all that bytes say; a configuration is a CFG-2 frame of the node's stream.
abbrev pub HearsFrom : MergerSettings → MergedNode → List ℕ → Reading Frame → Type 0
HearsFrom settings node bytes (heard.BytesRefused refusal) = ReadsFrom settings node bytes (BytesRefused refusal)
HearsFrom settings node bytes (heard.Data instant quality payload) = ReadsFrom settings node bytes (Data instant quality payload.now)
HearsFrom settings node bytes (heard.Configuration frame) = IsOfStream (stream_from settings node) bytes (fields_of frame) × (frame.kind ≡ Cfg2)

abbrev pub HearsForMerger : MergerSettings → (s : ℕ) → List ℕ → Reading Frame → Type 0
HearsForMerger settings s bytes h = HearsFrom settings (node_of settings s) bytes h

-- What is heard as data is what the bytes say.
abbrev pub SaysData : MergerSettings → (s : ℕ) → List ℕ → Reading Frame → Type 0
SaysData settings s bytes (heard.BytesRefused refusal) = Unit {0}
SaysData settings s bytes (heard.Data instant quality payload) = Says (OfMerger settings) s bytes (Data instant quality payload.now)
SaysData settings s bytes (heard.Configuration frame) = Unit {0}
