-- A text of settings as a document.
use Rattle.std.specs.Prelude.{◌≡◌, ℕ, List, Some, map}
use Rattle.toml.specs.Data.{Members}
use Rattle.toml.specs.Parse.{parse_document}
use Rattle.toml.specs.View.{table_view}
use Rattle.pdc_keys.specs.Unknown.{unknown_fields, unknown_in}
use Rattle.pdc_keys.specs.declared.unknown.UnknownKey.{UnknownKey}
use Rattle.pdc_settings.specs.declared.document.Document.{Document}

-- its keys and tables
abbrev pub members_of : Document → Members
members_of document = table_view document.table

-- it is the one that the text is
abbrev pub IsDocumentOf : (text : List ℕ) → Document → Type 0
IsDocumentOf text document = parse_document text ≡ Some (members_of document)

-- these are its keys that nothing reads
abbrev pub AreUnknown : Members → List UnknownKey → Type 0
AreUnknown members unknown = map unknown_fields unknown ≡ unknown_in members
