-- What a text of settings says: it is a document, and the values are those of its keys and tables.
use Rattle.std.specs.Prelude.{ℕ, List, IsSomeAnd}
use Rattle.toml.specs.Parse.{parse_document}
use Rattle.pdc_settings.specs.Network.{IsNetwork}
use Rattle.pdc_settings.specs.Settings.{IsMergerSettings, IsNodeSettings}
use Rattle.pdc_settings.specs.declared.merger.MergerSettings.{MergerSettings}
use Rattle.pdc_settings.specs.declared.network.Network.{Network}
use Rattle.pdc_settings.specs.declared.node.NodeSettings.{NodeSettings}

-- it says these settings of a node
abbrev pub SaysNode : (text : List ℕ) → NodeSettings → Type 0
SaysNode text settings = IsSomeAnd (parse_document text) (λ members. IsNodeSettings members settings)

-- these of the merger
abbrev pub SaysMerger : (text : List ℕ) → MergerSettings → Type 0
SaysMerger text settings = IsSomeAnd (parse_document text) (λ members. IsMergerSettings members settings)

-- this of the network
abbrev pub SaysNetwork : (text : List ℕ) → Network → Type 0
SaysNetwork text network = IsSomeAnd (parse_document text) (λ members. IsNetwork members network)
