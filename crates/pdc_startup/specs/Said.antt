-- What a text of settings says of a concentrator.
use Rattle.std.specs.Prelude.{ℕ, List}
use Rattle.pdc_settings.specs.Said.{SaysMerger, SaysNode}
use Rattle.pdc_sockets.specs.declared.concentrator.Concentrator.{Concentrator}
use Rattle.pdc_sockets.specs.declared.concentrator.Concentrator.TheVariants.{Merger, Node}

-- it is the node, or the merger, that the text describes, with the settings that it says
abbrev pub Says : (text : List ℕ) → Concentrator → Type 0
Says text (Node settings) = SaysNode text settings
Says text (Merger settings) = SaysMerger text settings
