-- A node or the merger, as its settings describe it.
use Rattle.std.specs.Prelude.{ℕ, Bool, false, length, true}
use Rattle.pdc_row.specs.declared.output.Output.{Output}
use Rattle.pdc_settings.specs.declared.service.Service.{Service}
use Rattle.pdc_settings.specs.declared.service.TickWhen.{TickWhen}
use Rattle.pdc_settings.specs.declared.service.TickWhen.TheVariants.{Period, Whole}
use Rattle.pdc_sockets.specs.declared.concentrator.Concentrator.{Concentrator}
use Rattle.pdc_sockets.specs.declared.concentrator.Concentrator.TheVariants.{Merger, Node}

-- how many streams it takes: one for each PMU, and one for each node
abbrev pub streams_of : Concentrator → ℕ
streams_of (Node settings) = length settings.life.pmus.items
streams_of (Merger settings) = 2

-- what its frames say
abbrev pub output_of : Concentrator → Output
output_of (Node settings) = settings.life.output
output_of (Merger settings) = settings.life.output

-- what the running program is told
abbrev pub service_of : Concentrator → Service
service_of (Node settings) = settings.service
service_of (Merger settings) = settings.service

-- it ticks as soon as a row is whole, and so it is woken then
abbrev pub is_woken : TickWhen → Bool
is_woken Whole = true
is_woken Period = false

-- by how many instants data may lie above the last tick's now
abbrev pub ahead_of : Concentrator → ℕ
ahead_of (Node settings) = settings.life.timing.ahead
ahead_of (Merger settings) = settings.life.timing.ahead

-- it is a node
abbrev pub IsNode : Concentrator → Type 0
IsNode (Node settings) = Unit {0}
IsNode (Merger settings) = ⊥

-- it is the merger
abbrev pub IsMerger : Concentrator → Type 0
IsMerger (Node settings) = ⊥
IsMerger (Merger settings) = Unit {0}
