-- What is odd in the settings of one concentrator.
use Rattle.std.specs.Prelude.{◌==◌, ◌&&◌, not, Bool, List, [], ◌∷◌, ◌++◌, if◌then◌else◌, Option, Some, None}
use Rattle.std.specs.Option.{option_to_list}
use Rattle.pdc_check.specs.declared.finding.Finding.{Finding}
use Rattle.pdc_check.specs.declared.finding.Finding.TheVariants.{NoLead, Open}
use Rattle.pdc_check.specs.declared.outline.Outline.{Outline}
use Rattle.pdc_check.specs.declared.outline.Stream.{Stream}

abbrev pub no_lead : Outline → Option Finding
no_lead outline = if outline.lead == 0 then Some NoLead else None

-- datagrams come to its port, and anybody's are read
abbrev pub is_open : Stream → Bool
is_open stream = not (stream.port == 0) && not stream.is_from_one

abbrev pub open_streams : List Stream → List Finding
open_streams [] = []
open_streams (stream ∷ streams) = if is_open stream then Open stream.table stream.port ∷ open_streams streams else open_streams streams

abbrev pub findings : Outline → List Finding
findings outline = option_to_list (no_lead outline) ++ open_streams outline.streams.items
