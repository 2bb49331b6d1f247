-- What contracts see of the ledger.
use Rattle.std.specs.Prelude.{[], ◌&&◌, ◌<◌, ◌≡◌, ◌≤◌, Bool, IsTrue, nat_le, nat_lt, vec_capacity, vec_len}
use Rattle.pdc_frame.specs.declared.limits.TheConstants.{MAX_SIZE}
use Rattle.pdc_mark.specs.declared.stored.Stored.{Stored}
use Rattle.pdc_node.specs.Node.{NodeView}
use Rattle.pdc_merge.specs.Merger.{MergerView}
use Rattle.pdc_station.specs.{declared.station.Station.{Station}, pdc_publisher.Publisher.{lead_in, mark_in}}
use Rattle.pdc_world.specs.{declared.ledger.Ledger.{Ledger}, Views.{LedgerView, StationView, WorldView}}

abbrev pub ledger_view : Ledger → LedgerView
ledger_view ledger = record { table = ledger.sent.settings; frames = ledger.sent.frames; published = ledger.published.items }

-- there is room for one frame and one row more, and to write a frame
abbrev pub ledger_has_room : Ledger → Bool
ledger_has_room ledger = ledger.sent.has_room && nat_lt (vec_len ledger.published) (vec_capacity ledger.published) && nat_le MAX_SIZE (vec_capacity ledger.frame)

-- There is, and no frame is written yet.
pub record IsReady (ledger : Ledger) : Type 0 where
  pub frame : IsTrue ledger.sent.has_room
  pub row : vec_len ledger.published < vec_capacity ledger.published
  pub empty : ledger.frame.items ≡ []
  pub most : MAX_SIZE ≤ vec_capacity ledger.frame

-- what is seen of a station, whose mark stores this
abbrev pub station_view : {C M S : Type 0} {opens core reads store mark : _} (stored : M → Stored) → Station C M S opens core reads store mark → StationView C
station_view stored station = record { core = station.core; mark = stored (mark_in station.publisher); lead = lead_in station.publisher }

-- what is seen of a world of these stations and this ledger
abbrev pub world_view : (a b : StationView NodeView) → StationView MergerView → Ledger → WorldView
world_view a b m ledger = record { a = a; b = b; m = m; ledger = ledger_view ledger; has_room = ledger_has_room ledger }
