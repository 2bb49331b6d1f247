-- What contracts see of a world.
use Rattle.std.specs.Prelude.{Bool, List, ℕ}
use Rattle.pdc_mark.specs.declared.stored.Stored.{Stored}
use Rattle.pdc_life.specs.declared.given.Settings.{Settings}
use Rattle.pdc_node.specs.Node.{NodeView}
use Rattle.pdc_merge.specs.Merger.{MergerView}
use Rattle.pdc_history.specs.declared.reply.Published.{Published}

-- what was sent and published, and the settings by which frames of PMUs are read
pub record LedgerView : Type 0 where
  pub table : Settings
  pub frames : List (List ℕ)
  pub published : List Published

-- a core with its mark, and how many instants are reserved ahead
pub record StationView (Core : Type 0) : Type 0 where
  pub core : Core
  pub mark : Stored
  pub lead : ℕ

-- The cores, what was sent and published, and whether there is room for one frame and one row more.
pub record WorldView : Type 0 where
  pub a : StationView NodeView
  pub b : StationView NodeView
  pub m : StationView MergerView
  pub ledger : LedgerView
  pub has_room : Bool
