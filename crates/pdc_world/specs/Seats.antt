-- The seats of a world: what a core with its mark is to it.
use Rattle.std.specs.Prelude.{◌≡◌, List, ℕ}
use Rattle.pdc_mark.specs.declared.stored.Stored.{Stored}
use Rattle.pdc_life.specs.{Answer.{Rules}, Arrival.{Arrival}, CoreKind.{CoreKind, given_of, OfMerger, OfNode, rules_of, Says}, Given.{Given}, Life.{Entry}}
use Rattle.pdc_node.specs.Node.{NodeView}
use Rattle.pdc_merge.specs.Merger.{MergerView}
use Rattle.pdc_history.specs.World.{A, B, M, Who}
use Rattle.pdc_world.specs.Views.{StationView, WorldView}
use Rattle.pdc_merge.specs.Merger as merger
use Rattle.pdc_node.specs.Node as node

-- What is fixed of it: what its core is, and how far ahead its mark is reserved. And what it has come to: the lives that the core
-- stands for, and the mark.
pub record Seat : Type 1 where
  pub kind : CoreKind
  pub lead : ℕ
  pub stands : Given → List Entry → Type 0
  pub mark : Stored

-- A core that answers by these rules, to which bytes say this, and whose lives are given this, is of the kind.
pub record IsOfKind (kind : CoreKind) (rules : Rules) (says : ℕ → List ℕ → Arrival → Type 0) (given : (start floor : ℕ) → List ℕ → Given) : Type 0 where
  pub same_rules : rules ≡ rules_of kind
  pub same_says : (s : ℕ) (bytes : List ℕ) (arrival : Arrival) → says s bytes arrival → Says kind s bytes arrival
  pub same_given : (start floor : ℕ) (counts : List ℕ) → given start floor counts ≡ given_of kind start floor counts 0

pub is_of_itself : (kind : CoreKind) → IsOfKind kind (rules_of kind) (Says kind) (λ start floor counts. given_of kind start floor counts 0)
is_of_itself kind = record {
  same_rules = λ i. rules_of kind;
  same_says = λ s bytes arrival says. says;
  same_given = λ start floor counts i. given_of kind start floor counts 0;
}

-- what sits in each: a node in the first two, and in the third the merger
abbrev pub CoreOf : Who → Type 0
CoreOf A = NodeView
CoreOf B = NodeView
CoreOf M = MergerView

abbrev pub station_of : WorldView → (who : Who) → StationView (CoreOf who)
station_of v A = v.a
station_of v B = v.b
station_of v M = v.m

-- what it is, and the lives that it stands for
abbrev pub kind_in : (who : Who) → CoreOf who → CoreKind
kind_in A core = OfNode core.settings
kind_in B core = OfNode core.settings
kind_in M core = OfMerger core.settings

abbrev pub stands_in : (who : Who) → CoreOf who → Given → List Entry → Type 0
stands_in A core g E = node.StandsFor g E core
stands_in B core g E = node.StandsFor g E core
stands_in M core g E = merger.StandsFor g E core

abbrev pub seat_of : (who : Who) → StationView (CoreOf who) → Seat
seat_of who station = record { kind = kind_in who station.core; lead = station.lead; stands = stands_in who station.core; mark = station.mark }
