-- Whether the settings of two nodes and a merger agree, as a test.
use Rattle.std.specs.Prelude.{[], ◌&&◌, ◌==◌, ◌∷◌, Bool, false, List, not, true, ℕ}
use Rattle.pdc_row.specs.declared.output.Output.{Output}
use Rattle.pdc_life.specs.{declared.given.Settings.{Settings}, declared.merging.MergedNode.{MergedNode}, declared.merging.MergerSettings.{MergerSettings}, declared.pmu.Pmu.{Pmu}}

-- the same streams with the same TIME_BASEs and sources, in the same order
abbrev pub are_alike : List Pmu → List Pmu → Bool
are_alike [] [] = true
are_alike (pmu ∷ pmus) (other ∷ others) = (pmu.stream.value == other.stream.value) && (pmu.time_base == other.time_base) && (pmu.source == other.source) && are_alike pmus others
are_alike pmus others = false

-- these are their sources, in the same order
abbrev pub are_sources : List ℕ → List Pmu → Bool
are_sources [] [] = true
are_sources (id ∷ ids) (pmu ∷ pmus) = (id == pmu.source) && are_sources ids pmus
are_sources ids pmus = false

-- none of them has a stream of this id
abbrev pub is_free : (id : ℕ) → List Pmu → Bool
is_free id [] = true
is_free id (pmu ∷ pmus) = not (pmu.stream.value == id) && is_free id pmus

-- the merger takes this stream for the one that this output makes
abbrev pub is_taken_for : MergedNode → Output → Bool
is_taken_for node output = (node.id.value == output.id.value) && (node.time_base == output.time_base)

-- they have one rate, and three ids
abbrev pub are_three : (a b m : Output) → Bool
are_three a b m = (b.rate == a.rate) && (m.rate == a.rate) && not (a.id.value == b.id.value) && not (a.id.value == m.id.value) && not (b.id.value == m.id.value)

-- none of their ids is a PMU's
abbrev pub are_free : (a b m : Output) → List Pmu → Bool
are_free a b m pmus = is_free a.id.value pmus && is_free b.id.value pmus && is_free m.id.value pmus

abbrev pub do_agree : (a b : Settings) → MergerSettings → Bool
do_agree a b m =
    are_alike b.pmus.items a.pmus.items && are_sources m.sources.items a.pmus.items && is_taken_for m.first a.output && is_taken_for m.second b.output
    && are_three a.output b.output m.output && are_free a.output b.output m.output a.pmus.items
