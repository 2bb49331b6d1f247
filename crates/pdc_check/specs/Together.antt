-- What of the settings of two concentrators does not fit.
use Rattle.std.specs.Prelude.{◌==◌, ◌&&◌, ◌||◌, not, ℕ, Bool, true, false, List, [], ◌∷◌, ◌++◌, nat_lt, if◌then◌else◌, Option, Some, None}
use Rattle.std.specs.List.{list_any}
use Rattle.std.specs.Option.{option_to_list}
use Rattle.pdc_check.specs.declared.misfit.Misfit.{Misfit}
use Rattle.pdc_check.specs.declared.misfit.Misfit.TheVariants.{IdOfSource, NotMerged, NotSent, NotServed, OtherOwner, OtherRate, OtherSources, OtherTimeBase, Preferred, SameId, ShortWait}
use Rattle.pdc_check.specs.declared.outline.Outline.{Outline}
use Rattle.pdc_check.specs.declared.outline.Stream.{Stream}

-- two concentrators of any kind
abbrev pub same_id : Outline → Outline → Option Misfit
same_id one other = if one.id == other.id then Some (SameId one.id) else None

abbrev pub other_rate : Outline → Outline → Option Misfit
other_rate one other = if one.rate == other.rate then None else Some (OtherRate one.rate other.rate)

-- the id of one is that of a source of the other
abbrev pub id_of_source : Outline → Outline → Option Misfit
id_of_source one other = if list_any (λ source. source == one.id) other.sources.items then Some (IdOfSource one.id) else None

-- the first of the streams that is of this id
abbrev pub stream_of : ℕ → List Stream → Option Stream
stream_of id [] = None
stream_of id (stream ∷ streams) = if stream.id == id then Some stream else stream_of id streams

-- a node, and how the merger takes its stream
abbrev pub other_time_base : Outline → Stream → Option Misfit
other_time_base node stream = if node.time_base == stream.time_base then None else Some (OtherTimeBase node.time_base stream.time_base stream.table)

-- where the stream comes to a port, the node's frames go there
abbrev pub not_sent : Outline → Stream → Option Misfit
not_sent node stream = if stream.port == 0 || list_any (λ port. port == stream.port) node.sent_to.items then None else Some (NotSent stream.port stream.table)

-- where it is asked for over TCP, the node's sessions are there
abbrev pub not_served : Outline → Stream → Option Misfit
not_served node stream = if stream.asked_at == 0 || stream.asked_at == node.session_port then None else Some (NotServed node.session_port stream.asked_at stream.table)

-- some of a list, in its order
abbrev pub are_among : List ℕ → List ℕ → Bool
are_among [] there = true
are_among (id ∷ ids) [] = false
are_among (id ∷ ids) (other ∷ others) = if id == other then are_among ids others else are_among (id ∷ ids) others

abbrev pub other_sources : (node merger : Outline) → Option Misfit
other_sources node merger = if are_among node.sources.items merger.sources.items then None else Some OtherSources

abbrev pub short_wait : (merger node : Outline) → Option Misfit
short_wait merger node = if nat_lt merger.wait node.wait then Some (ShortWait merger.wait node.wait) else None

-- the node is the first of the merger's
abbrev pub is_first : ℕ → List Stream → Bool
is_first id [] = false
is_first id (stream ∷ streams) = stream.id == id

abbrev pub preferred : (merger node : Outline) → Option Misfit
preferred merger node = if is_first node.id merger.streams.items then Some (Preferred node.id) else None

-- what of a node does not fit a merger
abbrev pub of_stream : Outline → Option Stream → List Misfit
of_stream node None = NotMerged node.id ∷ []
of_stream node (Some stream) = (option_to_list (other_time_base node stream) ++ option_to_list (not_sent node stream)) ++ option_to_list (not_served node stream)

abbrev pub of_node : (node merger : Outline) → List Misfit
of_node node merger = of_stream node (stream_of node.id merger.streams.items) ++ option_to_list (other_sources node merger)

-- and of a merger's to a node
abbrev pub of_merger : (merger node : Outline) → List Misfit
of_merger merger node = option_to_list (short_wait merger node) ++ option_to_list (preferred merger node)

-- what of two, in the order in which they are given, does not fit: of the second to the first, by their kinds
abbrev pub by_kind : (one other : Outline) → List Misfit
by_kind one other = if one.is_merger then (if other.is_merger then [] else of_merger one other) else (if other.is_merger then of_node one other else [])

abbrev pub alike : (one other : Outline) → List Misfit
alike one other = option_to_list (same_id one other) ++ option_to_list (other_rate one other)

abbrev pub misfits : (one other : Outline) → List Misfit
misfits one other = option_to_list (id_of_source one other) ++ by_kind one other

-- settings, and the id and the rate of the mark beside them
abbrev pub other_owner : Outline → ℕ → Option Misfit
other_owner settings id = if settings.id == id then None else Some (OtherOwner settings.id id)

abbrev pub other_mark_rate : Outline → ℕ → Option Misfit
other_mark_rate settings rate = if settings.rate == rate then None else Some (OtherRate settings.rate rate)

abbrev pub of_mark : Outline → (id rate : ℕ) → List Misfit
of_mark settings id rate = option_to_list (other_owner settings id) ++ option_to_list (other_mark_rate settings rate)
