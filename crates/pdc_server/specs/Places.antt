-- Where a consumer stands in the stream.
use Rattle.std.specs.Prelude.{◌≡◌, ℕ, Bool, true, false, List, [], ◌∷◌, if◌then◌else◌, Option, Some, None}
use Rattle.pdc_server.specs.Stamps.{is_stamp}
use Rattle.pdc_server.specs.declared.place.Place.{Place}
use Rattle.pdc_server.specs.declared.place.Seen.{Seen}
use Rattle.pdc_server.specs.declared.place.Seen.TheVariants.{Nothing, Layout, Unsure}
use Rattle.pdc_server.specs.declared.stamp.Stamp.{Stamp}

-- A data frame of the layout with this stamp may come next: the consumer has no layout frame, or the last one is of that layout.
abbrev pub Takes : Seen → Stamp → Type 0
Takes Nothing stamp = Unit {0}
Takes (Layout seen) stamp = seen ≡ stamp
Takes Unsure stamp = ⊥

-- whether it is so
abbrev pub takes : Seen → Stamp → Bool
takes Nothing stamp = true
takes (Layout seen) stamp = is_stamp seen stamp
takes Unsure stamp = false

-- What it has of layouts once replies were made of the layout with a stamp, where there was one: a reply may be its layout frame.
abbrev pub seen_after : Seen → Option Stamp → Seen
seen_after seen None = seen
seen_after Nothing (Some stamp) = Layout stamp
seen_after (Layout before) (Some stamp) = if is_stamp before stamp then Layout before else Unsure
seen_after Unsure (Some stamp) = Unsure

-- the stamp of the layout that replies were made of, where any were made
abbrev pub replied : Option Stamp → (replies : List ℕ) → Option Stamp
replied stamp [] = None
replied stamp (byte ∷ bytes) = stamp

-- a consumer at first: it got data up to instant 0, and has no layout
abbrev pub first_place : Place
first_place = record { got = 0; seen = Nothing }
