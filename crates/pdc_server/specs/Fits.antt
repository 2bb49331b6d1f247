-- That data frames fit the configuration that was sent before them.
use Rattle.std.specs.Prelude.{◌≡◌, ◌⊎◌, refl, ℕ, Bool, true, false, List, [], ◌∷◌, ◌++◌, map, Option, Some, None}
use mathlib.Core.Logic.{inl, inr}
use Rattle.pdc_session.specs.Recent.{Kept}
use Rattle.pdc_server.specs.Given.{IsGiven}
use Rattle.pdc_server.specs.Places.{first_place}
use Rattle.pdc_server.specs.Stream.{Stream}
use Rattle.pdc_server.specs.Turn.{Dated, IsWhole, Standing}
use Rattle.pdc_server.specs.declared.place.Place.{Place}
use Rattle.pdc_server.specs.declared.stamp.Stamp.{Stamp}

-- what a consumer is written of layouts: a layout frame of the layout with this stamp, or a data frame of it
pub record Piece : Type 0 where
  pub is_layout : Bool
  pub stamp : Stamp

abbrev pub layout_piece : Stamp → Piece
layout_piece stamp = record { is_layout = true; stamp = stamp }

abbrev pub data_piece : Stamp → Piece
data_piece stamp = record { is_layout = false; stamp = stamp }

-- A piece fits behind this last layout frame: it is a layout frame, or there is none, or it is a data frame of that layout.
abbrev pub FitsBehind : Option Stamp → (is_layout : Bool) → Stamp → Type 0
FitsBehind last true stamp = Unit {0}
FitsBehind None false stamp = Unit {0}
FitsBehind (Some layout) false stamp = layout ≡ stamp

-- the last layout frame behind a piece
abbrev pub last_behind : Option Stamp → (is_layout : Bool) → Stamp → Option Stamp
last_behind last true stamp = Some stamp
last_behind last false stamp = last

abbrev pub last_of : Option Stamp → List Piece → Option Stamp
last_of last [] = last
last_of last (piece ∷ pieces) = last_of (last_behind last piece.is_layout piece.stamp) pieces

-- each data frame is of the layout of the last layout frame before it, where there is one
abbrev pub Fit : Option Stamp → List Piece → Type 0
Fit last [] = Unit {0}
Fit last (piece ∷ pieces) = FitsBehind last piece.is_layout piece.stamp × Fit (last_behind last piece.is_layout piece.stamp) pieces

-- Worked: a data frame before any layout frame, then the layout frame of another layout, and a data frame of that one.
pub worked : (one other : Stamp) → Fit None (data_piece one ∷ layout_piece other ∷ data_piece other ∷ [])
worked one other = (tt, (tt, (refl, tt)))

-- Each data frame is of the layout of the frame before it, be that a layout frame or a data frame, where there is one. So the layout changes
-- by a layout frame alone: that of a new layout is written before the first data frame under it.
abbrev pub Follow : Option Stamp → List Piece → Type 0
Follow last [] = Unit {0}
Follow last (piece ∷ pieces) = FitsBehind last piece.is_layout piece.stamp × Follow (Some piece.stamp) pieces

-- the layout of the last frame
abbrev pub last_seen : Option Stamp → List Piece → Option Stamp
last_seen last [] = last
last_seen last (piece ∷ pieces) = last_seen (Some piece.stamp) pieces

-- Worked: behind a data frame of one layout stand the layout frame of another and a data frame of that one.
pub worked_change : (one other : Stamp) → Follow None (data_piece one ∷ data_piece one ∷ layout_piece other ∷ data_piece other ∷ [])
worked_change one other = (tt, (refl, (tt, (refl, tt))))

-- Replies that are made of the layout with a stamp may be layout frames of it; where there are none, no layout frame is among them.
abbrev pub AreReplied : Option Stamp → (replies : List ℕ) → List Piece → Type 0
AreReplied stamp replies [] = Unit {0}
AreReplied None replies (piece ∷ pieces) = ⊥
AreReplied (Some stamp) [] (piece ∷ pieces) = ⊥
AreReplied (Some stamp) (byte ∷ bytes) (piece ∷ pieces) = (piece ≡ layout_piece stamp) × AreReplied (Some stamp) (byte ∷ bytes) pieces

-- what is given of the stream: data frames of one layout, or a layout frame
abbrev pub given_pieces : {stream : Stream} {before now : Place} {out grown : List ℕ} → IsGiven stream before out now grown → List Piece
given_pieces (inl given) = map (λ (frame : Kept). data_piece given.stamp) given.frames
given_pieces (inr told) = layout_piece told.stamp ∷ []

-- What a turn writes of layouts: the replies, and behind them, while data is on, what is given of the stream.
abbrev pub AreOfTurn : {dated : Dated} {id : ℕ} {piece : List ℕ} {before later : Standing} {made : List ℕ} → IsWhole dated id piece before later made → List Piece → Type 0
AreOfTurn {before = before} {later = later} whole pieces = (replied : List Piece) × AreReplied whole.stamp whole.replies replied
    × (((later.session.told.on ≡ false) × (pieces ≡ replied))
    ⊎ ((on : later.session.told.on ≡ true) × (pieces ≡ replied ++ given_pieces (whole.on on))))

-- These pieces are written in some turns from one standing to another, one turn behind the other.
pub record TurnWrites (before later : Standing) (pieces : List Piece) : Type 0 where
  pub dated : Dated
  pub id : ℕ
  pub piece : List ℕ
  pub made : List ℕ
  pub whole : IsWhole dated id piece before later made
  pub written : AreOfTurn whole pieces

abbrev pub TurnsWrite : Standing → List Standing → List (List Piece) → Type 0
TurnsWrite before [] [] = Unit {0}
TurnsWrite before (later ∷ standings) (pieces ∷ written) = TurnWrites before later pieces × TurnsWrite later standings written
TurnsWrite before standings written = ⊥

abbrev pub joined_pieces : List (List Piece) → List Piece
joined_pieces [] = []
joined_pieces (pieces ∷ written) = pieces ++ joined_pieces written

-- Of all that a new consumer is written, in however many turns, each data frame is of the layout of the last layout frame before it, where
-- there is one.
abbrev pub DataFitsItsLayout : Type 0
DataFitsItsLayout = (before : Standing) (standings : List Standing) (written : List (List Piece)) → before.place ≡ first_place → TurnsWrite before standings written
    → Fit None (joined_pieces written)

-- Nor does a data frame of another layout come than that of the frame before it, where no layout frame stands between.
abbrev pub LayoutsAreToldFirst : Type 0
LayoutsAreToldFirst = (before : Standing) (standings : List Standing) (written : List (List Piece)) → before.place ≡ first_place → TurnsWrite before standings written
    → Follow None (joined_pieces written)
