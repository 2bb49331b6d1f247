-- What a reader of the recent frames is given.
use Rattle.std.specs.Prelude.{◌≡◌, ◌⊎◌, refl, ℕ, List, [], ◌∷◌, ◌++◌}
use Rattle.pdc_session.specs.Recent.{AreAbove, AreRising, Kept, bytes_of, greatest_of}
use Rattle.pdc_server.specs.Places.{Takes}
use Rattle.pdc_server.specs.Stream.{AreData, IsLayout, Stream}
use Rattle.pdc_server.specs.declared.place.Place.{Place}
use Rattle.pdc_server.specs.declared.place.Seen.TheVariants.{Layout}
use Rattle.pdc_server.specs.declared.stamp.Stamp.{Stamp}

-- Behind the bytes that there were stand the bytes of some data frames of one layout, which the reader has. Their instants strictly rise,
-- and lie above the one that it got data up to; that is the greatest of them then.
pub record AreGiven (stream : Stream) (before : Place) (out : List ℕ) (now : Place) (grown : List ℕ) : Type 0 where
  pub stamp : Stamp
  pub takes : Takes before.seen stamp
  pub seen : now.seen ≡ Layout stamp
  pub frames : List Kept
  pub appended : grown ≡ out ++ bytes_of frames
  pub rising : AreRising frames
  pub later : AreAbove before.got frames
  pub are_data : ∥ AreData stream stamp frames ∥₁
  pub greatest : now.got ≡ greatest_of before.got frames

-- or the layout frame of some layout, which the reader has then
pub record IsToldLayout (stream : Stream) (before : Place) (out : List ℕ) (now : Place) (grown : List ℕ) : Type 0 where
  pub stamp : Stamp
  pub seen : now.seen ≡ Layout stamp
  pub got : now.got ≡ before.got
  pub layout : List ℕ
  pub is_layout : ∥ IsLayout stream stamp layout ∥₁
  pub appended : grown ≡ out ++ layout

-- So each data frame that a reader is given is of the layout of the last layout frame before it, where there is one.
abbrev pub IsGiven : Stream → (before : Place) (out : List ℕ) (now : Place) (grown : List ℕ) → Type 0
IsGiven stream before out now grown = AreGiven stream before out now grown ⊎ IsToldLayout stream before out now grown

-- Worked: a reader that got up to instant 3 is given the frames of 5 and 6, and told 6; then nothing, and 6 again.
abbrev pub two_frames : List Kept
two_frames = record { instant = 5; bytes = 50 ∷ [] } ∷ record { instant = 6; bytes = 60 ∷ 61 ∷ [] } ∷ []

pub worked : (bytes_of two_frames ≡ 50 ∷ 60 ∷ 61 ∷ []) × (greatest_of 3 two_frames ≡ 6) × (greatest_of 6 [] ≡ 6)
worked = (refl, refl, refl)
