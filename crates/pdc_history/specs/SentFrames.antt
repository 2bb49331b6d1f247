-- Frames one behind another in one list of bytes.
use Rattle.std.specs.Prelude.{ℕ, ◌≤◌, List, map, ◌≡◌, refl, [], ◌∷◌}
use Rattle.std.specs.List.{slice_range}
use Rattle.pdc_history.specs.declared.frames.Place.{Place}

-- the frames, for how many more there is a place, and for how many bytes there is room
pub record FramesView : Type 0 where
  pub frames : List (List ℕ)
  pub places : ℕ
  pub room : ℕ

abbrev pub frame_at : (bytes : List ℕ) → Place → List ℕ
frame_at bytes place = slice_range bytes place.start place.end

abbrev pub frames_in : (bytes : List ℕ) → List Place → List (List ℕ)
frames_in bytes places = map (frame_at bytes) places

-- a place within so many bytes
pub record IsWithin (len : ℕ) (place : Place) : Type 0 where
  pub order : place.start ≤ place.end
  pub bound : place.end ≤ len

-- Worked: five bytes hold a frame of two and one of three.
abbrev two_places : List Place
two_places = record { start = 0; end = 2 } ∷ record { start = 2; end = 5 } ∷ []

pub two_frames : frames_in (170 ∷ 2 ∷ 170 ∷ 50 ∷ 7 ∷ []) two_places ≡ (170 ∷ 2 ∷ []) ∷ (170 ∷ 50 ∷ 7 ∷ []) ∷ []
two_frames = refl
