-- What came of a stream, by an answer and by the buffer that it left.
use Rattle.std.specs.Prelude.{◌≤◌, ℕ, List, [], ◌∷◌, take, Option, Some, None, Result, Ok, Err}
use Rattle.pdc_network.specs.declared.loss.Loss.{Loss}
use Rattle.pdc_network.specs.declared.streaming.Came.{Came}
use Rattle.pdc_network.specs.declared.streaming.Came.TheVariants.{Nothing, Piece, Frame}

abbrev pub frames_of : Came → (buffer : List ℕ) → List (List ℕ)
frames_of Nothing buffer = []
frames_of Piece buffer = []
frames_of (Frame len) buffer = take len buffer ∷ []

-- the frame that the buffer begins with, if one came
abbrev pub frames_in : Result Came Loss → (buffer : List ℕ) → List (List ℕ)
frames_in (Ok came) buffer = frames_of came buffer
frames_in (Err loss) buffer = []

-- the same of an answer that tells of a frame alone
abbrev pub frame_in : Result (Option ℕ) Loss → (buffer : List ℕ) → List (List ℕ)
frame_in (Ok (Some len)) buffer = take len buffer ∷ []
frame_in (Ok None) buffer = []
frame_in (Err loss) buffer = []

-- it has room in the buffer
abbrev pub fits_in : Came → (len : ℕ) → Type 0
fits_in Nothing len = Unit {0}
fits_in Piece len = Unit {0}
fits_in (Frame n) len = n ≤ len
