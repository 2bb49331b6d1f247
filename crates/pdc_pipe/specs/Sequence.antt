-- The messages of the channel, as bytes, and their end mark.
use Rattle.std.specs.Prelude.{◌≡◌, ℕ, Bool, true, false, List, [], ◌∷◌, ◌++◌}
use Rattle.pdc_publisher.specs.PublishedRow.{frame_in}
use Rattle.pdc_pipe.specs.declared.message.Message.{Message}
use Rattle.pdc_pipe.specs.declared.message.Message.TheVariants.{Data, Layout, End}

-- the bytes of the frames, in order
abbrev pub bytes_of : List Message → List (List ℕ)
bytes_of [] = []
bytes_of (Data row ∷ ms) = frame_in row ∷ bytes_of ms
bytes_of (Layout frame ∷ ms) = frame.bytes.items ∷ bytes_of ms
bytes_of (End ∷ ms) = bytes_of ms

abbrev pub is_end : Message → Bool
is_end (Data _) = false
is_end (Layout _) = false
is_end End = true

-- an end mark stands among the messages
abbrev pub has_end : List Message → Bool
has_end [] = false
has_end (Data _ ∷ ms) = has_end ms
has_end (Layout _ ∷ ms) = has_end ms
has_end (End ∷ ms) = true

-- the end mark stands last where the channel is closed, and nowhere else
abbrev pub IsClosedBy : Bool → List Message → Type 0
IsClosedBy true put = (body : List Message) × (put ≡ body ++ End ∷ []) × (has_end body ≡ false)
IsClosedBy false put = has_end put ≡ false
