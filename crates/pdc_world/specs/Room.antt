-- Which events need no memory.
use Rattle.std.specs.Prelude.{Bool, IsTrue}
use Rattle.pdc_history.specs.{Asked.{Asked, Do, Junk, Send, To}, Event.{Publish, TickAt}}

-- Bytes that come to a core need none. A send, a tick and a publish need room for one frame and one row more. A stop opens a core, for
-- which nothing is reserved.
abbrev pub HasRoomFor : (has_room : Bool) → Asked → Type 0
HasRoomFor has_room (Send bytes) = IsTrue has_room
HasRoomFor has_room (To who number) = Unit {0}
HasRoomFor has_room (Junk who bytes) = Unit {0}
HasRoomFor has_room (Do who (TickAt now)) = IsTrue has_room
HasRoomFor has_room (Do who Publish) = IsTrue has_room
HasRoomFor has_room (Do who act) = ⊥
