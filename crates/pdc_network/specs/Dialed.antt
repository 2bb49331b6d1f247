-- What calls of the system that make a connection were asked, and what they answered.
use Rattle.std.specs.Prelude.{List, [], ◌∷◌, Result, Ok, Err}
use Rattle.std.specs.declared.io.Error.{Error}
use Rattle.std.specs.declared.net.socket_addr.SocketAddr.{SocketAddr}

-- One call: where to, and the stream that it made, or why it made none.
pub record Dialed (T : Type 0) : Type 0 where
  pub to : SocketAddr
  pub answer : Result T Error

abbrev pub if_made : {T : Type 0} → Result T Error → List T
if_made (Ok stream) = stream ∷ []
if_made (Err error) = []

-- the stream, where one was made
abbrev pub made_of : {T : Type 0} → Dialed T → List T
made_of call = if_made call.answer
