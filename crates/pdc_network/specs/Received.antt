-- What calls of the system that receive a datagram answered, and what a source makes of it.
use Rattle.std.specs.Prelude.{◌≡◌, ℕ, ◌+◌, ◌*◌, ◌^◌, ◌==◌, Bool, true, false, if◌then◌else◌, List, [], ◌∷◌, take, Option, None, Some, Result, Ok, Err}
use Rattle.std.specs.List.{flat_map}
use Rattle.std.specs.IoError.{error_kind}
use Rattle.std.specs.Net.Addr.{ipv4_bits, ipv6_bits}
use Rattle.std.specs.Net.Socket.{socket_ip}
use Rattle.std.specs.declared.io.Error.{Error}
use Rattle.std.specs.declared.io.ErrorKind.{ErrorKind}
use Rattle.std.specs.declared.io.ErrorKind.TheVariants.{WouldBlock, TimedOut, Interrupted}
use Rattle.std.specs.declared.net.ip_addr.IpAddr.{IpAddr}
use Rattle.std.specs.declared.net.ip_addr.IpAddr.TheVariants.{V4, V6}
use Rattle.std.specs.declared.net.socket_addr.SocketAddr.{SocketAddr}
use Rattle.pdc_ports.specs.Heard.{Heard, Gave, Idled, Ended, Failed, GaveUp}

-- A datagram with these bytes came from this sender; or none came, for this cause.
pub data Received : Type 0 where
  Came : (sender : SocketAddr) → (bytes : List ℕ) → Received
  NoneCame : (cause : ErrorKind) → Received

-- what was received by an answer, and by the buffer that it left
abbrev pub received_by : Result (ℕ × SocketAddr) Error → (buffer : List ℕ) → Received
received_by (Ok came) buffer = Came came.1 (take came.0 buffer)
received_by (Err error) buffer = NoneCame (error_kind error)

-- The wait for a datagram ended, and the device did not fail.
abbrev pub is_wait : ErrorKind → Bool
is_wait WouldBlock = true
is_wait TimedOut = true
is_wait Interrupted = true
is_wait _ = false

-- The 128 bits of an address; an IPv4 address a.b.c.d has those of ::ffff:a.b.c.d, which is the same host.
abbrev pub host_bits : IpAddr → ℕ
host_bits (V4 ip) = 0xFFFF * 2 ^ 32 + ipv4_bits ip
host_bits (V6 ip) = ipv6_bits ip

-- Where the datagrams of one address are read alone, the others are a stranger's.
abbrev pub is_read : (from : Option IpAddr) → (sender : SocketAddr) → Bool
is_read None sender = true
is_read (Some from) sender = host_bits (socket_ip sender) == host_bits from

-- what is given of what was received: each datagram that is no stranger's, with its bytes, and each failure
abbrev pub given_of : (from : Option IpAddr) → Received → List Heard
given_of from (Came sender bytes) = if is_read from sender then Gave bytes ∷ [] else []
given_of from (NoneCame cause) = if is_wait cause then [] else Failed ∷ []

-- what was heard, without the pauses
abbrev pub unless_idle : Heard → List Heard
unless_idle (Gave bytes) = Gave bytes ∷ []
unless_idle Idled = []
unless_idle Ended = Ended ∷ []
unless_idle Failed = Failed ∷ []
unless_idle GaveUp = GaveUp ∷ []

-- The socket's calls were these, and what was heard is exactly what is given of them: once each, in order, with pauses anywhere.
pub record HasGiven {S : Type 0} (received : S → List Received → Type 0) (from : Option IpAddr) (socket : S) (heard : List Heard) : Type 0 where
  pub calls : List Received
  pub are_all : received socket calls
  pub same : flat_map unless_idle heard ≡ flat_map (given_of from) calls
