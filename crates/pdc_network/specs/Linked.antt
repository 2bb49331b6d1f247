-- What came by the way of a link.
use Rattle.std.specs.Prelude.{◌≡◌, ℕ, List, [], Option, None, Some, option_map}
use Rattle.std.specs.declared.net.ip_addr.IpAddr.{IpAddr}
use Rattle.pdc_ports.specs.Heard.{Heard}
use Rattle.pdc_session.specs.Counting.{inner_of}
use Rattle.pdc_network.specs.Connected.{HasGivenAll, MayEnd}
use Rattle.pdc_network.specs.Dialed.{Dialed}
use Rattle.pdc_network.specs.Limit.{most_of}
use Rattle.pdc_network.specs.Received.{Received, HasGiven}
use Rattle.pdc_network.specs.declared.connection.Connection.{Connection}
use Rattle.pdc_network.specs.declared.link.Link.{Link}
use Rattle.pdc_network.specs.declared.port.Port.{Port}
use Rattle.pdc_network.specs.declared.udp_source.UdpSource.{UdpSource}
use Rattle.pdc_network.specs.declared.way.Way.{Way}
use Rattle.pdc_network.specs.declared.way.Way.TheVariants.{Datagrams, Stream}

-- the socket of a source
abbrev pub socket_of : {S : Type 0} → UdpSource S → S
socket_of source = source.socket

-- the address whose datagrams it reads alone, if there is one
abbrev pub read_from : {S : Type 0} → UdpSource S → Option IpAddr
read_from source = source.from

-- the source of a port
abbrev pub source_at : {R S : Type 0} → Port R S → UdpSource S
source_at port = port.source

-- the source of a way, where that is a port
abbrev pub source_by : {R S D T : Type 0} → Way R S D T → Option (UdpSource S)
source_by (Datagrams port) = Some port.source
source_by (Stream connection) = None

-- and of a link
abbrev pub source_of : {R S D T : Type 0} → Link R S D T → Option (UdpSource S)
source_of link = source_by link.way

-- The port said this, and it is what its socket received.
abbrev pub IsHeardAt : {R S : Type 0} (received : S → List Received → Type 0) → Port R S → List Heard → Type 0
IsHeardAt received port heard = HasGiven received port.source.from port.source.socket heard

-- The stream of a connection, where there is one.
abbrev pub stream_of : {R D T : Type 0} → Connection R D T → Option T
stream_of connection = option_map inner_of connection.stream

-- The connection said this, and it is exactly the frames that came of the streams that its dialer made.
abbrev pub IsHeardOver : {R D T : Type 0} (dialed : D → List (Dialed T) → Type 0) (remaining contents : T → Option (List ℕ)) → Connection R D T → List Heard → Type 0
IsHeardOver dialed remaining contents connection heard =
    HasGivenAll dialed remaining contents connection.id.value connection.dialer (stream_of connection) connection.framer connection.unread heard

-- Its stream may be let go: of the bytes that were read of it none is left to take.
abbrev pub CanEnd : {R D T : Type 0} → Connection R D T → Type 0
CanEnd connection = MayEnd (stream_of connection) connection.framer connection.unread

-- The way said this: of a port what its socket received, of a connection what came of its streams.
abbrev pub IsHeardBy : {R S D T : Type 0} (received : S → List Received → Type 0) (dialed : D → List (Dialed T) → Type 0) (remaining contents : T → Option (List ℕ)) → Way R S D T → List Heard → Type 0
IsHeardBy received dialed remaining contents (Datagrams port) heard = IsHeardAt received port heard
IsHeardBy received dialed remaining contents (Stream connection) heard = IsHeardOver dialed remaining contents connection heard

-- Of the socket of a port nothing was asked yet.
abbrev pub IsFreshPort : {R S : Type 0} (received : S → List Received → Type 0) → Port R S → Type 0
IsFreshPort received port = received (socket_of port.source) []

-- Of the dialer of a connection nothing was asked yet, and there is no stream.
abbrev pub IsFreshConnection : {R D T : Type 0} (dialed : D → List (Dialed T) → Type 0) → Connection R D T → Type 0
IsFreshConnection dialed connection = dialed connection.dialer [] × (stream_of connection ≡ None)

-- The same of a way,
abbrev pub IsFreshWay : {R S D T : Type 0} (received : S → List Received → Type 0) (dialed : D → List (Dialed T) → Type 0) → Way R S D T → Type 0
IsFreshWay received dialed (Datagrams port) = IsFreshPort received port
IsFreshWay received dialed (Stream connection) = IsFreshConnection dialed connection

-- and of a link.
abbrev pub IsFreshLink : {R S D T : Type 0} (received : S → List Received → Type 0) (dialed : D → List (Dialed T) → Type 0) → Link R S D T → Type 0
IsFreshLink received dialed link = IsFreshWay received dialed link.way

-- the count above which it leaves out configurations, if it has a limit
abbrev pub limit_of : {R S D T : Type 0} → Link R S D T → Option ℕ
limit_of link = most_of link.limit
