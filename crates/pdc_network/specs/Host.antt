-- The addresses of a host.
use Rattle.std.specs.Prelude.{ℕ, nat_lt, if◌then◌else◌, List, [], ◌∷◌, ◌++◌, take}
use Rattle.std.specs.declared.net.socket_addr.SocketAddr.{SocketAddr}
use Rattle.pdc_network.specs.declared.addresses.Addresses.{Addresses}

-- how many there are
abbrev pub count_of : Addresses → ℕ
count_of addresses = addresses.count

-- they, in order
abbrev pub all_of : Addresses → List SocketAddr
all_of addresses = take addresses.count addresses.all

-- and one more, where there is room: eight at most
abbrev pub all_with : SocketAddr → Addresses → List SocketAddr
all_with address addresses = if nat_lt (count_of addresses) 8 then all_of addresses ++ address ∷ [] else all_of addresses

-- which one is tried, counted from 0
abbrev pub place_of : Addresses → ℕ
place_of addresses = addresses.at
