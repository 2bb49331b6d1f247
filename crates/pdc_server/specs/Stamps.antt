-- The stamp of a layout.
use Rattle.std.specs.Prelude.{ℕ, Bool, ◌&&◌, nat_eq}
use Rattle.pdc_server.specs.declared.stamp.Stamp.{Stamp}

-- two stamps are the same
abbrev pub is_stamp : Stamp → Stamp → Bool
is_stamp one other = nat_eq one.start other.start && nat_eq one.change other.change

-- that of the layout before the first adoption of a life with this start
abbrev pub first_stamp : ℕ → Stamp
first_stamp start = record { start = start; change = 0 }
