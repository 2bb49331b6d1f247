-- Which listeners the settings name.
use Rattle.std.specs.Prelude.{◌≡◌, ℕ, [], ◌∷◌, Option, None, Some}
use Rattle.std.specs.Net.Addr.{IsV4And, ipv4_octets}
use Rattle.std.specs.declared.net.ip_addr.IpAddr.{IpAddr}

-- 127.0.0.1
abbrev pub IsLoopback : IpAddr → Type 0
IsLoopback ip = IsV4And ip (λ v4. ipv4_octets v4 ≡ 127 ∷ 0 ∷ 0 ∷ 1 ∷ [])

-- it was opened at this port of the loopback
pub record ListensHere {L : Type 0} (listens : L → IpAddr → ℕ → Type 0) (port : ℕ) (listener : L) : Type 0 where
  pub address : IpAddr
  pub loopback : IsLoopback address
  pub opened : listens listener address port

-- the counters are served where the settings name a port for them
abbrev pub IsMetricsOf : {L : Type 0} (listens : L → IpAddr → ℕ → Type 0) → (port : Option ℕ) → Option L → Type 0
IsMetricsOf listens None None = Unit {0}
IsMetricsOf listens None (Some listener) = ⊥
IsMetricsOf listens (Some port) None = ⊥
IsMetricsOf listens (Some port) (Some listener) = ListensHere listens port listener
