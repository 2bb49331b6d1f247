-- Which hosts a request to a server of the loopback may name.
use Rattle.std.specs.Prelude.{◌≡◌, ℕ, List, ◌⊎◌, codes, map}
use Rattle.std.specs.Char.{to_ascii_lowercase}

-- The name is 127.0.0.1, [::1] or localhost, in letters of either case.
abbrev pub IsOwnName : (name : List ℕ) → Type 0
IsOwnName name = (map to_ascii_lowercase name ≡ codes "127.0.0.1") ⊎ (map to_ascii_lowercase name ≡ codes "[::1]") ⊎ (map to_ascii_lowercase name ≡ codes "localhost")
