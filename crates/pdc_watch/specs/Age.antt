-- When data is old.
use Rattle.std.specs.Prelude.{◌≡◌, refl, ℕ, ◌+◌, ◌-◌, ◌/◌, ◌≤◌, nat_eq, if◌then◌else◌}

-- How long nothing may come at so many frames a second, in ms: a second, and two frames.
abbrev pub patience_of : (rate : ℕ) → ℕ
patience_of rate = if nat_eq rate 0 then 1000 else 1000 + 2000 / rate

-- What came then is old now, both in ms: nothing has come since for as long as that.
abbrev pub IsOld : (came now rate : ℕ) → Type 0
IsOld came now rate = patience_of rate ≤ now - came

at_50 : patience_of 50 ≡ 1040
at_50 = refl

at_1 : patience_of 1 ≡ 3000
at_1 = refl
