-- Which address of a host is tried next.
use Rattle.std.specs.Prelude.{◌≡◌, refl, ℕ, ◌+◌, nat_le, if◌then◌else◌}

-- of so many, counted from 0: behind the last one comes the first
abbrev pub next_place : (count place : ℕ) → ℕ
next_place count place = if nat_le count (place + 1) then 0 else place + 1

pub one_more : next_place 3 1 ≡ 2
one_more = refl

pub behind_last : next_place 3 2 ≡ 0
behind_last = refl
