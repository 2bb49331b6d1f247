-- What data adds that an instant waits for.
use Rattle.std.specs.Prelude.{◌≡◌, refl, ℕ, ◌+◌, ◌-◌, ◌*◌, ◌/◌, nat_le, if◌then◌else◌}

-- How many nanoseconds data added that came last at this time, where that of the stream before it came at `before`: the time in between. It is
-- nothing where the clock was set back in between, and where it could not be read, so that a time is 0.
abbrev pub added_by : (before last : ℕ) → ℕ
added_by before last = if nat_le 1 before then last - before else 0

pub in_order : added_by 1_149_577_200_010_000_000 1_149_577_200_022_500_000 ≡ 12_500_000
in_order = refl

pub set_back : added_by 1_149_577_200_010_000_000 1_149_577_199_010_000_000 ≡ 0
set_back = refl

pub unread : added_by 0 1_149_577_200_010_000_000 ≡ 0
unread = refl

-- how many thousandths of a whole a part is, to the nearest
abbrev pub thousandths_of : (part whole : ℕ) → ℕ
thousandths_of part whole = (part * 1000 + whole / 2) / whole

pub two_of_three : thousandths_of 2 3 ≡ 667
two_of_three = refl
