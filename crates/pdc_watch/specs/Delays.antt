-- How late the frames of a stream are.
use Rattle.std.specs.Prelude.{◌≡◌, refl, ℕ, ◌+◌, ◌-◌, ◌*◌, ◌/◌}

-- The nearest rank, counted from 0: the first place, of so many in rising order, up to which stand so many of a hundred of them.
abbrev pub place_of_share : (count share : ℕ) → ℕ
place_of_share count share = (count * share + 99) / 100 - 1

-- of four in order the second one is the median, and no less than the last one is what 99 of a hundred do not exceed
median_of_four : place_of_share 4 50 ≡ 1
median_of_four = refl

nearly_all_of_four : place_of_share 4 99 ≡ 3
nearly_all_of_four = refl

nearly_all_of_many : place_of_share 4096 99 ≡ 4055
nearly_all_of_many = refl
