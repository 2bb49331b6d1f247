-- Which known name is nearest to one that is not known.
use Rattle.std.specs.Prelude.{◌≡◌, refl, ℕ, ◌/◌, ◌&&◌, ◌||◌, Bool, true, false, List, [], ◌∷◌, length, nat_le, nat_lt, if◌then◌else◌, Option, Some, None}
use Rattle.std.specs.Str.{chars}
use Rattle.strsim.specs.Edits.{osa_table}

-- how many edits lead from one to the other: a letter is put in, left out, or another one, or two neighbours change places
abbrev pub edits : List ℕ → List ℕ → ℕ
edits key name = (osa_table (chars key) (chars name)).last_row (length (chars name))

-- the most edits that a slip has: two, or a third of the length; and some letters are right
abbrev pub is_slip : (len edits : ℕ) → Bool
is_slip len n = nat_lt n len && (nat_le n 2 || nat_le n (len / 3))

abbrev pub is_near : List ℕ → List ℕ → Bool
is_near key name = is_slip (length key) (edits key name)

-- the nearer of both: the first where they are alike
abbrev pub nearer : (key name : List ℕ) → Option (List ℕ) → Option (List ℕ)
nearer key name None = Some name
nearer key name (Some other) = if nat_le (edits key name) (edits key other) then Some name else Some other

-- the nearest of those that are near
abbrev pub nearest_of : List ℕ → List (List ℕ) → Option (List ℕ)
nearest_of key [] = None
nearest_of key (name ∷ names) = if is_near key name then nearer key name (nearest_of key names) else nearest_of key names

-- Worked: three edits are too many for a word of eight letters, and three for one of nine are a slip; two letters that are both wrong are none.
pub of_eight : is_slip 8 3 ≡ false
of_eight = refl

pub of_nine : is_slip 9 3 ≡ true
of_nine = refl

pub of_two : is_slip 2 2 ≡ false
of_two = refl
