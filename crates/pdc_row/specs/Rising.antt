-- Instants in rising order, and instants that lie near each other.
use Rattle.std.specs.Prelude.{ℕ, ◌+◌, ◌<◌, ◌==◌, Bool, true, ◌&&◌, nat_lt, if◌then◌else◌, List, [], ◌∷◌, Option, Some, None}

-- the numbers rise strictly, and are above this one
abbrev pub Rises : ℕ → List ℕ → Type 0
Rises low [] = Unit {0}
Rises low (n ∷ ns) = (low < n) × Rises n ns

-- each number is above this one
abbrev pub AreAbove : ℕ → List ℕ → Type 0
AreAbove low [] = Unit {0}
AreAbove low (n ∷ ns) = (low < n) × AreAbove low ns

-- each number is below this one
abbrev pub AreBelow : ℕ → List ℕ → Type 0
AreBelow top [] = Unit {0}
AreBelow top (n ∷ ns) = (n < top) × AreBelow top ns

-- each number is less than the window above the first
abbrev pub AreNear : ℕ → List ℕ → Type 0
AreNear window [] = Unit {0}
AreNear window (n ∷ ns) = AreBelow (n + window) ns

-- i is less than the window away from j: in a window of 8 these are 1 and 8, and not 1 and 9
abbrev pub is_near : ℕ → ℕ → ℕ → Bool
is_near window i j = nat_lt i (j + window) && nat_lt j (i + window)

-- the same, where there is a j
abbrev pub is_near_any : ℕ → ℕ → Option ℕ → Bool
is_near_any window i None = true
is_near_any window i (Some j) = is_near window i j

-- the last of the numbers
abbrev pub highest_of : List ℕ → Option ℕ
highest_of [] = None
highest_of (n ∷ []) = Some n
highest_of (n ∷ m ∷ ns) = highest_of (m ∷ ns)

-- a number in its place among rising ones: 5 among 3 and 8 makes 3, 5 and 8
abbrev pub place : ℕ → List ℕ → List ℕ
place x [] = x ∷ []
place x (y ∷ ys) = if nat_lt x y then x ∷ y ∷ ys else (if y == x then y ∷ ys else y ∷ place x ys)

-- the numbers, each once, in rising order
abbrev pub rising : List ℕ → List ℕ
rising [] = []
rising (x ∷ xs) = place x (rising xs)
