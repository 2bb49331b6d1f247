-- The counts of a mark: how they may be raised, in which order they stand, and their bytes.
use Rattle.std.specs.Prelude.{◌≡◌, ℕ, ◌+◌, ◌*◌, ◌<◌, ◌≤◌, max, Bool, List, [], ◌∷◌, length, slice_index}
use Rattle.std.specs.Ordering.{is_lt, nat_cmp}
use Rattle.std.specs.Cmp.Lexicographic.{slice_cmp}
use Rattle.std.specs.Int.{w16, to_be_bytes}
use Rattle.std.specs.List.{flat_map}
use Rattle.pdc_mark.specs.declared.layout.TheConstants.{COUNTS}

-- counts may be raised to these: none of them is lower, and one is greater
pub record IsRaise (old new : List ℕ) : Type 0 where
  pub none_lower : (i : ℕ) → slice_index old i ≤ slice_index new i
  pub one_greater : (i : ℕ) × (slice_index old i < slice_index new i)

-- each is the greater of two
pub record IsGreater (counts others greater : List ℕ) : Type 0 where
  pub size : length greater ≡ COUNTS
  pub each : (i : ℕ) → slice_index greater i ≡ max (slice_index counts i) (slice_index others i)

-- for each count the greater of two; where there are more of one, those
abbrev pub raised_to : List ℕ → List ℕ → List ℕ
raised_to [] others = others
raised_to (n ∷ ns) [] = n ∷ ns
raised_to (n ∷ ns) (m ∷ ms) = max n m ∷ raised_to ns ms

-- these are lower: of the first that differ, the one here is
unfoldable pub are_below : List ℕ → List ℕ → Bool
are_below counts others = is_lt (slice_cmp nat_cmp counts others)

-- two bytes a count, most significant first: 1 and 258 are 00 01 01 02
unfoldable pub count_bytes : List ℕ → List ℕ
count_bytes counts = flat_map (to_be_bytes w16) counts

-- the counts that such bytes say
abbrev pub counts_of : List ℕ → List ℕ
counts_of [] = []
counts_of (high ∷ []) = []
counts_of (high ∷ low ∷ rest) = (high * 256 + low) ∷ counts_of rest
