-- What holds of rising numbers.
use Rattle.std.specs.Prelude.{◌≡◌, ℕ, ◌+◌, ◌<◌, ◌≤◌, ◌++◌, Bool, true, ◌&&◌, nat_lt, List, [], ◌∷◌, filter, length, slice_index_or}
use Rattle.std.specs.List.{list_all, slice_get}
use Rattle.pdc_row.specs.Quality.{greatest}
use Rattle.pdc_row.specs.Rising.{Rises, AreAbove, AreBelow, AreNear, highest_of, is_near, is_near_any, place, rising}

-- each number is less than the window away from i, both ways
abbrev pub AreAllNear : (window i : ℕ) → List ℕ → Type 0
AreAllNear window i [] = Unit {0}
AreAllNear window i (n ∷ ns) = ((i < n + window) × (n < i + window)) × AreAllNear window i ns

-- i is below n, is n, or is above it
pub data Compared (i n : ℕ) : Type 0 where
  Below : i < n → Compared i n
  At : n ≡ i → Compared i n
  Above : n < i → Compared i n

pub record RisingLaws : Type 0 where
  -- bounds: a lower one below, and a higher one above
  pub rises_above : (low high : ℕ) (ns : List ℕ) → low ≤ high → Rises high ns → Rises low ns
  pub below_higher : (top high : ℕ) (ns : List ℕ) → top ≤ high → AreBelow top ns → AreBelow high ns
  -- one list behind the other
  pub rises_append : (low m : ℕ) (ns ms : List ℕ) → low ≤ m → Rises low ns → AreBelow (m + 1) ns → Rises m ms → Rises low (ns ++ ms)
  pub rises_front : (low : ℕ) (ns ms : List ℕ) → Rises low (ns ++ ms) → Rises low ns
  pub rises_back : (low : ℕ) (ns ms : List ℕ) → Rises low (ns ++ ms) → Rises (greatest low ns) ms
  pub below_append : (top : ℕ) (ns ms : List ℕ) → AreBelow top ns → AreBelow top ms → AreBelow top (ns ++ ms)
  -- the greatest of them
  pub greatest_ge : (low : ℕ) (ns : List ℕ) → low ≤ greatest low ns
  pub below_greatest : (low : ℕ) (ns : List ℕ) → AreBelow (greatest low ns + 1) ns
  pub greatest_append : (low : ℕ) (ns ms : List ℕ) → greatest low (ns ++ ms) ≡ greatest (greatest low ns) ms
  -- by place
  pub rises_order : (low : ℕ) (ns : List ℕ) (i j : ℕ) → Rises low ns → i < j → j < length ns → slice_index_or ns i 0 < slice_index_or ns j 0
  -- a number in its place
  pub compared : (i n : ℕ) → Compared i n
  pub place_lower : (i n : ℕ) (ns : List ℕ) → i < n → place i (n ∷ ns) ≡ i ∷ n ∷ ns
  pub place_same : (i n : ℕ) (ns : List ℕ) → n ≡ i → place i (n ∷ ns) ≡ n ∷ ns
  pub place_higher : (i n : ℕ) (ns : List ℕ) → n < i → place i (n ∷ ns) ≡ n ∷ place i ns
  pub rises_place : (low i : ℕ) (ns : List ℕ) → Rises low ns → low < i → Rises low (place i ns)
  -- those that a test leaves, and any numbers in rising order
  pub above_filter : (low : ℕ) (ns : List ℕ) → AreAbove low (filter (λ i. nat_lt low i) ns)
  pub rises_rising : (low : ℕ) (ns : List ℕ) → AreAbove low ns → Rises low (rising ns)
  pub rises_filter : (f : ℕ → Bool) (low : ℕ) (ns : List ℕ) → Rises low ns → Rises low (filter f ns)
  -- near each other: they are no more than the window, and of rising ones the first and the last tell whether i is near each
  pub near_length : (low window : ℕ) (ns : List ℕ) → 0 < window → Rises low ns → AreNear window ns → length ns ≤ window
  pub near_tail : (low window n : ℕ) (ns : List ℕ) → Rises low (n ∷ ns) → AreNear window (n ∷ ns) → AreNear window ns
  pub all_near : (window i : ℕ) (ns : List ℕ) → list_all (is_near window i) ns ≡ true → AreAllNear window i ns
  pub near_place : (window i : ℕ) (cs os : List ℕ) → 0 < window → AreNear window (cs ++ os) → AreAllNear window i (cs ++ os) → AreNear window (cs ++ place i os)
  pub ends_near : (window i low : ℕ) (ns : List ℕ) → Rises low ns
      → (is_near_any window i (slice_get ns 0) && is_near_any window i (highest_of ns)) ≡ list_all (is_near window i) ns
