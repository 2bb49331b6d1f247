-- What bytes and their parts have in common: the statements of the laws that layers above cite.
use Rattle.std.specs.Prelude.{◌≡◌, ℕ, ◌+◌, ◌*◌, ◌^◌, ◌<◌, ◌≤◌, List, [], ◌∷◌, ◌++◌, length, take, drop}
use Rattle.std.specs.Int.{w16, w32, to_be_bytes}
use Rattle.pdc_words.specs.Bytes.{AreBytes, word_at, long_at}

-- A word and its bytes say the same.
pub record WordsAreTheirBytes : Type 0 where
  -- What was written is read,
  pub word : (n : ℕ) → n < 2 ^ 16 → word_at (to_be_bytes w16 n) 0 ≡ n
  pub long : (n : ℕ) → n < 2 ^ 32 → long_at (to_be_bytes w32 n) 0 ≡ n
  -- and what is read is written again.
  pub word_again : (bytes : List ℕ) (place : ℕ) → AreBytes bytes → place + 2 ≤ length bytes → to_be_bytes w16 (word_at bytes place) ≡ take 2 (drop place bytes)
  pub long_again : (bytes : List ℕ) (place : ℕ) → AreBytes bytes → place + 4 ≤ length bytes → to_be_bytes w32 (long_at bytes place) ≡ take 4 (drop place bytes)
  -- These are the bytes, most significant first.
  pub word_of : (high low : ℕ) → high < 256 → low < 256 → to_be_bytes w16 (256 * high + low) ≡ high ∷ low ∷ []
  pub long_of : (a b c d : ℕ) → a < 256 → b < 256 → c < 256 → d < 256 → to_be_bytes w32 (65536 * (256 * a + b) + (256 * c + d)) ≡ a ∷ b ∷ c ∷ d ∷ []
  -- Whatever the number is, bytes are written.
  pub word_bytes : (n : ℕ) → AreBytes (to_be_bytes w16 n)
  pub long_bytes : (n : ℕ) → AreBytes (to_be_bytes w32 n)

-- A part has the bytes and the words that stand there in the whole.
pub record PartsKeepTheirWords : Type 0 where
  -- Joined bytes: what stands in the front,
  pub word_in_front : (front rest : List ℕ) (place : ℕ) → place + 2 ≤ length front → word_at (front ++ rest) place ≡ word_at front place
  pub long_in_front : (front rest : List ℕ) (place : ℕ) → place + 4 ≤ length front → long_at (front ++ rest) place ≡ long_at front place
  -- and what stands behind it.
  pub word_behind : (front rest : List ℕ) (place : ℕ) → word_at (front ++ rest) (length front + place) ≡ word_at rest place
  pub long_behind : (front rest : List ℕ) (place : ℕ) → long_at (front ++ rest) (length front + place) ≡ long_at rest place
  -- The same of the first n bytes, and of those behind them.
  pub word_in_take : (n : ℕ) (bytes : List ℕ) (place : ℕ) → place + 2 ≤ n → word_at (take n bytes) place ≡ word_at bytes place
  pub long_in_take : (n : ℕ) (bytes : List ℕ) (place : ℕ) → place + 4 ≤ n → long_at (take n bytes) place ≡ long_at bytes place
  pub word_in_drop : (n : ℕ) (bytes : List ℕ) (place : ℕ) → word_at (drop n bytes) place ≡ word_at bytes (n + place)
  pub long_in_drop : (n : ℕ) (bytes : List ℕ) (place : ℕ) → long_at (drop n bytes) place ≡ long_at bytes (n + place)
  -- Parts of bytes are bytes, and so are bytes joined.
  pub bytes_in_take : (n : ℕ) (bytes : List ℕ) → AreBytes bytes → AreBytes (take n bytes)
  pub bytes_in_drop : (n : ℕ) (bytes : List ℕ) → AreBytes bytes → AreBytes (drop n bytes)
  pub bytes_joined : (front rest : List ℕ) → AreBytes front → AreBytes rest → AreBytes (front ++ rest)
  -- Bytes that were joined come apart again where the lengths agree.
  pub apart : (front other rest more : List ℕ) → length front ≡ length other → front ++ rest ≡ other ++ more → (front ≡ other) × (rest ≡ more)
