-- What holds of the words that bytes write.
use Rattle.std.specs.Prelude.{◌≡◌, ℕ, ◌*◌, List, drop, length, take}
use Rattle.pdc_cfg.specs.pdc_frame.Bytes.{AreBytes}
use Rattle.pdc_block.specs.Block.{AreWords, bytes_of_words, words_in}

-- twice as many bytes write these words, each fits, and the bytes are their spelling
pub record WordsOfBytes : Type 0 where
  pub count : (bytes : List ℕ) (n : ℕ) → length bytes ≡ 2 * n → length (words_in bytes) ≡ n
  pub fit : (bytes : List ℕ) → AreBytes bytes → AreWords (words_in bytes)
  pub spell : (bytes : List ℕ) (n : ℕ) → AreBytes bytes → length bytes ≡ 2 * n → bytes ≡ bytes_of_words (words_in bytes)

-- the words of a front are a front of the words, and those behind it are behind
pub record WordsAreCut : Type 0 where
  pub before : (n : ℕ) (bytes : List ℕ) → words_in (take (2 * n) bytes) ≡ take n (words_in bytes)
  pub behind : (n : ℕ) (bytes : List ℕ) → words_in (drop (2 * n) bytes) ≡ drop n (words_in bytes)
