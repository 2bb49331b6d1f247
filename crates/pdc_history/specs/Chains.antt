-- Numbers in buckets: each number from 0 on is in one bucket, and from the last number of a bucket one goes down to the first.
use Rattle.std.specs.Prelude.{◌≡◌, ℕ, ◌<◌, List, length, map, slice_index, slice_index_or, Option, None, Some}
use Rattle.pdc_history.specs.declared.chains.Entry.{Entry}

-- how many buckets there are, the bucket of each number, and for how many more there is memory
pub record ChainsView : Type 0 where
  pub buckets : ℕ
  pub keys : List ℕ
  pub slots : ℕ

abbrev pub keys_of : List Entry → List ℕ
keys_of entries = map (λ (entry : Entry). entry.bucket) entries

-- This is the last number below another one that is in the bucket, if there is one.
abbrev pub IsLastBelow : (keys : List ℕ) (bucket below : ℕ) → Option ℕ → Type 0
IsLastBelow keys bucket below None = (n : ℕ) → n < below → slice_index keys n ≡ bucket → ⊥
IsLastBelow keys bucket below (Some m) =
    (m < below) × (slice_index keys m ≡ bucket) × ((n : ℕ) → m < n → n < below → slice_index keys n ≡ bucket → ⊥)

-- The last of each bucket is known, and before each number the last one in its bucket.
pub record AreChains (lasts : List (Option ℕ)) (entries : List Entry) : Type 0 where
  pub last : (b : ℕ) → b < length lasts → IsLastBelow (keys_of entries) b (length entries) (slice_index_or lasts b None)
  pub before :
      (n : ℕ) (d : Entry) → n < length entries → IsLastBelow (keys_of entries) (slice_index_or entries n d).bucket n (slice_index_or entries n d).before

-- Going down a bucket, all numbers above this one are passed; at the end, all are.
abbrev pub HavePassed : (keys : List ℕ) (bucket : ℕ) (P : ℕ → Type 0) → Option ℕ → Type 0
HavePassed keys bucket P None = (n : ℕ) → n < length keys → slice_index keys n ≡ bucket → P n
HavePassed keys bucket P (Some m) =
    (m < length keys) × (slice_index keys m ≡ bucket) × ((n : ℕ) → m < n → n < length keys → slice_index keys n ≡ bucket → P n)
