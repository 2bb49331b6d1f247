-- The index: under which bucket a frame is found again, and what holds of all that were sent.
use Rattle.std.specs.Prelude.{◌≡◌, ℕ, ◌+◌, ◌-◌, ◌*◌, ◌%◌, ◌<◌, Bool, true, List, [], length, map, nat_lt, if◌then◌else◌, slice_index, slice_index_or, Some, refl, ◌∷◌}
use Rattle.std.specs.List.{Contains, slice_get}
use Rattle.pdc_frame.specs.declared.limits.TheConstants.{MAX_SIZE}
use Rattle.pdc_life.specs.declared.given.Settings.{Settings}
use Rattle.pdc_life.specs.declared.pmu.Pmu.{Pmu}
use Rattle.pdc_history.specs.declared.buckets.TheConstants.{BUCKETS, SPREAD}
use Rattle.pdc_history.specs.declared.key.Key.{Key}
use Rattle.pdc_history.specs.declared.key.Key.TheVariants.{Count, Instant}
use Rattle.pdc_history.specs.Chains.{ChainsView}
use Rattle.pdc_history.specs.SentFrames.{FramesView}
use Rattle.pdc_history.specs.Told.{Tells}

-- the bucket of a frame by its bytes: its check word, the last two of them
abbrev pub bucket_of : List ℕ → ℕ
bucket_of bytes =
    if nat_lt (length bytes) 2 then 0 else 256 * slice_index bytes (length bytes - 2) + slice_index bytes (length bytes - 1)

abbrev pub number_of : Key → ℕ
number_of (Instant i) = i % BUCKETS
number_of (Count n) = n

-- the bucket of a frame by what it tells of the PMU with this stream
abbrev pub bucket_under : (stream : ℕ) → Key → ℕ
bucket_under stream key = (number_of key + stream * SPREAD) % BUCKETS

-- Worked: a frame whose check word is 2623 is in bucket 9763. What PMU 11 tells under count 1 is 16 buckets from what it tells under
-- count 17, and 4099 from what PMU 12 tells under count 1.
pub check_word_2623 : bucket_of (170 ∷ 2 ∷ 38 ∷ 35 ∷ []) ≡ 9763
check_word_2623 = refl

pub count_1_of_11 : bucket_under 11 (Count 1) ≡ 45090
count_1_of_11 = refl

pub count_17_of_11 : bucket_under 11 (Count 17) ≡ 45106
count_17_of_11 = refl

pub count_1_of_12 : bucket_under 12 (Count 1) ≡ 49189
count_1_of_12 = refl

-- Each frame that tells something of a PMU is in the bucket of that; and under one key a PMU told one thing.
pub record IsIndexed (settings : Settings) (frames : List (List ℕ)) (keys : List ℕ) : Type 0 where
  pub len : length keys ≡ length frames
  pub keyed :
      (n p : ℕ) (pmu : Pmu) (key : Key) (x : List ℕ) → n < length frames → slice_get settings.pmus.items p ≡ Some pmu →
      Tells settings pmu (slice_index_or frames n []) key x → slice_index keys n ≡ bucket_under pmu.stream.value key
  pub one :
      (p : ℕ) (pmu : Pmu) (a b : List ℕ) (key : Key) (x y : List ℕ) → slice_get settings.pmus.items p ≡ Some pmu → Contains frames a →
      Contains frames b → Tells settings pmu a key x → Tells settings pmu b key y → x ≡ y

-- The same of one frame more, in this bucket.
pub record Fits (settings : Settings) (frames : List (List ℕ)) (bytes : List ℕ) (bucket : ℕ) : Type 0 where
  pub keyed :
      (p : ℕ) (pmu : Pmu) (key : Key) (x : List ℕ) → slice_get settings.pmus.items p ≡ Some pmu → Tells settings pmu bytes key x →
      bucket ≡ bucket_under pmu.stream.value key
  pub alone :
      (p : ℕ) (pmu : Pmu) (key : Key) (x y : List ℕ) → slice_get settings.pmus.items p ≡ Some pmu → Tells settings pmu bytes key x →
      Tells settings pmu bytes key y → x ≡ y
  pub one :
      (p : ℕ) (pmu : Pmu) (other : List ℕ) (key : Key) (x y : List ℕ) → slice_get settings.pmus.items p ≡ Some pmu → Contains frames other →
      Tells settings pmu bytes key x → Tells settings pmu other key y → x ≡ y

-- There is room for one frame more of the most bytes.
pub record HaveRoom (frames : FramesView) (by_bytes by_key : ChainsView) : Type 0 where
  pub place : 0 < frames.places
  pub bytes : MAX_SIZE < frames.room + 1
  pub first : 0 < by_bytes.slots
  pub second : 0 < by_key.slots

-- What holds of the parts.
pub record AreKept (settings : Settings) (frames : FramesView) (by_bytes by_key : ChainsView) (reserved : Bool) : Type 0 where
  pub by_check : by_bytes.keys ≡ map bucket_of frames.frames
  pub indexed : IsIndexed settings frames.frames by_key.keys
  pub check_words : by_bytes.buckets ≡ BUCKETS
  pub key_buckets : by_key.buckets ≡ BUCKETS + 1
  pub room : reserved ≡ true → HaveRoom frames by_bytes by_key
