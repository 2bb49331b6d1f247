-- Whether bytes are a data frame can be told: its fields are what stands in their places.
use Rattle.std.proofs.Common.{◌%◌, ◌*◌, ◌++◌, ◌+◌, ◌-◌, ◌/◌, ◌<◌, ◌^◌, ◌∙◌, ◌≡◌, ap, arith, drop, inl, inr, length, length-append, List, refl, Some, subst, sym, take, ℕ}
use Rattle.pdc_world.proofs.HeadlineNames.{◌↔◌, ◌⊎◌, AreBytes, before_check, Cfg2, check_word_of, DataFrame, Fields, fields_in, Fits, instant_of, IsData, IsFrame, IsInstant, Kind, long_at, number_of, slice_index, spelling_of, Stream, take-append_seam, to_be_bytes, w16, word_at}
use Rattle.pdc_world.proofs.Told.{are_below, both, either, is_below, is_list, is_number, is_some_number, IsTold, likewise}

word_again : (n : ℕ) → n < 2 ^ 16 → n ≡ 256 * (n / 256 % 256) + n % 256
word_again n h = omega (arith, h)

version_again : (k v : ℕ) → (v ≡ 1) ⊎ (v ≡ 2) → v ≡ (16 * k + v) % 16
version_again k v (inl e) = omega (arith, e)
version_again k v (inr e) = omega (arith, e)

payload_again : (f : Fields) → f.payload ≡ take (length (spelling_of f) - 16) (drop 14 (spelling_of f))
payload_again f =
    let check : List ℕ = to_be_bytes w16 (check_word_of (before_check f)) in
    let len : length (spelling_of f) - 16 ≡ length f.payload = omega (arith, length-append f.payload check) in
    sym (ap (λ (k : ℕ). take k (f.payload ++ check)) len ∙ take-append_seam f.payload check)

pub stands_there : (f : Fields) → Fits f → f ≡ fields_in f.kind (slice_index (spelling_of f) 1 % 16) (spelling_of f)
stands_there f fits =
    let version : f.version ≡ slice_index (spelling_of f) 1 % 16 = version_again (number_of f.kind) f.version fits.version in
    let id : f.id ≡ word_at (spelling_of f) 4 = omega (arith, fits.id_high) in
    let soc : f.soc ≡ long_at (spelling_of f) 6 = omega (arith, fits.soc) in
    let whole : f.quality * 2 ^ 24 + f.frac ≡ long_at (spelling_of f) 10 = omega (arith, fits.quality, fits.frac) in
    let quality : f.quality ≡ long_at (spelling_of f) 10 / 2 ^ 24 = omega (arith, whole, fits.frac) in
    let frac : f.frac ≡ long_at (spelling_of f) 10 % 2 ^ 24 = omega (arith, whole, fits.frac) in
    let payload : f.payload ≡ take (length (spelling_of f) - 16) (drop 14 (spelling_of f)) = payload_again f in
    λ i. record { kind = f.kind; version = version i; id = id i; soc = soc i; quality = quality i; frac = frac i; payload = payload i }

-- what stands in the places of a data frame
abbrev pub data_in : List ℕ → Fields
data_in bytes = fields_in DataFrame (slice_index bytes 1 % 16) bytes

-- and of a CFG-2 frame
abbrev pub config_in : List ℕ → Fields
config_in bytes = fields_in Cfg2 (slice_index bytes 1 % 16) bytes

pub frame_stands_there : (kind : Kind) (bytes : List ℕ) (f : Fields) → IsFrame bytes f → f.kind ≡ kind → f ≡ fields_in kind (slice_index bytes 1 % 16) bytes
frame_stands_there kind bytes f is same =
    stands_there f is.fits
    ∙ ap (λ (k : Kind). fields_in k (slice_index (spelling_of f) 1 % 16) (spelling_of f)) same
    ∙ ap (λ (b : List ℕ). fields_in kind (slice_index b 1 % 16) b) (sym is.spelled)

abbrev FrameParts : List ℕ → Fields → Type 0
FrameParts bytes f =
    (bytes ≡ spelling_of f) × (((f.version ≡ 1) ⊎ (f.version ≡ 2)) × ((0 < f.id) × ((f.id < 65535) × ((f.soc < 2 ^ 32) × ((f.quality < 2 ^ 8) × ((f.frac < 2 ^ 24)
    × ((length f.payload + 16 < 2 ^ 16) × AreBytes f.payload)))))))

frame_of_parts : (bytes : List ℕ) (f : Fields) → FrameParts bytes f → IsFrame bytes f
frame_of_parts bytes f (spelled, (version, (low, (high, (soc, (quality, (frac, (size, bytes_fit)))))))) = record {
  fits = record { version = version; id_low = low; id_high = high; soc = soc; quality = quality; frac = frac; size = size; bytes = bytes_fit };
  spelled = spelled;
}

parts_of_frame : (bytes : List ℕ) (f : Fields) → IsFrame bytes f → FrameParts bytes f
parts_of_frame bytes f k = (k.spelled, (k.fits.version, (k.fits.id_low, (k.fits.id_high, (k.fits.soc, (k.fits.quality, (k.fits.frac, (k.fits.size, k.fits.bytes))))))))

pub is_frame : (bytes : List ℕ) (f : Fields) → IsTold (IsFrame bytes f)
is_frame bytes f =
    likewise
    (both (is_list bytes (spelling_of f)) (both (either (is_number f.version 1) (is_number f.version 2)) (both (is_below 0 f.id) (both (is_below f.id 65535)
    (both (is_below f.soc (2 ^ 32)) (both (is_below f.quality (2 ^ 8)) (both (is_below f.frac (2 ^ 24)) (both (is_below (length f.payload + 16) (2 ^ 16))
    (are_below 256 f.payload (omega arith)))))))))) (frame_of_parts bytes f) (parts_of_frame bytes f)

-- `instant_of` computes the instant of a tag
abbrev pub TagsAreComputed : Type 0
TagsAreComputed = (soc frac time_base rate i : ℕ) → (instant_of soc frac time_base rate ≡ Some i) ↔ IsInstant soc frac time_base rate i

-- That much of the bytes makes them data of the stream for this instant.
abbrev pub IsDataThere : Stream → List ℕ → ℕ → Type 0
IsDataThere stream bytes i =
    IsFrame bytes (data_in bytes) × ((word_at bytes 4 ≡ stream.id) × (instant_of (data_in bytes).soc (data_in bytes).frac stream.time_base stream.rate ≡ Some i))

pub same_data : (stream : Stream) (bytes : List ℕ) (i quality : ℕ) (payload : List ℕ) (d : IsData stream bytes i quality payload) → d.fields ≡ data_in bytes
same_data stream bytes i quality payload d = frame_stands_there DataFrame bytes d.fields d.of_stream.frame d.kind

pub there_of_data : TagsAreComputed → (stream : Stream) (bytes : List ℕ) (i quality : ℕ) (payload : List ℕ) → IsData stream bytes i quality payload → IsDataThere stream bytes i
there_of_data T stream bytes i quality payload d =
    let same : d.fields ≡ data_in bytes = same_data stream bytes i quality payload d in (
      subst (IsFrame bytes) same d.of_stream.frame,
      (
        sym (ap (λ (f : Fields). f.id) same) ∙ d.of_stream.id,
        (T (data_in bytes).soc (data_in bytes).frac stream.time_base stream.rate i).1 (subst (λ (f : Fields). IsInstant f.soc f.frac stream.time_base stream.rate i) same d.tag),
      ),
    )

pub data_there : TagsAreComputed → (stream : Stream) (bytes : List ℕ) (i : ℕ) → IsDataThere stream bytes i → IsData stream bytes i (data_in bytes).quality (data_in bytes).payload
data_there T stream bytes i k = record {
  fields = data_in bytes;
  of_stream = record { frame = k.0; id = k.1.0 };
  kind = refl;
  same_quality = refl;
  same_payload = refl;
  tag = (T (data_in bytes).soc (data_in bytes).frac stream.time_base stream.rate i).0 k.1.1;
}

pub is_data_there : (stream : Stream) (bytes : List ℕ) (i : ℕ) → IsTold (IsDataThere stream bytes i)
is_data_there stream bytes i =
    both (is_frame bytes (data_in bytes))
    (both (is_number (word_at bytes 4) stream.id) (is_some_number (instant_of (data_in bytes).soc (data_in bytes).frac stream.time_base stream.rate) i))
