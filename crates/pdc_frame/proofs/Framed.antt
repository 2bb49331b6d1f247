-- A frame written in parts.
use Rattle.std.proofs.Common.{◌≡◌, ◌⊎◌, inl, inr, ℕ, ◌+◌, ◌*◌, ◌^◌, ◌<◌, ◌≤◌, List, ◌∷◌, ◌++◌, length, drop, refl, ap, ◌∙◌, append_assoc, arith, length-append}
use Rattle.std.proofs.Math.Seq.{drop-append_seam}
use Rattle.std.specs.Int.{w16, w32, to_be_bytes}
use Rattle.pdc_words.specs.CheckWord.{check_word_of}
use Rattle.std.proofs.lemmas.Bool.{cases_lt}
use Rattle.pdc_frame.specs.declared.frame.Frame.{Frame}
use Rattle.pdc_words.specs.Bytes.{AreBytes}
use Rattle.pdc_frame.specs.Frame.{Fields, fields_of, number_of, header_of, before_check, spelling_of, IsFrame}
use Rattle.pdc_frame.specs.declared.frame.Kind.{Kind}
use Rattle.pdc_frame.specs.declared.frame.Kind.TheVariants.{DataFrame, HeaderFrame, Cfg1, Cfg2, CommandFrame, Cfg3}
use Rattle.pdc_words.proofs.Cells.{AreBytes-cons, AreBytes-append, word_bytes, long_bytes}

-- what stands before a payload, the payload, and CHK over both
pub framed : (old header payload middle new : List ℕ) (start : ℕ) → start ≡ length old → middle ≡ (old ++ header) ++ payload → new ≡ middle ++ to_be_bytes w16 (check_word_of (drop start middle))
    → new ≡ old ++ ((header ++ payload) ++ to_be_bytes w16 (check_word_of (header ++ payload)))
framed old header payload middle new start at middle-is new-is =
    let whole : middle ≡ old ++ (header ++ payload) = middle-is ∙ append_assoc old header payload in
    let behind : drop start middle ≡ header ++ payload = ap (λ (n : ℕ). drop n middle) at ∙ ap (drop (length old)) whole ∙ drop-append_seam old (header ++ payload) in
    let check : List ℕ = to_be_bytes w16 (check_word_of (header ++ payload)) in
    new-is ∙ ap (λ (xs : List ℕ). middle ++ to_be_bytes w16 (check_word_of xs)) behind ∙ ap (λ (xs : List ℕ). xs ++ check) whole ∙ append_assoc old (header ++ payload) check

-- what a frame takes
pub length-spelling_of : (f : Fields) → length (spelling_of f) ≡ length f.payload + 16
length-spelling_of f = omega (arith, length-append (before_check f) (to_be_bytes w16 (check_word_of (before_check f))))

-- a version that is read is 1 or 2
known_version : (version : ℕ) → 0 < version → version ≤ 2 → (version ≡ 1) ⊎ (version ≡ 2)
known_version version low high = elim (cases_lt version 2) [ inl lt ↦ inl (omega arith) | inr le ↦ inr (omega arith) ]

-- the spelling of a frame is read back: its type keeps the ranges
pub writable : (frame : Frame) → frame.soc < 2 ^ 32 → frame.quality < 2 ^ 8 → AreBytes frame.payload.now → IsFrame (spelling_of (fields_of frame)) (fields_of frame)
writable frame soc quality bytes = record {
  fits = record {
    version = known_version frame.version frame.version_low frame.version_high;
    id_low = frame.id.low;
    id_high = omega (arith, frame.id.high);
    soc = soc;
    quality = quality;
    frac = omega (arith, frame.frac_fits);
    size = omega (arith, frame.payload_fits);
    bytes = bytes;
  };
  spelled = refl;
}

-- what stands before a payload are bytes
number_small : (kind : Kind) → number_of kind < 6
number_small DataFrame = omega arith
number_small HeaderFrame = omega arith
number_small Cfg1 = omega arith
number_small Cfg2 = omega arith
number_small CommandFrame = omega arith
number_small Cfg3 = omega arith

pub header_is_bytes : (frame : Frame) (size : ℕ) → AreBytes (header_of (fields_of frame) size)
header_is_bytes frame size =
    let f : Fields = fields_of frame in
    let fracsec : List ℕ = to_be_bytes w32 (f.quality * 2 ^ 24 + f.frac) in
    let soc : List ℕ = to_be_bytes w32 f.soc ++ fracsec in
    let id : List ℕ = to_be_bytes w16 f.id ++ soc in
    let sized : List ℕ = to_be_bytes w16 size ++ id in
    AreBytes-cons 170 ((16 * number_of f.kind + f.version) ∷ sized) (omega arith) (AreBytes-cons (16 * number_of f.kind + f.version) sized (omega (arith, number_small frame.kind, frame.version_high))
    (AreBytes-append (to_be_bytes w16 size) id (word_bytes size) (AreBytes-append (to_be_bytes w16 f.id) soc (word_bytes f.id)
    (AreBytes-append (to_be_bytes w32 f.soc) fracsec (long_bytes f.soc) (long_bytes (f.quality * 2 ^ 24 + f.frac))))))
