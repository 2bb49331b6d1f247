-- What whole frames have in their first places.
use Rattle.std.proofs.Common.{◌≡◌, ◌⊎◌, inl, inr, ℕ, ◌+◌, ◌*◌, ◌<◌, List, [], ◌∷◌, length, refl, sym, ap, subst, ◌∙◌, arith}
use Rattle.std.specs.Prelude.{slice_index}
use Rattle.std.specs.Int.{w16, to_be_bytes}
use Rattle.pdc_frame.specs.declared.frame.Kind.{Kind}
use Rattle.pdc_frame.specs.declared.frame.Kind.TheVariants.{DataFrame, HeaderFrame, Cfg1, Cfg2, CommandFrame, Cfg3}
use Rattle.pdc_words.specs.Bytes.{AreBytes, word_at}
use Rattle.pdc_words.specs.CheckWord.{check_word_of}
use Rattle.pdc_frame.specs.Frame.{Fields, Fits, fields_in, number_of, before_check, spelling_of, IsFrame, IsSync, IsSized, IsChecked}
use Rattle.pdc_frame.specs.Stream.{IsWhole}
use Rattle.pdc_words.proofs.Cells.{AreBytes-cons, AreBytes-append}
use Rattle.pdc_frame.proofs.Places.{check-spelled, IsFrame-checked}
use Rattle.pdc_frame.proofs.Framed.{length-spelling_of}

number_of-below : (k : Kind) → number_of k < 6
number_of-below DataFrame = omega arith
number_of-below HeaderFrame = omega arith
number_of-below Cfg1 = omega arith
number_of-below Cfg2 = omega arith
number_of-below CommandFrame = omega arith
number_of-below Cfg3 = omega arith

-- SYNC by the kind and the version that its bytes have
pub sync_of : (first second : ℕ) (k : Kind) (v : ℕ) → first ≡ 170 → second ≡ 16 * number_of k + v → (v ≡ 1) ⊎ (v ≡ 2) → IsSync first second
sync_of first second k v first-is second-is (inl e) = record { first_byte = first-is; kind = omega (arith, number_of-below k); version = inl (omega arith) }
sync_of first second k v first-is second-is (inr e) = record { first_byte = first-is; kind = omega (arith, number_of-below k); version = inr (omega arith) }

pub whole-sized : (bytes : List ℕ) (f : Fields) → IsFrame bytes f → IsSized bytes
whole-sized bytes f h =
    let len : length bytes ≡ length f.payload + 16 = ap length h.spelled ∙ length-spelling_of f in
    let size : word_at (spelling_of f) 2 ≡ length f.payload + 16 = omega (arith, h.fits.size) in (
      (omega arith, subst (λ (xs : List ℕ). IsSync (slice_index xs 0) (slice_index xs 1)) (sym h.spelled) (sync_of 170 (16 * number_of f.kind + f.version) f.kind f.version refl refl h.fits.version)),
      ap (λ (xs : List ℕ). word_at xs 2) h.spelled ∙ size ∙ sym len,
    )

pub id-spelled : (bytes : List ℕ) (f : Fields) → IsFrame bytes f → word_at bytes 4 ≡ f.id
id-spelled bytes f h =
    let id : word_at (spelling_of f) 4 ≡ f.id = omega (arith, h.fits.id_high) in
    ap (λ (xs : List ℕ). word_at xs 4) h.spelled ∙ id

record Bytes (xs : List ℕ) : Type 0 where
  all : AreBytes xs

Bytes-cons : {x : ℕ} {xs : List ℕ} → x < 256 → Bytes xs → Bytes (x ∷ xs)
Bytes-cons {x = x} {xs = xs} lt h = record { all = AreBytes-cons x xs lt h.all }

Bytes-nil : Bytes []
Bytes-nil = record { all = λ i. omega arith }

pub AreBytes-spelling : (f : Fields) → Fits f → AreBytes (spelling_of f)
AreBytes-spelling f h =
    let second : 16 * number_of f.kind + f.version < 256 = elim h.version [ inl e ↦ omega (arith, number_of-below f.kind) | inr e ↦ omega (arith, number_of-below f.kind) ] in
    let cks : Bytes (to_be_bytes w16 (check_word_of (before_check f))) = Bytes-cons (omega arith) (Bytes-cons (omega arith) Bytes-nil) in
    let whole : Bytes (spelling_of f) = Bytes-cons (omega arith) (Bytes-cons second (Bytes-cons (omega arith) (Bytes-cons (omega arith) (Bytes-cons (omega arith) (Bytes-cons (omega arith) (
    Bytes-cons (omega arith) (Bytes-cons (omega arith) (Bytes-cons (omega arith) (Bytes-cons (omega arith) (Bytes-cons (omega arith) (Bytes-cons (omega arith) (
    Bytes-cons (omega arith) (Bytes-cons (omega arith) (
    record { all = AreBytes-append f.payload (to_be_bytes w16 (check_word_of (before_check f))) h.bytes cks.all })))))))))))))) in
    whole.all

pub whole-checked : (bytes : List ℕ) (f : Fields) → IsFrame bytes f → IsChecked bytes
whole-checked bytes f h = (whole-sized bytes f h, check-spelled bytes f (subst AreBytes (sym h.spelled) (AreBytes-spelling f h.fits)) h.spelled)

-- a frame's fields stand in their places
pub whole-fields : (bytes : List ℕ) (kind : Kind) (version : ℕ) → AreBytes bytes → IsWhole bytes → slice_index bytes 1 ≡ 16 * number_of kind + version → (version ≡ 1) ⊎ (version ≡ 2)
    → IsFrame bytes (fields_in kind version bytes)
whole-fields bytes kind version fits (f, h) second known =
    let id : word_at bytes 4 ≡ f.id = id-spelled bytes f h in
    IsFrame-checked bytes kind version fits (whole-checked bytes f h) second known (omega (arith, id, h.fits.id_low)) (omega (arith, id, h.fits.id_high))
