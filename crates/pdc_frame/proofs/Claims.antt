-- A frame whose check word is right, or not, by what stands before its payload.
use Rattle.std.proofs.Common.{◌≡◌, ◌⊎◌, ℕ, ◌+◌, ◌-◌, ◌*◌, ◌<◌, ◌++◌, List, ap, arith, drop, length, sym, take, ◌∙◌}
use Rattle.std.specs.Prelude.{slice_index}
use Rattle.std.proofs.lemmas.Bool.{eqb-false, eqb-true}
use Rattle.std.proofs.lemmas.List.{get_or-drop}
use Rattle.std.proofs.Math.Seq.{take-add}
use Rattle.pdc_words.specs.Bytes.{AreBytes, word_at}
use Rattle.pdc_words.specs.CheckWord.{check_word_of}
use Rattle.pdc_frame.specs.Claim.{Claims}
use Rattle.pdc_frame.specs.Frame.{IsSized, check_in, fields_in, number_of}
use Rattle.pdc_frame.specs.declared.frame.Kind.{Kind}
use Rattle.pdc_frame.proofs.Places.{IsFrame-checked}

-- the first word of what stands behind so many bytes
pub word_in_front : (more bytes : List ℕ) (n : ℕ) → more ≡ drop n bytes → word_at more 0 ≡ word_at bytes n
word_in_front more bytes n e =
    let start : n + 0 ≡ n = omega arith in
    let high : slice_index more 0 ≡ slice_index bytes n = ap (λ (xs : List ℕ). slice_index xs 0) e ∙ get_or-drop n bytes 0 0 ∙ ap (slice_index bytes) start in
    let low : slice_index more 1 ≡ slice_index bytes (n + 1) = ap (λ (xs : List ℕ). slice_index xs 1) e ∙ get_or-drop n bytes 1 0 in
    omega (arith, high, low)

pub claims_of : (bytes : List ℕ) (kind : Kind) (version : ℕ) (header : List ℕ) (check : ℕ) → AreBytes bytes → IsSized bytes
    → slice_index bytes 1 ≡ 16 * number_of kind + version → (version ≡ 1) ⊎ (version ≡ 2) → 0 < word_at bytes 4 → word_at bytes 4 < 65535
    → header ≡ take 14 bytes → check ≡ check_in bytes → Claims bytes (fields_in kind version bytes) (record { header = header; check = check })
claims_of bytes kind version header check fits sized second known low high front is =
    let m : ℕ = length bytes - 16 in
    let payload : List ℕ = take m (drop 14 bytes) in
    let len : length bytes - 2 ≡ 14 + m = omega (arith, sized.0.0) in
    let before : take (length bytes - 2) bytes ≡ header ++ payload = ap (λ (n : ℕ). take n bytes) len ∙ take-add 14 m bytes ∙ ap (λ (xs : List ℕ). xs ++ payload) (sym front) in
    let computed : check_word_of (take (length bytes - 2) bytes) ≡ check_word_of (header ++ payload) = ap check_word_of before in
    record {
      right = λ e. IsFrame-checked bytes kind version fits (sized, sym is ∙ sym (eqb-true (check_word_of (header ++ payload)) check e) ∙ sym computed) second known low high;
      wrong = λ e. (sized, λ same. eqb-false (check_word_of (header ++ payload)) check e (sym computed ∙ sym same ∙ sym is));
    }
