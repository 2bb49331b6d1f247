-- The own section, in parts.
use Rattle.std.proofs.Common.{◌≡◌, ℕ, ◌-◌, ◌*◌, ◌/◌, ◌%◌, ◌^◌, ◌<◌, false, List, [], ◌∷◌, ◌++◌, length, replicate, refl, sym, ap, subst, ◌∙◌, arith}
use Rattle.std.specs.Int.{w16, to_be_bytes}
use Rattle.std.specs.List.{flat_map}
use Rattle.pdc_row.specs.pdc_frame.Bytes.{AreBytes, word_at}
use Rattle.pdc_row.specs.pdc_cfg.Section.{SectionFields, IsSection, source_in, format_in, phasors_in, analogs_in, digitals_in}
use Rattle.pdc_row.specs.declared.output.Output.{Output}
use Rattle.pdc_row.specs.Layout.{own_name, own_bytes, digit, nominal_word, masks_of, stamp_words}
use Rattle.pdc_row.proofs.Bytes.{Bytes, Bytes-nil, Bytes-cons, Bytes-append, Bytes-replicate, Bytes-word, Bytes-flat_map, word_at-behind}

-- the parts in order
pub in_order : (id nominal count : ℕ) (names masks zero one two three four five six : List ℕ) → zero ≡ [] → one ≡ zero ++ own_name id
    → two ≡ one ++ to_be_bytes w16 id ++ to_be_bytes w16 0 ++ to_be_bytes w16 0 ++ to_be_bytes w16 0 ++ to_be_bytes w16 4
    → three ≡ two ++ names → four ≡ three ++ masks → five ≡ four ++ to_be_bytes w16 nominal → six ≡ five ++ to_be_bytes w16 count
    → six ≡ own_name id ++ to_be_bytes w16 id ++ to_be_bytes w16 0 ++ to_be_bytes w16 0 ++ to_be_bytes w16 0 ++ to_be_bytes w16 4 ++ names ++ masks ++ to_be_bytes w16 nominal ++ to_be_bytes w16 count
in_order id nominal count names masks zero one two three four five six a b c d e f g =
    let first : one ≡ own_name id = b ∙ ap (λ (t : List ℕ). t ++ own_name id) a in
    let numbered = c ∙ ap (λ (t : List ℕ). t ++ to_be_bytes w16 id ++ to_be_bytes w16 0 ++ to_be_bytes w16 0 ++ to_be_bytes w16 0 ++ to_be_bytes w16 4) first in
    g ∙ ap (λ (t : List ℕ). t ++ to_be_bytes w16 count) (f ∙ ap (λ (t : List ℕ). t ++ to_be_bytes w16 nominal) (e ∙ ap (λ (t : List ℕ). t ++ masks) (d ∙ ap (λ (t : List ℕ). t ++ names) numbered)))

Bytes-masks : (word : ℕ) → Bytes (masks_of word)
Bytes-masks word = Bytes-append (Bytes-word word) (Bytes-word 0xFFFF)

Bytes-digit : (n : ℕ) (xs : List ℕ) → Bytes xs → Bytes (digit n ∷ xs)
Bytes-digit n xs h = Bytes-cons (omega arith) h

Bytes-name : (id : ℕ) → Bytes (own_name id)
Bytes-name id =
    let spaces : Bytes (replicate 7 32) = Bytes-replicate 7 32 (omega arith) in
    let digits = Bytes-digit (id / 10000) _ (Bytes-digit (id / 1000) _ (Bytes-digit (id / 100) _ (Bytes-digit (id / 10) _ (Bytes-digit id _ spaces)))) in
    let letters : Bytes (80 ∷ 68 ∷ 67 ∷ 32 ∷ []) = Bytes-cons (omega arith) (Bytes-cons (omega arith) (Bytes-cons (omega arith) (Bytes-cons (omega arith) Bytes-nil))) in
    Bytes-append letters digits

-- all before CFGCNT
abbrev front_of : Output → ℕ → ℕ → List ℕ
front_of output start change =
    own_name output.id.value ++ to_be_bytes w16 output.id.value ++ to_be_bytes w16 0 ++ to_be_bytes w16 0 ++ to_be_bytes w16 0
    ++ to_be_bytes w16 4 ++ replicate (64 * 16) 32 ++ flat_map masks_of (stamp_words start change)
    ++ to_be_bytes w16 (nominal_word output.nominal)

pub Bytes-own : (output : Output) (start change : ℕ) → Bytes (own_bytes output.id.value output.nominal start change)
Bytes-own output start change =
    let numbers = Bytes-append (Bytes-append (Bytes-append (Bytes-append (Bytes-append (Bytes-name output.id.value) (Bytes-word output.id.value)) (Bytes-word 0)) (Bytes-word 0)) (Bytes-word 0)) (Bytes-word 4) in
    let masks = Bytes-append (Bytes-append numbers (Bytes-replicate (64 * 16) 32 (omega arith))) (Bytes-flat_map masks_of Bytes-masks (stamp_words start change)) in
    Bytes-append (Bytes-append masks (Bytes-word (nominal_word output.nominal))) (Bytes-word (change % 2 ^ 16))

length-front : (output : Output) (start change : ℕ) → length (front_of output start change) ≡ 1068
length-front output start change = refl

pub length-own : (output : Output) (start change : ℕ) → length (own_bytes output.id.value output.nominal start change) ≡ 1070
length-own output start change = refl

-- the own section says this
pub own_is_section : (output : Output) (start change : ℕ) (s : SectionFields) → s.bytes ≡ own_bytes output.id.value output.nominal start change
    → s.shape.phasors ≡ 0 → s.shape.analogs ≡ 0 → s.shape.digitals ≡ 4 → s.source ≡ output.id.value → s.count ≡ change % 2 ^ 16 → s.polar ≡ false → IsSection s
own_is_section output start change s bytes phasors analogs digitals source count polar =
    let low : output.id.value < 65535 = omega (arith, output.id.high) in
    let place : length s.bytes - 2 ≡ 1068 = omega (arith, ap length bytes, length-own output start change) in
    record {
      fits = subst AreBytes (sym bytes) (Bytes-own output start change).all;
      size = ap length bytes ∙ length-own output start change ∙ omega (arith, phasors, analogs, digitals);
      source = ap source_in bytes ∙ omega (arith, low, source);
      integers = ap (λ (t : List ℕ). format_in t / 2 % 8) bytes;
      polar = ap (λ (t : List ℕ). format_in t % 2) bytes ∙ rw polar refl;
      phasors = ap phasors_in bytes ∙ sym phasors;
      analogs = ap analogs_in bytes ∙ sym analogs;
      digitals = ap digitals_in bytes ∙ sym digitals;
      count = ap (word_at s.bytes) place ∙ ap (λ (t : List ℕ). word_at t 1068) bytes ∙ word_at-behind (front_of output start change) (to_be_bytes w16 (change % 2 ^ 16)) 1068 (length-front output start change) ∙ omega (arith, count);
    }
