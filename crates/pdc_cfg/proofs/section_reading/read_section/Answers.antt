use Rattle.std.proofs.Common.{◌≡◌, ℕ, zero, suc, subst, ◌-◌, ◌/◌, ◌%◌, ◌<◌, nat_eq, List, length, take, arith, ap, sym, refl, ◌∙◌}
use Rattle.std.specs.Prelude.{bit_and, if◌then◌else◌}
use Rattle.std.proofs.lemmas.Nat.{and_mask}
use Rattle.std.proofs.lemmas.List.{length-take}
use Rattle.pdc_frame.specs.Bytes.{word_at}
use Rattle.pdc_cfg.specs.Shape.{section_len_of}
use Rattle.pdc_cfg.proofs.section_reading.read_section.Goals as goal

-- the lowest bit, as a flag
flag_from_small : (n : ℕ) → n < 2 → n ≡ (if nat_eq n 1 then 1 else 0)
flag_from_small zero lt = refl
flag_from_small (suc zero) lt = refl
flag_from_small (suc (suc n)) lt = absurd (omega arith)

flag_from_bit : (n : ℕ) → n % 2 ≡ (if nat_eq (bit_and n 1) 1 then 1 else 0)
flag_from_bit n = subst (λ (m : ℕ). n % 2 ≡ (if nat_eq m 1 then 1 else 0)) (sym (and_mask n 1)) (flag_from_small (n % 2) (omega arith))

pub invariant_of-result : goal.invariant_of-result
invariant_of-result c =
    let keep = c.parts_keep_their_words.ensures in
    let bytes : List ℕ = c.args.bytes.now in
    let len : ℕ = c.section_len-len.result in
    let len-is : len ≡ section_len_of c.in-Some.shape = c.section_len-len.ensures.value in
    let whole : length (take len bytes) ≡ len = omega (arith, length-take len bytes) in
    let format : word_at (take len bytes) 18 ≡ c.read_word-format.result = keep.word_in_take len bytes 18 (omega arith) ∙ sym c.read_word-format.ensures in
    let mask : bit_and (c.read_word-format.result / 2) 7 ≡ c.read_word-format.result / 2 % 8 = and_mask (c.read_word-format.result / 2) 3 in
    record {
      whole = record {
        fits = keep.bytes_in_take len bytes (λ i. omega (arith, c.type_inv.bytes i));
        size = whole ∙ len-is;
        source = sym c.read_word.ensures;
        integers = ap (λ (x : ℕ). x / 2 % 8) format ∙ sym mask ∙ c.if-format-ne0.false;
        polar = ap (λ (x : ℕ). x % 2) format ∙ flag_from_bit c.read_word-format.result;
        phasors = keep.word_in_take len bytes 20 (omega arith) ∙ c.in-Some.ensures.0;
        analogs = keep.word_in_take len bytes 22 (omega arith) ∙ c.in-Some.ensures.1;
        digitals = keep.word_in_take len bytes 24 (omega arith) ∙ c.in-Some.ensures.2;
        count = (let e : length (take len bytes) - 2 ≡ len - 2 = omega (arith, whole) in ap (λ (k : ℕ). word_at (take len bytes) k) e ∙ sym c.read_word-2.ensures);
      };
    }
