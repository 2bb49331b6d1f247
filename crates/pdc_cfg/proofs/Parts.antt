-- A configuration written in parts.
use Rattle.std.proofs.Common.{◌≡◌, ℕ, ◌+◌, ◌*◌, ◌^◌, ◌<◌, List, [], ◌∷◌, ◌++◌, length, take, get_or, map, sym, ap, ◌∙◌, append_assoc, arith, length-append}
use Rattle.std.specs.List.{flat_map, AllByRecursion}
use Rattle.std.specs.Int.{w16, w32, to_be_bytes, cast_unsigned}
use Rattle.std.proofs.lemmas.List.{take_more, append-nil}
use Rattle.std.proofs.lemmas.Grind.{flat_map-append}
use Rattle.std.proofs.lemmas.List.Folds.{flat_map-map}
use Rattle.pdc_frame.specs.Bytes.{AreBytes}
use Rattle.pdc_frame.specs.Parts.{WordsAreTheirBytes, PartsKeepTheirWords}
use Rattle.pdc_cfg.specs.declared.section.SectionView.{SectionView}
use Rattle.pdc_cfg.specs.Section.{SectionFields, fields_of_view, IsSection}
use Rattle.pdc_cfg.specs.Config.{ConfigFields, payload_of, bytes_of_sections}

-- views are of sections, by their type
pub whole_sections : (xs : List SectionView) → AllByRecursion IsSection (map fields_of_view xs)
whole_sections [] = tt
whole_sections (x ∷ xs) = (x.whole, whole_sections xs)

-- the bytes of one more section
pub bytes_more : (xs : List SectionView) (i : ℕ) (s : SectionView) → i < length xs → s ≡ get_or xs i s
    → flat_map (λ (x : SectionView). x.bytes.now) (take (i + 1) xs) ≡ flat_map (λ (x : SectionView). x.bytes.now) (take i xs) ++ s.bytes.now
bytes_more xs i s lt e =
    ap (flat_map (λ (x : SectionView). x.bytes.now)) (take_more xs i s lt ∙ ap (λ (x : SectionView). take i xs ++ x ∷ []) (sym e))
    ∙ flat_map-append (λ (x : SectionView). x.bytes.now) (take i xs) (s ∷ []) ∙ ap (λ (t : List ℕ). flat_map (λ (x : SectionView). x.bytes.now) (take i xs) ++ t) (append-nil s.bytes.now)

-- the bytes of sections, wherever they lie
pub same_bytes : (xs : List SectionView) → bytes_of_sections (map fields_of_view xs) ≡ flat_map (λ (s : SectionView). s.bytes.now) xs
same_bytes xs = flat_map-map (λ (s : SectionFields). s.bytes) fields_of_view xs

-- what a configuration takes
pub length-payload_of : (c : ConfigFields) → length (payload_of c) ≡ 8 + length (bytes_of_sections c.sections)
length-payload_of c = omega (arith, length-append (bytes_of_sections c.sections) (to_be_bytes w16 (cast_unsigned w16 c.rate)))

-- the parts in order
pub in_parts : (front start sections rate one two three : List ℕ) → one ≡ front ++ start → two ≡ one ++ sections → three ≡ two ++ rate → three ≡ front ++ ((start ++ sections) ++ rate)
in_parts front start sections rate one two three a b c =
    c ∙ ap (λ (t : List ℕ). t ++ rate) (b ∙ ap (λ (t : List ℕ). t ++ sections) a ∙ append_assoc front start sections) ∙ append_assoc front (start ++ sections) rate

bytes_in : (keep : PartsKeepTheirWords) (xs : List SectionFields) → AllByRecursion IsSection xs → AreBytes (bytes_of_sections xs)
bytes_in keep [] h = λ i. omega arith
bytes_in keep (x ∷ xs) h = keep.bytes_joined x.bytes (bytes_of_sections xs) h.0.fits (bytes_in keep xs h.1)

-- what a configuration is spelled in
pub payload_bytes : (words : WordsAreTheirBytes) (keep : PartsKeepTheirWords) (c : ConfigFields) → AllByRecursion IsSection c.sections → AreBytes (payload_of c)
payload_bytes words keep c h =
    let base : List ℕ = to_be_bytes w32 (c.flags * 2 ^ 24 + c.time_base) in
    let count : List ℕ = to_be_bytes w16 (length c.sections) in
    let flat : List ℕ = bytes_of_sections c.sections in
    let rate : List ℕ = to_be_bytes w16 (cast_unsigned w16 c.rate) in
    let start : AreBytes (base ++ count) = keep.bytes_joined base count (words.long_bytes (c.flags * 2 ^ 24 + c.time_base)) (words.word_bytes (length c.sections)) in
    keep.bytes_joined ((base ++ count) ++ flat) rate (keep.bytes_joined (base ++ count) flat start (bytes_in keep c.sections h)) (words.word_bytes (cast_unsigned w16 c.rate))
