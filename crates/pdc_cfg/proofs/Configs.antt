-- A configuration by the places of its fields: what stands there is the spelling, and a spelling has the fields there.
use Rattle.std.proofs.Common.{◌≡◌, ℕ, ◌+◌, ◌-◌, ◌*◌, ◌^◌, ◌<◌, ◌≤◌, List, ◌++◌, length, take, drop, sym, ap, ap₂, subst, ◌∙◌, append_assoc, arith, length-append, length-drop}
use Rattle.std.specs.Int.{w16, w32, to_be_bytes, cast_unsigned, cast_signed}
use Rattle.std.proofs.Math.Seq.{take-append_seam}
use Rattle.std.proofs.lemmas.List.{take-append-drop, drop-drop, take_all}
use Rattle.std.proofs.lemmas.Int.{to_z-of_z}
use Rattle.std.proofs.Math.Facts.{Fits-of_z}
use Rattle.pdc_frame.specs.Bytes.{AreBytes, word_at, long_at}
use Rattle.pdc_frame.specs.Parts.{WordsAreTheirBytes, PartsKeepTheirWords}
use Rattle.pdc_cfg.specs.declared.fault.CfgFault.{CfgFault}
use Rattle.pdc_cfg.specs.Config.{ConfigFields, IsConfig, payload_of, bytes_of_sections, IsBodyFault, body_in, section_count_in}
use Rattle.pdc_cfg.proofs.Sections.{same_sections, no_body_fault}

-- the fields stand in their places
pub record ArePlaces (payload : List ℕ) (c : ConfigFields) : Type 0 where
  pub long : 8 ≤ length payload
  pub base : c.flags * 2 ^ 24 + c.time_base ≡ long_at payload 0
  pub count : length c.sections ≡ section_count_in payload
  pub sections : bytes_of_sections c.sections ≡ body_in payload
  pub rate : cast_unsigned w16 c.rate ≡ word_at payload (length payload - 2)

-- a spelling has the number of sections and the sections in their places
spelled-body : (c : ConfigFields) → length c.sections ≤ 17 → (section_count_in (payload_of c) ≡ length c.sections) × (body_in (payload_of c) ≡ bytes_of_sections c.sections)
spelled-body c few =
    let flat : List ℕ = bytes_of_sections c.sections in
    let tail : List ℕ = to_be_bytes w16 (cast_unsigned w16 c.rate) in
    let len : length (payload_of c) - 2 - 6 ≡ length flat = omega (arith, length-append flat tail) in
    (omega arith, ap (λ (n : ℕ). take n (flat ++ tail)) len ∙ take-append_seam flat tail)

pub body-spelled : (payload : List ℕ) (c : ConfigFields) → IsConfig payload c → (section_count_in payload ≡ length c.sections) × (body_in payload ≡ bytes_of_sections c.sections)
body-spelled payload c h =
    let parts = spelled-body c h.few in
    (ap section_count_in h.spelled ∙ parts.0, ap body_in h.spelled ∙ parts.1)

-- no configuration has a fault in its body
pub no_fault_in : (keep : PartsKeepTheirWords) (payload : List ℕ) (c : ConfigFields) (fault : CfgFault) → IsConfig payload c → IsBodyFault (section_count_in payload) (body_in payload) fault → ⊥
no_fault_in keep payload c fault h cause =
    let parts = body-spelled payload c h in
    let moved : IsBodyFault (length c.sections) (body_in payload) fault = subst (λ (n : ℕ). IsBodyFault n (body_in payload) fault) parts.0 cause in
    no_body_fault keep c.sections fault h.sections (subst (λ (t : List ℕ). IsBodyFault (length c.sections) t fault) parts.1 moved)

-- ---- what follows from the laws of words and of parts

module _ (words : WordsAreTheirBytes) where
  pub spelled-places : (payload : List ℕ) (c : ConfigFields) → AreBytes payload → ArePlaces payload c → payload ≡ payload_of c
  spelled-places payload c fits h =
      let n : ℕ = length payload in
      let rest : List ℕ = drop 6 payload in
      let flat : List ℕ = bytes_of_sections c.sections in
      let base : to_be_bytes w32 (c.flags * 2 ^ 24 + c.time_base) ≡ take 4 payload = ap (to_be_bytes w32) h.base ∙ words.long_again payload 0 fits (omega (arith, h.long)) in
      let count : to_be_bytes w16 (length c.sections) ≡ take 2 (drop 4 payload) = ap (to_be_bytes w16) h.count ∙ words.word_again payload 4 fits (omega (arith, h.long)) in
      let all : take 2 (drop (n - 2) payload) ≡ drop (n - 2) payload = take_all 2 (drop (n - 2) payload) (omega (arith, length-drop (n - 2) payload)) in
      let rate : to_be_bytes w16 (cast_unsigned w16 c.rate) ≡ drop (n - 2) payload = ap (to_be_bytes w16) h.rate ∙ words.word_again payload (n - 2) fits (omega (arith, h.long)) ∙ all in
      let len : 6 + (n - 2 - 6) ≡ n - 2 = omega (arith, h.long) in
      let behind : drop (n - 2 - 6) rest ≡ drop (n - 2) payload = drop-drop (n - 2 - 6) 6 payload ∙ ap (λ (k : ℕ). drop k payload) len in
      let second : drop 4 payload ≡ take 2 (drop 4 payload) ++ rest = sym (take-append-drop 2 (drop 4 payload)) ∙ ap (λ (t : List ℕ). take 2 (drop 4 payload) ++ t) (drop-drop 2 4 payload) in
      let first : payload ≡ (take 4 payload ++ take 2 (drop 4 payload)) ++ rest = sym (take-append-drop 4 payload) ∙ ap (λ (t : List ℕ). take 4 payload ++ t) second ∙ sym (append_assoc (take 4 payload) (take 2 (drop 4 payload)) rest) in
      let split : rest ≡ flat ++ to_be_bytes w16 (cast_unsigned w16 c.rate) = sym (take-append-drop (n - 2 - 6) rest) ∙ ap₂ (λ (s t : List ℕ). s ++ t) (sym h.sections) (behind ∙ sym rate) in
      first ∙ ap₂ (λ (s t : List ℕ). s ++ t) (ap₂ (λ (s t : List ℕ). s ++ t) (sym base) (sym count)) split
      ∙ sym (append_assoc (to_be_bytes w32 (c.flags * 2 ^ 24 + c.time_base) ++ to_be_bytes w16 (length c.sections)) flat (to_be_bytes w16 (cast_unsigned w16 c.rate)))

  -- a number is told by its bytes
  same_word : (m n : ℕ) → m < 2 ^ 16 → n < 2 ^ 16 → to_be_bytes w16 m ≡ to_be_bytes w16 n → m ≡ n
  same_word m n m_fits n_fits e = sym (words.word m m_fits) ∙ ap (λ (t : List ℕ). word_at t 0) e ∙ words.word n n_fits

  same_long : (m n : ℕ) → m < 2 ^ 32 → n < 2 ^ 32 → to_be_bytes w32 m ≡ to_be_bytes w32 n → m ≡ n
  same_long m n m_fits n_fits e = sym (words.long m m_fits) ∙ ap (λ (t : List ℕ). long_at t 0) e ∙ words.long n n_fits

  -- a payload spells one configuration
  pub same_config : (keep : PartsKeepTheirWords) (payload : List ℕ) (a b : ConfigFields) → IsConfig payload a → IsConfig payload b → a ≡ b
  same_config keep payload a b ha hb =
      let e : payload_of a ≡ payload_of b = sym ha.spelled ∙ hb.spelled in
      let bases : to_be_bytes w32 (a.flags * 2 ^ 24 + a.time_base) ≡ to_be_bytes w32 (b.flags * 2 ^ 24 + b.time_base) = ap (take 4) e in
      let base : a.flags * 2 ^ 24 + a.time_base ≡ b.flags * 2 ^ 24 + b.time_base = same_long _ _ (omega (arith, ha.flags, ha.time_base)) (omega (arith, hb.flags, hb.time_base)) bases in
      let counts : to_be_bytes w16 (length a.sections) ≡ to_be_bytes w16 (length b.sections) = ap (λ (t : List ℕ). take 2 (drop 4 t)) e in
      let count : length a.sections ≡ length b.sections = same_word _ _ (omega (arith, ha.few)) (omega (arith, hb.few)) counts in
      let others = same_sections keep a.sections b.sections (to_be_bytes w16 (cast_unsigned w16 a.rate)) (to_be_bytes w16 (cast_unsigned w16 b.rate)) ha.sections hb.sections count (ap (drop 6) e) in
      let bits : cast_unsigned w16 a.rate ≡ cast_unsigned w16 b.rate = same_word _ _ (Fits-of_z ha.rate).fits (Fits-of_z hb.rate).fits others.1 in
      let rate : a.rate ≡ b.rate = sym (to_z-of_z w16 a.rate ha.rate) ∙ ap (cast_signed w16) bits ∙ to_z-of_z w16 b.rate hb.rate in
      let flags : a.flags ≡ b.flags = omega (arith, base, ha.time_base, hb.time_base) in
      let time_base : a.time_base ≡ b.time_base = omega (arith, base, flags) in
      λ i. record { flags = flags i; time_base = time_base i; sections = others.0 i; rate = rate i }
