-- A payload has at most one fault, and no configuration has a fault.
use Rattle.std.proofs.Common.{◌≡◌, ◌⊎◌, inl, inr, ℕ, ◌<◌, ◌≤◌, List, length, refl, sym, ap, subst, ◌∙◌, arith}
use Rattle.std.proofs.lemmas.Bool.{cases_lt}
use Rattle.pdc_frame.specs.Parts.{PartsKeepTheirWords}
use Rattle.pdc_frame.specs.declared.frame.Kind.{Kind}
use Rattle.pdc_cfg.specs.declared.fault.CfgFault.{CfgFault}
use Rattle.pdc_cfg.specs.declared.fault.CfgFault.TheVariants.{WrongKind, Cut, TooMany, FloatFormat}
use Rattle.pdc_cfg.specs.Section.{IsSectionFault, AreFew, AreMany}
use Rattle.pdc_cfg.specs.Config.{ConfigFields, IsConfigKind, IsConfig, StopsAt, HasMore, IsBodyFault, IsBodyFaultIn, IsSome, IsPayloadFault, IsFirstFault, section_count_in, body_in}
use Rattle.pdc_cfg.proofs.Sections.{same_sections, next_section, no_fault}
use Rattle.pdc_cfg.proofs.Configs.{body-spelled, no_fault_in}
use Rattle.pdc_cfg.proofs.Parts.{length-payload_of}

-- ---- of a section

few_or_many : (rest : List ℕ) → AreFew rest → AreMany rest → ⊥
few_or_many rest few (inl many) = omega (arith, few.phasors, many)
few_or_many rest few (inr (inl many)) = omega (arith, few.analogs, many)
few_or_many rest few (inr (inr many)) = omega (arith, few.digitals, many)

one_section_fault : (rest : List ℕ) (a b : CfgFault) → IsSectionFault rest a → IsSectionFault rest b → a ≡ b
one_section_fault rest WrongKind b h k = absurd h
one_section_fault rest a WrongKind h k = absurd k
one_section_fault rest Cut Cut h k = refl
one_section_fault rest Cut TooMany (inl h) k = absurd (omega (arith, h, k.0))
one_section_fault rest Cut TooMany (inr h) k = absurd (few_or_many rest h.1 k.1)
one_section_fault rest Cut FloatFormat (inl h) k = absurd (omega (arith, h, k.0))
one_section_fault rest Cut FloatFormat (inr h) k = absurd (k.2 h.2)
one_section_fault rest TooMany Cut h (inl k) = absurd (omega (arith, k, h.0))
one_section_fault rest TooMany Cut h (inr k) = absurd (few_or_many rest k.1 h.1)
one_section_fault rest TooMany TooMany h k = refl
one_section_fault rest TooMany FloatFormat h k = absurd (few_or_many rest k.1 h.1)
one_section_fault rest FloatFormat Cut h (inl k) = absurd (omega (arith, k, h.0))
one_section_fault rest FloatFormat Cut h (inr k) = absurd (h.2 k.2)
one_section_fault rest FloatFormat TooMany h k = absurd (few_or_many rest h.1 k.1)
one_section_fault rest FloatFormat FloatFormat h k = refl

-- a fault of the body is one of the payload
pub of_body : (payload : List ℕ) (fault : CfgFault) → IsBodyFaultIn payload fault → IsPayloadFault payload fault
of_body payload WrongKind h = h.2.cause
of_body payload Cut h = inr h
of_body payload TooMany h = inr h
of_body payload FloatFormat h = h

module _ (keep : PartsKeepTheirWords) where
  -- ---- of a body

  -- a stop lies behind no fewer sections than another
  stops_no_sooner : (count other : ℕ) (body : List ℕ) (a b : CfgFault) (h : StopsAt count body a) (k : StopsAt other body b) → length h.sections < length k.sections → ⊥
  stops_no_sooner count other body a b h k lt =
      no_fault keep h.rest a (next_section keep h.sections k.sections h.rest k.rest h.begins.whole k.begins.whole lt (sym h.begins.parts ∙ k.begins.parts)) h.cause

  one_stop : (count other : ℕ) (body : List ℕ) (a b : CfgFault) → StopsAt count body a → StopsAt other body b → a ≡ b
  one_stop count other body a b h k =
      let len : length h.sections ≡ length k.sections = elim (cases_lt (length h.sections) (length k.sections)) [
        | inl lt ↦ absurd (stops_no_sooner count other body a b h k lt)
        | inr le ↦ elim (cases_lt (length k.sections) (length h.sections)) [
          | inl lt ↦ absurd (stops_no_sooner other count body b a k h lt)
          | inr more ↦ omega (arith, le, more)
        ]
      ] in
      let rest : h.rest ≡ k.rest = (same_sections keep h.sections k.sections h.rest k.rest h.begins.whole k.begins.whole len (sym h.begins.parts ∙ k.begins.parts)).1 in
      one_section_fault k.rest a b (subst (λ (t : List ℕ). IsSectionFault t a) rest h.cause) k.cause

  -- bytes that are left over stand behind all sections
  stops_before : (count : ℕ) (body : List ℕ) (fault : CfgFault) → StopsAt count body fault → HasMore count body → ⊥
  stops_before count body fault h k =
      no_fault keep h.rest fault (next_section keep h.sections k.sections h.rest k.rest h.begins.whole k.begins.whole (omega (arith, h.fewer, k.all)) (sym h.begins.parts ∙ k.begins.parts)) h.cause

  body_cause : (count : ℕ) (body : List ℕ) (fault : CfgFault) → IsBodyFault count body fault → StopsAt count body fault ⊎ ((fault ≡ Cut) × HasMore count body)
  body_cause count body WrongKind h = inl h
  body_cause count body Cut (inl h) = inl h
  body_cause count body Cut (inr h) = inr (refl, h)
  body_cause count body TooMany h = inl h
  body_cause count body FloatFormat h = inl h

  one_body_cause : (count : ℕ) (body : List ℕ) (a b : CfgFault) → StopsAt count body a ⊎ ((a ≡ Cut) × HasMore count body) → StopsAt count body b ⊎ ((b ≡ Cut) × HasMore count body) → a ≡ b
  one_body_cause count body a b (inl h) (inl k) = one_stop count count body a b h k
  one_body_cause count body a b (inl h) (inr k) = absurd (stops_before count body a h k.1)
  one_body_cause count body a b (inr h) (inl k) = absurd (stops_before count body b k h.1)
  one_body_cause count body a b (inr h) (inr k) = h.0 ∙ sym k.0

  -- ---- of a payload

  -- a fault comes before the sections, or it is in them
  abbrev IsEarly : List ℕ → CfgFault → Type 0
  IsEarly payload fault = ((fault ≡ Cut) × (length payload < 8)) ⊎ ((fault ≡ TooMany) × (8 ≤ length payload) × (IsSome payload → ⊥))

  payload_cause : (payload : List ℕ) (fault : CfgFault) → IsPayloadFault payload fault → IsEarly payload fault ⊎ IsBodyFaultIn payload fault
  payload_cause payload WrongKind h = absurd h
  payload_cause payload Cut (inl h) = inl (inl (refl, h))
  payload_cause payload Cut (inr h) = inr h
  payload_cause payload TooMany (inl h) = inl (inr (refl, h.0, h.1))
  payload_cause payload TooMany (inr h) = inr h
  payload_cause payload FloatFormat h = inr h

  one_early : (payload : List ℕ) (a b : CfgFault) → IsEarly payload a → IsEarly payload b → a ≡ b
  one_early payload a b (inl h) (inl k) = h.0 ∙ sym k.0
  one_early payload a b (inl h) (inr k) = absurd (omega (arith, h.1, k.1))
  one_early payload a b (inr h) (inl k) = absurd (omega (arith, k.1, h.1))
  one_early payload a b (inr h) (inr k) = h.0 ∙ sym k.0

  not_early : (payload : List ℕ) (fault : CfgFault) → 8 ≤ length payload → IsSome payload → IsEarly payload fault → ⊥
  not_early payload fault long some (inl h) = omega (arith, long, h.1)
  not_early payload fault long some (inr h) = h.2 some

  one_cause : (payload : List ℕ) (a b : CfgFault) → IsEarly payload a ⊎ IsBodyFaultIn payload a → IsEarly payload b ⊎ IsBodyFaultIn payload b → a ≡ b
  one_cause payload a b (inl h) (inl k) = one_early payload a b h k
  one_cause payload a b (inl h) (inr k) = absurd (not_early payload a k.0 k.1 h)
  one_cause payload a b (inr h) (inl k) = absurd (not_early payload b h.0 h.1 k)
  one_cause payload a b (inr h) (inr k) =
      one_body_cause (section_count_in payload) (body_in payload) a b (body_cause _ _ a h.2) (body_cause _ _ b k.2)

  pub one_fault : (payload : List ℕ) (a b : CfgFault) → IsPayloadFault payload a → IsPayloadFault payload b → a ≡ b
  one_fault payload a b h k = one_cause payload a b (payload_cause payload a h) (payload_cause payload b k)

  -- no configuration has a fault
  pub no_payload_fault : (payload : List ℕ) (c : ConfigFields) (fault : CfgFault) → IsConfig payload c → IsPayloadFault payload fault → ⊥
  no_payload_fault payload c fault h cause =
      let count : section_count_in payload ≡ length c.sections = (body-spelled payload c h).0 in
      let long : 8 ≤ length payload = omega (arith, ap length h.spelled, length-payload_of c) in
      elim (payload_cause payload fault cause) [
        | inl early ↦ not_early payload fault long (omega (arith, count, h.some), omega (arith, count, h.few)) early
        | inr inside ↦ no_fault_in keep payload c fault h inside.2
      ]

  -- ---- of a frame

  -- a fault is the kind's, or it is the payload's
  first_cause : (kind : Kind) (payload : List ℕ) (fault : CfgFault) → IsFirstFault kind payload fault → ((fault ≡ WrongKind) × (IsConfigKind kind → ⊥)) ⊎ (IsConfigKind kind × IsPayloadFault payload fault)
  first_cause kind payload WrongKind h = inl (refl, h)
  first_cause kind payload Cut h = inr h
  first_cause kind payload TooMany h = inr h
  first_cause kind payload FloatFormat h = inr h

  pub one_first_fault : (kind : Kind) (payload : List ℕ) (a b : CfgFault) → IsFirstFault kind payload a → IsFirstFault kind payload b → a ≡ b
  one_first_fault kind payload a b h k =
      elim (first_cause kind payload a h) [
        | inl wrong ↦ elim (first_cause kind payload b k) [ inl other ↦ wrong.0 ∙ sym other.0 | inr inside ↦ absurd (wrong.1 inside.0) ]
        | inr inside ↦ elim (first_cause kind payload b k) [ inl wrong ↦ absurd (wrong.1 inside.0) | inr other ↦ one_fault payload a b inside.1 other.1 ]
      ]

  pub no_first_fault : (kind : Kind) (payload : List ℕ) (c : ConfigFields) (fault : CfgFault) → IsConfigKind kind → IsConfig payload c → IsFirstFault kind payload fault → ⊥
  no_first_fault kind payload c fault right h cause =
      elim (first_cause kind payload fault cause) [ inl wrong ↦ wrong.1 right | inr inside ↦ no_payload_fault payload c fault h inside.1 ]
