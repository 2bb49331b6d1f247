-- Sections one after the other: no section is the front of another, so bytes are sections in one way.
use Rattle.std.proofs.Common.{◌≡◌, inl, inr, ℕ, ◌+◌, ◌/◌, ◌%◌, ◌<◌, ◌≤◌, Bool, true, false, List, [], ◌∷◌, ◌++◌, length, take, drop, refl, sym, ap, ◌∙◌, append_assoc, arith, length-append}
use Rattle.std.specs.Prelude.{if◌then◌else◌}
use Rattle.std.specs.List.{AllByRecursion}
use Rattle.std.proofs.lemmas.List.{take-append-drop}
use Rattle.std.proofs.lemmas.Grind.{flat_map-append}
use Rattle.std.proofs.lemmas.List.{append-nil}
use Rattle.pdc_frame.specs.Bytes.{word_at}
use Rattle.pdc_frame.specs.Parts.{PartsKeepTheirWords}
use Rattle.pdc_cfg.specs.declared.fault.CfgFault.{CfgFault}
use Rattle.pdc_cfg.specs.declared.fault.CfgFault.TheVariants.{WrongKind, Cut, TooMany, FloatFormat}
use Rattle.pdc_cfg.specs.Shape.{section_len_of}
use Rattle.pdc_cfg.specs.Section.{SectionFields, IsSection, IsSectionFault, phasors_in, analogs_in, digitals_in, source_in, format_in, count_in}
use Rattle.pdc_cfg.specs.Config.{bytes_of_sections, Begins, StopsAt, HasMore, IsBodyFault}
use Rattle.pdc_cfg.proofs.Shapes.{same_shape}

-- a flag is told by its number
same_flag : (a b : Bool) (n : ℕ) → n ≡ (if a then 1 else 0) → n ≡ (if b then 1 else 0) → a ≡ b
same_flag true true n e f = refl
same_flag true false n e f = absurd (omega (arith, e, f))
same_flag false true n e f = absurd (omega (arith, e, f))
same_flag false false n e f = refl

-- a section has its fixed fields
long : (s : SectionFields) → IsSection s → 30 ≤ length s.bytes
long s h = omega (arith, h.size)

-- a section stands at the front
pub record Follows (rest : List ℕ) : Type 0 where
  pub next : SectionFields
  pub whole : IsSection next
  pub tail : List ℕ
  pub parts : rest ≡ next.bytes ++ tail

whole-push : (xs : List SectionFields) (y : SectionFields) → AllByRecursion IsSection xs → IsSection y → AllByRecursion IsSection (xs ++ y ∷ [])
whole-push [] y h last = (last, tt)
whole-push (x ∷ xs) y h last = (h.0, whole-push xs y h.1 last)

-- one more section
pub Begins-push : (body : List ℕ) (before : List SectionFields) (rest : List ℕ) (s : SectionFields) → Begins body before rest → IsSection s → s.bytes ≡ take (length s.bytes) rest
    → Begins body (before ++ s ∷ []) (drop (length s.bytes) rest)
Begins-push body before rest s h whole front =
    let n : ℕ = length s.bytes in
    let split : rest ≡ s.bytes ++ drop n rest = sym (take-append-drop n rest) ∙ ap (λ (t : List ℕ). t ++ drop n rest) (sym front) in
    let last : bytes_of_sections (before ++ s ∷ []) ≡ bytes_of_sections before ++ s.bytes = flat_map-append (λ (x : SectionFields). x.bytes) before (s ∷ []) ∙ ap (λ (t : List ℕ). bytes_of_sections before ++ t) (append-nil s.bytes) in
    record {
      whole = whole-push before s h.whole whole;
      parts = h.parts ∙ ap (λ (t : List ℕ). bytes_of_sections before ++ t) split ∙ sym (append_assoc (bytes_of_sections before) s.bytes (drop n rest)) ∙ ap (λ (t : List ℕ). t ++ drop n rest) (sym last);
    }

-- ---- what follows from the law that parts keep their words

module _ (keep : PartsKeepTheirWords) where
  -- what a section's bytes say, whatever follows them
  word_at-section : (s : SectionFields) (rest : List ℕ) (place : ℕ) → place ≤ 28 → IsSection s → word_at (s.bytes ++ rest) place ≡ word_at s.bytes place
  word_at-section s rest place le h = keep.word_in_front s.bytes rest place (omega (arith, long s h))

  pub same_section : (a b : SectionFields) (x y : List ℕ) → IsSection a → IsSection b → a.bytes ++ x ≡ b.bytes ++ y → (a ≡ b) × (x ≡ y)
  same_section a b x y ha hb e =
      let at : (place : ℕ) → place ≤ 28 → word_at a.bytes place ≡ word_at b.bytes place = λ place le. sym (word_at-section a x place le ha) ∙ ap (λ (t : List ℕ). word_at t place) e ∙ word_at-section b y place le hb in
      let shape : a.shape ≡ b.shape = same_shape a.shape b.shape
      (sym ha.phasors ∙ at 20 (omega arith) ∙ hb.phasors) (sym ha.analogs ∙ at 22 (omega arith) ∙ hb.analogs) (sym ha.digitals ∙ at 24 (omega arith) ∙ hb.digitals) in
      let len : length a.bytes ≡ length b.bytes = ha.size ∙ ap section_len_of shape ∙ sym hb.size in
      let parts : (a.bytes ≡ b.bytes) × (x ≡ y) = keep.apart a.bytes b.bytes x y len e in
      let source : a.source ≡ b.source = sym ha.source ∙ ap source_in parts.0 ∙ hb.source in
      let count : a.count ≡ b.count = sym ha.count ∙ ap count_in parts.0 ∙ hb.count in
      let polar : a.polar ≡ b.polar = same_flag a.polar b.polar (format_in a.bytes % 2) ha.polar (ap (λ (t : List ℕ). format_in t % 2) parts.0 ∙ hb.polar) in
      (λ i. record { bytes = parts.0 i; shape = shape i; source = source i; count = count i; polar = polar i }, parts.1)

  -- sections one after the other, and what follows them
  pub same_sections : (xs ys : List SectionFields) (x y : List ℕ) → AllByRecursion IsSection xs → AllByRecursion IsSection ys → length xs ≡ length ys
      → bytes_of_sections xs ++ x ≡ bytes_of_sections ys ++ y → (xs ≡ ys) × (x ≡ y)
  same_sections [] [] x y ha hb len e = (refl, e)
  same_sections [] (b ∷ ys) x y ha hb len e = absurd (omega arith)
  same_sections (a ∷ xs) [] x y ha hb len e = absurd (omega arith)
  same_sections (a ∷ xs) (b ∷ ys) x y ha hb len e =
      let grouped : a.bytes ++ (bytes_of_sections xs ++ x) ≡ b.bytes ++ (bytes_of_sections ys ++ y) = sym (append_assoc a.bytes (bytes_of_sections xs) x) ∙ e ∙ append_assoc b.bytes (bytes_of_sections ys) y in
      let first = same_section a b (bytes_of_sections xs ++ x) (bytes_of_sections ys ++ y) ha.0 hb.0 grouped in
      let others = same_sections xs ys x y ha.1 hb.1 (omega arith) first.1 in
      (λ i. first.0 i ∷ others.0 i, others.1)

  -- behind fewer sections than there are stands another
  pub next_section : (xs ys : List SectionFields) (x y : List ℕ) → AllByRecursion IsSection xs → AllByRecursion IsSection ys → length xs < length ys
      → bytes_of_sections xs ++ x ≡ bytes_of_sections ys ++ y → Follows x
  next_section [] [] x y ha hb lt e = absurd (omega arith)
  next_section [] (b ∷ ys) x y ha hb lt e = record { next = b; whole = hb.0; tail = bytes_of_sections ys ++ y; parts = e ∙ append_assoc b.bytes (bytes_of_sections ys) y }
  next_section (a ∷ xs) [] x y ha hb lt e = absurd (omega arith)
  next_section (a ∷ xs) (b ∷ ys) x y ha hb lt e =
      let grouped : a.bytes ++ (bytes_of_sections xs ++ x) ≡ b.bytes ++ (bytes_of_sections ys ++ y) = sym (append_assoc a.bytes (bytes_of_sections xs) x) ∙ e ∙ append_assoc b.bytes (bytes_of_sections ys) y in
      next_section xs ys x y ha.1 hb.1 (omega arith) (same_section a b (bytes_of_sections xs ++ x) (bytes_of_sections ys ++ y) ha.0 hb.0 grouped).1

  -- a word of the section that stands here
  word_at-Follows : (rest : List ℕ) (f : Follows rest) (place : ℕ) → place ≤ 28 → word_at rest place ≡ word_at f.next.bytes place
  word_at-Follows rest f place le = ap (λ (t : List ℕ). word_at t place) f.parts ∙ word_at-section f.next f.tail place le f.whole

  length-Follows : (rest : List ℕ) (f : Follows rest) → length rest ≡ length f.next.bytes + length f.tail
  length-Follows rest f = ap length f.parts ∙ length-append f.next.bytes f.tail

  -- Where a section stands there is no fault.
  pub no_fault : (rest : List ℕ) (fault : CfgFault) → Follows rest → IsSectionFault rest fault → ⊥
  no_fault rest WrongKind f cause = cause
  no_fault rest Cut f (inl short) = omega (arith, length-Follows rest f, long f.next f.whole)
  no_fault rest Cut f (inr cut) =
      let p : phasors_in rest ≡ f.next.shape.phasors = word_at-Follows rest f 20 (omega arith) ∙ f.whole.phasors in
      let a : analogs_in rest ≡ f.next.shape.analogs = word_at-Follows rest f 22 (omega arith) ∙ f.whole.analogs in
      let d : digitals_in rest ≡ f.next.shape.digitals = word_at-Follows rest f 24 (omega arith) ∙ f.whole.digitals in
      omega (arith, length-Follows rest f, f.whole.size, p, a, d, cut.3)
  no_fault rest TooMany f cause =
      let p : phasors_in rest ≡ f.next.shape.phasors = word_at-Follows rest f 20 (omega arith) ∙ f.whole.phasors in
      let a : analogs_in rest ≡ f.next.shape.analogs = word_at-Follows rest f 22 (omega arith) ∙ f.whole.analogs in
      let d : digitals_in rest ≡ f.next.shape.digitals = word_at-Follows rest f 24 (omega arith) ∙ f.whole.digitals in
      elim cause.1 [
        | inl many ↦ omega (arith, p, f.next.shape.phasors_fit)
        | inr others ↦ elim others [
          | inl many ↦ omega (arith, a, f.next.shape.analogs_fit)
          | inr many ↦ omega (arith, d, f.next.shape.digitals_fit)
        ]
      ]
  no_fault rest FloatFormat f cause = cause.2 (ap (λ (n : ℕ). n / 2 % 8) (word_at-Follows rest f 18 (omega arith)) ∙ f.whole.integers)

  never_stops : (sections : List SectionFields) (fault : CfgFault) → AllByRecursion IsSection sections → StopsAt (length sections) (bytes_of_sections sections) fault → ⊥
  never_stops sections fault whole h = no_fault h.rest fault (next_section h.sections sections h.rest [] h.begins.whole whole h.fewer (sym h.begins.parts ∙ sym (append-nil (bytes_of_sections sections)))) h.cause

  nothing_more : (sections : List SectionFields) → AllByRecursion IsSection sections → HasMore (length sections) (bytes_of_sections sections) → ⊥
  nothing_more sections whole h =
      let none = same_sections h.sections sections h.rest [] h.begins.whole whole h.all (sym h.begins.parts ∙ sym (append-nil (bytes_of_sections sections))) in
      omega (arith, h.more, ap length none.1)

  -- no fault where the body is so many sections
  pub no_body_fault : (sections : List SectionFields) (fault : CfgFault) → AllByRecursion IsSection sections → IsBodyFault (length sections) (bytes_of_sections sections) fault → ⊥
  no_body_fault sections WrongKind whole h = never_stops sections WrongKind whole h
  no_body_fault sections Cut whole (inl h) = never_stops sections Cut whole h
  no_body_fault sections Cut whole (inr h) = nothing_more sections whole h
  no_body_fault sections TooMany whole h = never_stops sections TooMany whole h
  no_body_fault sections FloatFormat whole h = never_stops sections FloatFormat whole h
