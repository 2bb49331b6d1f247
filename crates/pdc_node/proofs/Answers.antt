-- What a node answers to what arrives.
use Rattle.std.proofs.Common.{◌≡◌, ℕ, ◌≤◌, ◌<◌, Bool, true, false, cond, ltb, List, [], ◌∷◌, length, map, slice_index_or, refl, sym, ◌∙◌, ap, arith, Option, None, Some}
use Rattle.std.specs.Prelude.{nat_eq}
use Rattle.std.specs.Cmp.Lexicographic.{pointwise}
use Rattle.std.proofs.lemmas.Bool.{false≢true}
use Rattle.pdc_cfg.specs.Section.{SectionFields}
use Rattle.pdc_life.specs.Answer.{bare}
use Rattle.pdc_life.specs.Arrival.{Layout, Stamp}
use Rattle.pdc_life.specs.Given.{Given, count_for}
use Rattle.pdc_life.specs.Life.{Entry, held_section, is_candidate, is_taken}
use Rattle.pdc_life.specs.Node.{node_answer, section_answer}
use Rattle.pdc_life.specs.declared.outcome.Outcome.{Outcome}
use Rattle.pdc_life.specs.declared.outcome.Outcome.TheVariants.{Candidate, Known, Refused, Taken}
use Rattle.pdc_life.specs.declared.outcome.Refusal.TheVariants.{CountConflict, StaleCount}
use Rattle.pdc_arrival.specs.Views.{section_part}
use Rattle.pdc_arrival.specs.declared.arrival.ColumnSection.{ColumnSection}
use Rattle.pdc_align.specs.Align.{is_left}

-- the only section of a layout
pub only_one : (sections : List ColumnSection) (s : ColumnSection) → 1 ≤ length sections → length sections < 2 → s ≡ slice_index_or sections 0 s → map section_part sections ≡ section_part s ∷ []
only_one [] s h k e = absurd (omega (arith, h))
only_one (x ∷ []) s h k e = ap (λ (t : ColumnSection). section_part t ∷ []) (sym e)
only_one (x ∷ y ∷ sections) s h k e = absurd (omega (arith, k))

-- the answer to one section
pub one_answer : (g : Given) (E : List Entry) (p c opening : ℕ) (held : Option SectionFields) (s : SectionFields) (stamp : Option Stamp) (parts : List (ℕ × SectionFields)) (o : Outcome)
    → parts ≡ (c, s) ∷ [] → opening ≡ count_for p g.counts → held ≡ held_section g E p → o ≡ section_answer opening held s
    → bare o ≡ node_answer g E p (Layout stamp parts)
one_answer g E p c opening held s stamp parts o one e h answer =
    ap bare (answer ∙ ap (λ n. section_answer n held s) e ∙ ap (λ x. section_answer (count_for p g.counts) x s) h)
    ∙ ap (λ ps. node_answer g E p (Layout stamp ps)) (sym one)

-- a section is never taken as data
by_tests : (a b c : Bool) → is_taken (cond a (Refused StaleCount) (cond b Candidate (cond c Known (Refused CountConflict)))) ≡ false
by_tests true b c = refl
by_tests false true c = refl
by_tests false false true = refl
by_tests false false false = refl

below_opening : (a : Bool) (o : Outcome) → is_taken o ≡ false → is_taken (cond a (Refused StaleCount) o) ≡ false
below_opening true o h = refl
below_opening false o h = h

never_taken : (opening : ℕ) (held : Option SectionFields) (s : SectionFields) → is_taken (section_answer opening held s) ≡ false
never_taken opening None s = below_opening (ltb s.count opening) Candidate refl
never_taken opening (Some held) s = below_opening (ltb s.count opening) _ (by_tests (ltb s.count held.count) (ltb held.count s.count) (pointwise nat_eq held.bytes s.bytes))

left_else : (o : Outcome) → is_taken o ≡ false → is_candidate o ≡ false → is_left o ≡ true
left_else Taken t c = absurd (false≢true (sym t))
left_else Candidate t c = absurd (false≢true (sym c))
left_else Known t c = refl
left_else (Refused r) t c = refl

-- a section that is no candidate leaves the alignment
pub section_left : (opening : ℕ) (held : Option SectionFields) (s : SectionFields) (o : Outcome) → o ≡ section_answer opening held s → is_candidate o ≡ false → is_left o ≡ true
section_left opening held s o e c = left_else o (ap is_taken e ∙ never_taken opening held s) c

pub is_new : (o : Outcome) → is_candidate o ≡ true → o ≡ Candidate
is_new Taken h = absurd (false≢true h)
is_new Candidate h = refl
is_new Known h = absurd (false≢true h)
is_new (Refused r) h = absurd (false≢true h)
