-- The exchange that adds a step keeps the rule.
use Rattle.std.proofs.Common.{◌≡◌, ℕ, ◌+◌, ◌<◌, ◌≤◌, ◌==◌, Bool, true, false, List, [], ◌∷◌, ◌++◌, length, refl, ap, sym, ◌∙◌, subst, arith, inl, length-append, Option, None}
use Rattle.std.proofs.lemmas.List.{append-nil}
use Rattle.std.proofs.lemmas.Bool.Decides.{nat_tests}
use mathlib.Core.List.{IsPrefix}
use prog.Atomic.{either}
use Rattle.logbook.specs.Pages.{Cell, cell, keeps, no_nib, step, Moves, Goes}
use Rattle.pdc_life.specs.Answer.{ReadStep}
use Rattle.pdc_log.specs.Rules.{IsKept, Adds, Ends}
use Rattle.pdc_log.proofs.Fronts.{prefix_trans, prefix_whole}

abbrev pub shown : List ReadStep → List ReadStep
shown log = []

abbrev pub moved : List ReadStep → List ReadStep → ℕ → Type 0
moved xs ys n = Unit {0}

pub adds_goes : (log v : List ReadStep) (e : ReadStep) (old : ℕ) (state : Option ℕ) → IsPrefix v log
    → (b : Bool) → (length log == old) ≡ b
    → Goes IsKept shown moved 0 (v, (no_nib, state)) (λ n. either (n == old) (old + 1) n) (Adds (step 0 old (old + 1) e) (v, (no_nib, state))) ((length log, true) ∷ (0, true) ∷ []) log
adds_goes log v e old state pre true is =
    let here : length log ≡ old = grind (arith, nat_tests) in
    let n : either (length log == old) (old + 1) (length log) ≡ length (log ++ e ∷ []) = rw is (omega (arith, length-append log (e ∷ []))) in (
      keeps,
      e ∷ [],
      state,
      tt,
      ap (λ (k : ℕ). (k, true) ∷ (0, true) ∷ []) n,
      inl (refl, refl),
      rw is (log, refl, here, pre),
    )
adds_goes log v e old state pre false is =
    let all : log ++ [] ≡ log = append-nil log in
    let n : either (length log == old) (old + 1) (length log) ≡ length (log ++ []) = rw is (ap length (sym all)) in (
      keeps,
      [],
      state,
      tt,
      ap (λ (k : ℕ). (k, true) ∷ (0, true) ∷ []) n,
      inl (refl, refl),
      rw is tt,
    )

-- whatever the book is, the exchange adds the step where the log is as long as was expected
pub adds_moves : (v : List ReadStep) (e : ReadStep) (old : ℕ) (state : Option ℕ)
    → Moves IsKept shown moved 0 (v, (no_nib, state)) (λ n. either (n == old) (old + 1) n) (Adds (step 0 old (old + 1) e) (v, (no_nib, state)))
adds_moves v e old state cs log kept pre away =
    let P : List Cell → Type 0 = λ c. (0 < length c) × ((cell c 0).1 ≡ true) × Goes IsKept shown moved 0 (v, (no_nib, state)) (λ n. either (n == old) (old + 1) n) (Adds (step 0 old (old + 1) e) (v, (no_nib, state))) c log in
    subst P (sym kept) (omega arith, refl, adds_goes log v e old state pre (length log == old) refl)

-- what was added lies behind all that was known, where that was the whole
pub added_behind : (mine theirs both after : List ReadStep) (e : ReadStep) (n : ℕ) → length mine ≡ n → IsPrefix mine both → IsPrefix theirs both
    → Ends (step 0 n (n + 1) e) both after → (after ≡ mine ++ e ∷ []) × IsPrefix theirs mine
added_behind mine theirs both after e n len a b ends =
    let log = ends.0 in
    let whole : mine ≡ log = prefix_whole mine log (prefix_trans mine both log a ends.3) (omega (arith, len, ends.2)) in
    (ends.1 ∙ ap (λ l. l ++ e ∷ []) (sym whole), subst (λ l. IsPrefix theirs l) (sym whole) (prefix_trans theirs both log b ends.3))
