-- What a run sends, up to each of its instants.
use Rattle.std.proofs.Common.{◌≡◌, ℕ, zero, suc, ◌+◌, ◌-◌, ◌%◌, ◌≤◌, ◌<◌, List, [], ◌∷◌, ◌++◌, refl, sym, ap, subst, ◌∙◌, append_assoc, arith}
use Rattle.std.specs.Prelude.{Bool, true, false}
use Rattle.std.proofs.lemmas.List.{append-nil}
use Rattle.pdc_simulation.specs.Sent.{AreWords, Config, IsAll, IsFirstPart, IsFront, IsUpTo, Out, Run, again, data_at}
use Rattle.pdc_simulation.specs.declared.handing.TheConstants.{PHASORS}

pub one_more : (run : Run) (number : ℕ) (before : List Out) (words : List ℕ) → IsUpTo run number before → AreWords run.is_grid number words
    → IsUpTo run (number + 1) (before ++ (again run number ++ data_at run number words))
one_more run number before words h w =
    let e : suc number ≡ number + 1 = omega arith in
    subst (λ (k : ℕ). IsUpTo run k (before ++ (again run number ++ data_at run number words))) e (before, words, h, w, refl)

-- some words of a number
abbrev some_words : Bool → ℕ → List ℕ
some_words false number = 0 ∷ number % PHASORS ∷ 0 ∷ 0 ∷ 0 ∷ []
some_words true number = 0 ∷ 0 ∷ 0 ∷ 0 ∷ 0 ∷ 0 ∷ 0 ∷ 0 ∷ 0 ∷ 0 ∷ 0 ∷ 0 ∷ 0 ∷ 0 ∷ 0 ∷ 0 ∷ []

are_some_words : (is_grid : Bool) (number : ℕ) → AreWords is_grid number (some_words is_grid number)
are_some_words false number = (λ e. refl, λ e. let no : false ≡ true = e in cc)
are_some_words true number = (λ e. let no : true ≡ false = e in cc, λ e. (0 ∷ 0 ∷ 0 ∷ 0 ∷ 0 ∷ 0 ∷ 0 ∷ 0 ∷ 0 ∷ 0 ∷ 0 ∷ 0 ∷ 0 ∷ 0 ∷ 0 ∷ [], refl, refl))

-- A run goes on from each of its instants.
goes_on : (run : Run) (number more : ℕ) (before : List Out) → IsUpTo run number before → (rest : List Out) × IsUpTo run (number + more) (before ++ rest)
goes_on run number zero before h =
    let e : number ≡ number + 0 = omega arith in
    ([], subst (λ (k : ℕ). IsUpTo run k (before ++ [])) e (subst (IsUpTo run number) (sym (append-nil before)) h))
goes_on run number (suc more) before h =
    let r = goes_on run number more before h in
    let k = number + more in
    let turn : List Out = again run k ++ data_at run k (some_words run.is_grid k) in
    let e : k + 1 ≡ number + suc more = omega arith in (
      r.0 ++ turn,
      subst (λ (n : ℕ). IsUpTo run n (before ++ (r.0 ++ turn))) e
          (subst (IsUpTo run (k + 1)) (append_assoc before r.0 turn) (one_more run k (before ++ r.0) (some_words run.is_grid k) r.1 (are_some_words run.is_grid k))),
    )

pub first_part : (run : Run) (number : ℕ) (before : List Out) → number ≤ run.count → IsUpTo run number before → IsFirstPart run before
first_part run number before le h =
    let r = goes_on run number (run.count - number) before h in
    let e : number + (run.count - number) ≡ run.count = omega (arith, le) in
    (r.0, subst (λ (n : ℕ). IsUpTo run n (before ++ r.0)) e r.1)

-- The configuration that is due again is sent before the data.
pub first_part_again : (run : Run) (number : ℕ) (before : List Out) → number < run.count → IsUpTo run number before → IsFirstPart run (before ++ again run number)
first_part_again run number before lt h =
    let c : List Out = again run number in
    let d : List Out = data_at run number (some_words run.is_grid number) in
    let r = first_part run (number + 1) (before ++ (c ++ d)) (omega (arith, lt)) (one_more run number before (some_words run.is_grid number) h (are_some_words run.is_grid number)) in
    let e : (before ++ (c ++ d)) ++ r.0 ≡ (before ++ c) ++ (d ++ r.0) =
    ap (λ (xs : List Out). xs ++ r.0) (sym (append_assoc before c d)) ∙ append_assoc (before ++ c) d r.0 in
    (d ++ r.0, subst (IsUpTo run run.count) e r.1)

pub none_is_front : (run : Run) → IsFront run []
none_is_front run =
    let r = first_part run 0 [] (omega arith) refl in
    (Config ∷ r.0, (r.0, r.1, refl))

pub front_of : (run : Run) (outs : List Out) → IsFirstPart run outs → IsFront run (Config ∷ outs)
front_of run outs h = (h.0, (outs ++ h.0, h.1, refl))

pub all_of : (run : Run) (outs : List Out) → IsUpTo run run.count outs → IsAll run (Config ∷ outs)
all_of run outs h = (outs, h, refl)
