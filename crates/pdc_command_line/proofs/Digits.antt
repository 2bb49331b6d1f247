-- What `parse` gives for digits.
use Rattle.std.proofs.Common.{◌≡◌, ℕ, ◌<◌, ◌^◌, List, length, true, Result, Ok, Err, rules, ap, sym, ◌∙◌, arith}
use Rattle.std.specs.Result.{OkIff}
use Rattle.std.specs.Str.{all_ascii_digits}
use Rattle.std.specs.Str.Parse.{ParsesUnsigned}
use Rattle.std.proofs.lemmas.Str.Parse.{IsNumeralModel, numerals_by_fold, parse_digits}
use Rattle.pdc_command_line.specs.Number.{read_on, IsNumber}

own : IsNumeralModel (λ ds. all_ascii_digits ds ≡ true) (read_on 0)
own = numerals_by_fold _ (search rules) read_on (search rules)

pub parsed : {E : Type 0} (text : List ℕ) (r : Result ℕ E) → ParsesUnsigned 32 10 text r → all_ascii_digits text ≡ true → OkIff r ((0 < length text) × (read_on 0 text < 2 ^ 32)) (read_on 0 text)
parsed text r h digits = parse_digits own 32 text r h digits

-- What is a number of this size is parsed.
pub is_parsed : {E : Type 0} (text : List ℕ) (r : Result ℕ E) (n : ℕ) → ParsesUnsigned 32 10 text r → IsNumber text n → n < 2 ^ 32 → r ≡ Ok n
is_parsed {E} text (Ok m) n h number small = ap Ok ((parsed {E = E} text (Ok m) h number.digits).1 ∙ sym number.value)
is_parsed {E} text (Err e) n h number small = absurd (parsed {E = E} text (Err e) h number.digits (number.some, omega (arith, number.value, small)))

-- What is parsed is a number.
pub is_number : {E : Type 0} (text : List ℕ) (r : Result ℕ E) (n : ℕ) → ParsesUnsigned 32 10 text r → all_ascii_digits text ≡ true → r ≡ Ok n → IsNumber text n
is_number {E} text (Ok m) n h digits e =
    let known = parsed {E = E} text (Ok m) h digits in
    let same : m ≡ n = cc in
    record { digits = digits; some = known.0.0; value = sym same ∙ known.1 }
is_number {E} text (Err e) n h digits e' = absurd cc

abbrev answered : {E : Type 0} → ℕ → Result ℕ E
answered n = Ok n

pub same_answer : {E : Type 0} (a b : ℕ) → answered {E = E} a ≡ answered {E = E} b → a ≡ b
same_answer a b e = cc
