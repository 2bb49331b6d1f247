use Rattle.std.proofs.Common.{◌≡◌, sym, ap, ◌∙◌, arith}
use Rattle.std.specs.Prelude.{Some}
use Rattle.std.specs.Str.{all_ascii_digits}
use Rattle.pdc_command_line.proofs.Digits.{is_parsed, is_number, same_answer}
use Rattle.pdc_command_line.proofs.number.number.Goals.{then-n-least-via-then-n-least, then-n-least-via-else-n-least+then-n-most}
use Rattle.pdc_command_line.proofs.number.number.Goals as goal

pub returns-clause-found : goal.returns-clause-found
returns-clause-found c =
    is_number c.args.text.now c.parse.result c.in-Ok.n c.parse.ensures.value.0 (sym (c.if-not-are_digits.ensures ∙ ap all_ascii_digits c.as_bytes.ensures.value)) c.in-Ok.is

pub returns-clause-only : goal.returns-clause-only
returns-clause-only c = λ n number least most.
    let parsed = is_parsed c.args.text.now c.parse.result n c.parse.ensures.value.0 number (omega arith) in
    ap Some (same_answer c.in-Ok.n n (sym c.in-Ok.is ∙ parsed))

pub returns-then-n-least-clause-only : goal.returns-then-n-least-clause-only
returns-then-n-least-clause-only c = λ n number least most.
    let parsed = is_parsed c.args.text.now c.parse.result n c.parse.ensures.value.0 number (omega arith) in
    let same : c.in-Ok.n ≡ n = same_answer c.in-Ok.n n (sym c.in-Ok.is ∙ parsed) in
    elim c.then-n-least.branch [ then-n-least-via-then-n-least w ↦ absurd (omega (arith, same)) | then-n-least-via-else-n-least+then-n-most w ↦ absurd (omega (arith, same)) ]

pub returns-in_default-clause-only : goal.returns-in_default-clause-only
returns-in_default-clause-only c = λ n number least most.
    let parsed = is_parsed c.args.text.now c.parse.result n c.parse.ensures.value.0 number (omega arith) in
    absurd (c.in_default.not-Ok n parsed)
