use Rattle.std.proofs.Common.{◌≡◌, ◌∙◌, ℕ, ◌+◌, ◌*◌, ◌^◌, List, ap, arith, drop, length, length-drop, sym, take}
use Rattle.std.proofs.lemmas.List.{take-append-drop, take_all}
use Rattle.pdc_words.specs.CheckWord.{polynomial_of}
use Rattle.pdc_words.proofs.WordSteps.{polynomial_of-append}
use Rattle.pdc_words.proofs.crc_behind.number_of.Goals as goal

pub returns : goal.returns
returns c =
    let header : List ℕ = c.args.header.now in
    let rest : List ℕ = drop 8 header in
    let len : length rest ≡ 6 = omega (arith, length-drop 8 header, c.told-header) in
    let whole : polynomial_of header ≡ polynomial_of (take 8 header) * 2 ^ (8 * length rest) + polynomial_of rest =
    ap polynomial_of (sym (take-append-drop 8 header)) ∙ polynomial_of-append (take 8 header) rest in
    let sized : polynomial_of (take 8 header) * 2 ^ (8 * length rest) + polynomial_of rest ≡ polynomial_of (take 8 header) * 2 ^ 48 + polynomial_of rest =
    ap (λ (n : ℕ). polynomial_of (take 8 header) * 2 ^ (8 * n) + polynomial_of rest) len in
    let few : c.read_few-rest.result ≡ polynomial_of rest = c.read_few-rest.ensures ∙ ap polynomial_of (take_all 6 rest (omega (arith, len))) in
    omega (arith, whole ∙ sized, c.from.ensures, c.from-2.ensures, c.read_step.ensures, few, c.read_step.type_inv)
