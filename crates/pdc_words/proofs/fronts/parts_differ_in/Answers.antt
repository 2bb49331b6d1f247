use Rattle.std.proofs.Common.{◌≡◌, ◌∙◌, ◌++◌, List, ap, ap₂, arith, drop, length, sym, take, ℕ}
use Rattle.std.proofs.lemmas.Bool.{and_parts}
use Rattle.std.proofs.lemmas.List.{length-take-le, take-append-drop}
use Rattle.pdc_words.specs.Linear.{xor_bytes}
use Rattle.pdc_words.proofs.FrontLemmas.{xor_bytes-append}
use Rattle.pdc_words.proofs.fronts.parts_differ_in.Goals as goal

pub returns : goal.returns
returns c =
    λ e.
    let front : List ℕ = c.args.front.now in
    let header : List ℕ = c.args.header.now in
    let own : List ℕ = c.args.own.now in
    let parts = and_parts c.differ_in.result c.differ_in-2.result e in
    let len : length (take 14 front) ≡ length header = length-take-le 14 front (omega (arith, c.told-front)) ∙ sym c.told-header in
    ap (λ (xs : List ℕ). xor_bytes xs (header ++ own)) (sym (take-append-drop 14 front))
    ∙ xor_bytes-append (take 14 front) (drop 14 front) header own len
    ∙ ap₂ (λ (xs ys : List ℕ). xs ++ ys)
    (ap (λ (xs : List ℕ). xor_bytes xs header) (sym c.split_at.ensures.front) ∙ c.differ_in.ensures parts.0 ∙ c.split_at-2.ensures.front)
    (ap (λ (xs : List ℕ). xor_bytes xs own) (sym c.split_at.ensures.back) ∙ c.differ_in-2.ensures parts.1 ∙ c.split_at-2.ensures.back)
    ∙ take-append-drop 14 c.args.bytes.now
