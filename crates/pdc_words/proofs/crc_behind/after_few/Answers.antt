use Rattle.std.proofs.Common.{◌≡◌, ℕ, ◌*◌, ◌^◌, arith, length, rules, subst, sym}
use Rattle.pdc_words.specs.CheckWord.{IsRemainder}
use Rattle.pdc_words.proofs.WordSteps.{few_then, narrow_state, none_then}
use Rattle.pdc_words.proofs.crc_behind.after_few.Goals as goal

pub returns-then-is_empty : goal.returns-then-is_empty
returns-then-is_empty c =
    let none : length c.args.payload.now ≡ 0 = search rules in
    record {
      step = λ check h. subst (λ (r : ℕ). IsRemainder (c.narrowed-state.result * 2 ^ 16) r) (sym (none_then check c.args.payload.now none))
          (narrow_state _ _ check c.narrowed-state.ensures h);
    }

pub returns : goal.returns
returns c = record {
  step = λ check h. few_then c.narrowed-state.result _ _ check c.args.payload.now (λ i. omega (arith, c.type_inv.payload i)) c.requires
      (narrow_state _ _ check c.narrowed-state.ensures h) c.moved_up.ensures c.read_few.ensures;
}
