use Rattle.std.proofs.Common.{◌≡◌, ℕ, List, sym, subst}
use Rattle.pdc_cfg.specs.Config.{IsBodyFault, body_in, section_count_in}
use Rattle.pdc_cfg.proofs.Configs.{no_fault_in, same_config}
use Rattle.pdc_cfg.proofs.reading.read_config.Goals as goal

pub returns-in_err-section-clause-only : goal.returns-in_err-section-clause-only
returns-in_err-section-clause-only c = λ config kind h.
    let payload : List ℕ = c.args.frame.now.payload.now in
    let one : section_count_in payload ≡ 1 = (c.has_one_section.ensures.0 c.if-has_one_section.true).1 in
    absurd (no_fault_in c.parts_keep_their_words.ensures _ config _ h (subst (λ (n : ℕ). IsBodyFault n (body_in payload) c.in_err-section.field-0.0) (sym one) c.in_err-section.ensures.fault))

pub returns-then-has_one_section-clause-only : goal.returns-then-has_one_section-clause-only
returns-then-has_one_section-clause-only c = λ config kind h. same_config c.words_are_their_bytes.ensures c.parts_keep_their_words.ensures c.args.frame.now.payload.now _ config c.config_of.ensures h
