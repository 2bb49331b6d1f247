use Rattle.std.proofs.Common.{ℕ, List, subst, arith}
use Rattle.pdc_cfg.specs.Config.{IsBodyFault, IsSome, body_in, section_count_in}
use Rattle.pdc_cfg.proofs.Configs.{no_fault_in, same_config}
use Rattle.pdc_cfg.proofs.Faults.{of_body}
use Rattle.std.proofs.lemmas.Result.{err_from_is_err_and}
use Rattle.pdc_cfg.proofs.reading.read_payload.Goals as goal

pub returns-in_err-read_sections-clause-only : goal.returns-in_err-read_sections-clause-only
returns-in_err-read_sections-clause-only c = λ config h. absurd (no_fault_in c.parts_keep_their_words.ensures _ config _ h (subst (λ (n : ℕ). IsBodyFault n (body_in c.args.payload.now) c.in_err-read_sections.field-0.0) c.read_word-count.ensures c.in_err-read_sections.ensures.fault))

pub returns-clause-only : goal.returns-clause-only
returns-clause-only c = λ config h. same_config c.words_are_their_bytes.ensures c.parts_keep_their_words.ensures c.args.payload.now _ config c.config_of.ensures h

pub returns-in_err-read_sections-clause-fault : goal.returns-in_err-read_sections-clause-fault
returns-in_err-read_sections-clause-fault c =
    let payload : List ℕ = c.args.payload.now in
    let fault = c.in_err-read_sections.field-0.0 in
    let p = err_from_is_err_and c.from_residual.result c.from_residual.ensures.1 in
    let inside : IsBodyFault (section_count_in payload) (body_in payload) fault = subst (λ (n : ℕ). IsBodyFault n (body_in payload) fault) c.read_word-count.ensures c.in_err-read_sections.ensures.fault in
    let some : IsSome payload = (omega (arith, c.read_word-count.ensures, c.if-count-eq0.false), omega (arith, c.read_word-count.ensures, c.from.ensures, c.if-from-gt-MAX_SECTIONS.false)) in
    rw (p.1, p.2) (of_body payload fault (c.if-payload-lt-FIXED_LEN.false, some, inside))
