use Rattle.std.proofs.Common.{◌+◌, List, ℕ, ◌++◌, length, ap, append_assoc, ◌∙◌}
use Rattle.pdc_frame.specs.Frame.{Fields, header_of, fields_of, before_check}
use Rattle.pdc_frame.proofs.Framed.{writable}
use Rattle.pdc_frame.proofs.writing.write_frame.Goals as goal

pub returns-in_err-begin_frame-clause-frame : goal.returns-in_err-begin_frame-clause-frame
returns-in_err-begin_frame-clause-frame g c = writable c.args.frame.now c.in_err-begin_frame.ensures.soc c.in_err-begin_frame.ensures.quality c.payload_len.ensures.bytes

pub returns-clause-frame : goal.returns-clause-frame
returns-clause-frame g c = writable c.args.frame.now c.in_ok-begin_frame.ensures.soc c.in_ok-begin_frame.ensures.quality c.payload_len.ensures.bytes

pub returns-clause-ok : goal.returns-clause-ok
returns-clause-ok g c =
    let f : Fields = fields_of c.args.frame.now in
    let header : List ℕ = header_of f (length f.payload + 16) in
    let old : List ℕ = g.B.Buffer.content c.args.out.now in
    let begun = c.in_ok-begin_frame.ensures.ok ∙ ap (λ (n : ℕ). old ++ header_of f (n + 16)) c.payload_len.ensures.value in
    let joined = c.append_bytes.ensures.bytes ∙ ap (λ (xs : List ℕ). xs ++ f.payload) begun ∙ append_assoc old header f.payload in
    c.append_few.ensures.bytes ∙ ap (λ (xs : List ℕ). xs ++ c.check_bytes.result) joined ∙ append_assoc old (before_check f) c.check_bytes.result
    ∙ ap (λ (xs : List ℕ). old ++ (before_check f ++ xs)) c.check_bytes.ensures
