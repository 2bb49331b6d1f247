use Rattle.std.proofs.Common.{◌+◌, ℕ, ap, length, refl, ◌∙◌}
use Rattle.std.specs.Int.{w16, to_be_bytes}
use Rattle.pdc_frame.specs.Frame.{fields_of, header_of}
use Rattle.pdc_frame.proofs.Framed.{header_is_bytes}
use Rattle.pdc_frame.proofs.writing.check_bytes.Goals as goal

pub returns : goal.returns
returns c =
    let size : ℕ = length c.args.payload.now + 16 in
    c.to_be_bytes.ensures
    ∙ ap (to_be_bytes w16) (c.check_word_behind.ensures (header_of (fields_of c.args.head.now) size) (header_is_bytes c.args.head.now size) refl c.header_number.ensures)
