use Rattle.std.proofs.Common.{◌≡◌, ◌+◌, ◌*◌, ◌%◌, ◌^◌, arith}
use Rattle.pdc_frame.proofs.writing.header_bytes.Goals as goal

pub returns-clause-value : goal.returns-clause-value
returns-clause-value c =
    let fracsec : c.from.result * 2 ^ 24 % 2 ^ 32 + c.args.head.now.frac ≡ c.args.head.now.quality * 2 ^ 24 + c.args.head.now.frac = omega (arith, c.from.ensures, c.from.type_inv) in
    rw (c.write_u32-2.ensures, c.write_u32.ensures, c.write_u16-2.ensures, c.write_u16.ensures, c.kind_number.ensures.value, fracsec)
