use Rattle.std.proofs.Common.{◌≡◌, ◌*◌, length, arith}
use Rattle.pdc_mark.proofs.Counts.{counts_read}
use Rattle.pdc_mark.proofs.slot.read_counts.Goals as goal

pub returns : goal.returns
returns c =
    let long : length c.args.bytes.now ≡ 2 * length c.read_u16_into.new.dst = omega (arith, c.requires, c.read_u16_into.auto.dst) in
    counts_read c.args.bytes.now c.read_u16_into.new.dst long c.read_u16_into.ensures
