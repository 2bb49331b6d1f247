use Rattle.std.proofs.Common.{◌≡◌, length, arith, rules}
use Rattle.pdc_record.proofs.Numbers.{length-words_of}
use Rattle.pdc_record.proofs.starts.program_len.Goals as goal

pub returns-clause-value : goal.returns-clause-value
returns-clause-value c =
    let size : length c.args.program.now ≡ 3 = search rules in
    omega (arith, length-words_of c.args.program.now, size)
