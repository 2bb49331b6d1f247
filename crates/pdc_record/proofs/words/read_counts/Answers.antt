use Rattle.std.proofs.Common.{arith}
use Rattle.pdc_record.proofs.Numbers.{words_read}
use Rattle.pdc_record.proofs.words.read_counts.Goals as goal

pub returns-clause-value : goal.returns-clause-value
returns-clause-value c = words_read c.args.bytes.now c.read_u16_into.new.dst (omega (arith, c.requires, c.read_u16_into.auto.dst)) (λ i. omega (arith, c.type_inv.bytes i)) c.read_u16_into.ensures
