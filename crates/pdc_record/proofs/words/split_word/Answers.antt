use Rattle.std.proofs.Common.{arith}
use Rattle.pdc_record.proofs.Numbers.{split_2}
use Rattle.pdc_record.proofs.words.split_word.Goals as goal

pub returns-clause-joined : goal.returns-clause-joined
returns-clause-joined c = split_2 c.args.bytes.now c.in-Some.word.now c.in-Some.rest.now c.from_be_bytes.result (λ i. omega (arith, c.type_inv.bytes i)) c.requires c.in-Some.ensures.cases.0 c.in-Some.ensures.cases.1 c.from_be_bytes.ensures
