use Rattle.std.proofs.Common.{rules}
use Rattle.pdc_record.specs.Told.{Fields, fields_of}
use Rattle.pdc_record.specs.Entries.{Begins}
use Rattle.pdc_record.proofs.Entries.{check_cause, misread, no_size_cause, read_found, read_len, read_only, size_cause, unsaid, unsaid_cause}
use Rattle.pdc_record.proofs.reading.read_entry.Goals as goal

pub returns-in-Err-clause-only : goal.returns-in-Err-clause-only
returns-in-Err-clause-only c = λ f h. no_size_cause c.args.bytes.now f h c.in-Err.cause c.in-Err.ensures.fault

pub returns-in-Err-clause-fault : goal.returns-in-Err-clause-fault
returns-in-Err-clause-fault c = size_cause c.args.bytes.now c.in-Err.cause c.in-Err.ensures.fault

pub returns-in-None-clause-only : goal.returns-in-None-clause-only
returns-in-None-clause-only c = unsaid c.args.bytes.now c.split_at.result.0.now c.in-Ok.len c.in-Ok.ensures.whole.0 c.in-Ok.ensures.whole.1 c.split_at.ensures.front c.in-None.ensures

pub returns-in-None-clause-fault : goal.returns-in-None-clause-fault
returns-in-None-clause-fault c = unsaid_cause c.args.bytes.now c.split_at.result.0.now c.in-Ok.len c.in-Ok.ensures.whole.0 c.in-Ok.ensures.whole.1 c.split_at.ensures.front c.in-None.ensures

pub returns-then-check-check_word-clause-only : goal.returns-then-check-check_word-clause-only
returns-then-check-check_word-clause-only c = misread c.args.bytes.now c.split_at.result.0.now c.in-Ok.len c.in-Ok.ensures.whole.0 c.in-Ok.ensures.whole.1 c.split_at.ensures.front
    c.split_at.result.1.now c.split_word-check.result.1.now c.split_word-check.result.0 c.check_word.result c.split_at.ensures.back c.split_word-check.ensures.joined
    (search rules) c.check_word.type_inv c.check_word.ensures.value c.if-check-check_word.true

pub returns-then-check-check_word-clause-fault : goal.returns-then-check-check_word-clause-fault
returns-then-check-check_word-clause-fault c = check_cause c.args.bytes.now c.split_at.result.0.now c.in-Ok.len c.in-Ok.ensures.whole.0 c.in-Ok.ensures.whole.1 c.split_at.ensures.front
    c.split_at.result.1.now c.split_word-check.result.1.now c.split_word-check.result.0 c.check_word.result c.split_at.ensures.back c.split_word-check.ensures.joined
    (search rules) c.check_word.type_inv c.check_word.ensures.value (fields_of c.in-Some.entry) c.in-Some.ensures c.if-check-check_word.true

pub returns-clause-found : goal.returns-clause-found
returns-clause-found c =
    let f : Fields = fields_of c.in-Some.entry in
    let found : Begins c.args.bytes.now f = read_found c.args.bytes.now c.split_at.result.0.now c.in-Ok.len c.in-Ok.ensures.whole.0 c.in-Ok.ensures.whole.1 c.split_at.ensures.front
    c.split_at.result.1.now c.split_word-check.result.1.now c.split_word-check.result.0 c.check_word.result c.split_at.ensures.back c.split_word-check.ensures.joined
    (search rules) c.check_word.type_inv c.check_word.ensures.value f c.in-Some.ensures c.if-check-check_word.false in (
      found,
      read_len c.args.bytes.now c.split_at.result.0.now c.in-Ok.len c.in-Ok.ensures.whole.0 c.in-Ok.ensures.whole.1 c.split_at.ensures.front
          c.split_at.result.1.now c.split_word-check.result.1.now c.split_word-check.result.0 c.check_word.result c.split_at.ensures.back c.split_word-check.ensures.joined
          (search rules) c.check_word.type_inv c.check_word.ensures.value f found,
    )

pub returns-clause-only : goal.returns-clause-only
returns-clause-only c = λ g h. (
  read_only c.args.bytes.now c.split_at.result.0.now c.in-Ok.len c.in-Ok.ensures.whole.0 c.in-Ok.ensures.whole.1 c.split_at.ensures.front
      c.split_at.result.1.now c.split_word-check.result.1.now c.split_word-check.result.0 c.check_word.result c.split_at.ensures.back c.split_word-check.ensures.joined
      (search rules) c.check_word.type_inv c.check_word.ensures.value (fields_of c.in-Some.entry) g c.in-Some.ensures c.if-check-check_word.false h,
  read_len c.args.bytes.now c.split_at.result.0.now c.in-Ok.len c.in-Ok.ensures.whole.0 c.in-Ok.ensures.whole.1 c.split_at.ensures.front
      c.split_at.result.1.now c.split_word-check.result.1.now c.split_word-check.result.0 c.check_word.result c.split_at.ensures.back c.split_word-check.ensures.joined
      (search rules) c.check_word.type_inv c.check_word.ensures.value g h,
)
