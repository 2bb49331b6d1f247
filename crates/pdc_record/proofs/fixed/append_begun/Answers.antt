use Rattle.pdc_record.specs.Told.{start_of}
use Rattle.pdc_record.specs.Bodies.{back_of, front_of, words_of}
use Rattle.pdc_record.proofs.Numbers.{three_parts}
use Rattle.pdc_record.proofs.fixed.append_begun.Goals as goal

pub returns-clause-bytes : goal.returns-clause-bytes
returns-clause-bytes g c = three_parts (g.B.Buffer.content c.args.out.now) c.front_bytes.result c.count_bytes.result c.back_bytes.result _ _ _ (front_of (start_of c.args.begun.now)) (words_of c.args.begun.now.counts) (back_of (start_of c.args.begun.now))
    c.append_bytes.ensures.bytes c.append_bytes-2.ensures.bytes c.append_bytes-3.ensures.bytes c.front_bytes.ensures.value c.count_bytes.ensures.value c.back_bytes.ensures.value

pub returns-clause-fits : goal.returns-clause-fits
returns-clause-fits g c = record {
  id = c.front_bytes.ensures.id;
  rate = c.front_bytes.ensures.rate;
  start = c.front_bytes.ensures.start;
  floor = c.front_bytes.ensures.floor;
  counts = c.count_bytes.ensures.fits;
  now = c.back_bytes.ensures.now;
  program = c.back_bytes.ensures.program;
}
