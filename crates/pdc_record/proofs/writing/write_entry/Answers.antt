use Rattle.std.proofs.Common.{◌≡◌, ◌+◌, List, ℕ, ◌∷◌, ◌++◌, length, ap, ◌∙◌, arith}
use Rattle.std.specs.Int.{w32, w64, to_be_bytes}
use Rattle.pdc_record.specs.Told.{Fields, fields_of}
use Rattle.pdc_record.specs.Bodies.{body_of}
use Rattle.pdc_record.proofs.Entries.{length-spelling, written}
use Rattle.pdc_record.proofs.writing.write_entry.Goals as goal

pub returns-clause-ok : goal.returns-clause-ok
returns-clause-ok g c =
    let f : Fields = fields_of c.args.entry.now in
    let old : List ℕ = g.B.Buffer.content c.args.out.now in
    let numbers : List ℕ = to_be_bytes w64 f.step ++ to_be_bytes w64 f.time in
    let len : c.entry_len-len.result ≡ length (body_of f.told) + 23 = omega (arith, c.entry_len-len.ensures.value, length-spelling f) in
    let head = c.head_bytes-head.ensures.value ∙ ap (λ (n : ℕ). to_be_bytes w32 n ++ (c.kind_number-kind.result ∷ numbers)) len ∙ ap (λ (n : ℕ). to_be_bytes w32 (length (body_of f.told) + 23) ++ (n ∷ numbers)) c.kind_number-kind.ensures in
    written f old _ _ _ _ _ (ap length c.content-start.ensures)
    (c.append_bytes.ensures.bytes ∙ ap (λ (xs : List ℕ). xs ++ c.head_bytes-head.result) c.make_room.ensures.bytes ∙ ap (λ (xs : List ℕ). old ++ xs) head)
    c.append_fixed.ensures.bytes
    (c.append_bytes-2.ensures.bytes ∙ ap (λ (xs : List ℕ). g.B.Buffer.content c.append_fixed.new.out ++ xs) c.rest_of-rest.ensures)
    c.end_frame.ensures.items

pub returns-clause-fits : goal.returns-clause-fits
returns-clause-fits g c = record {
  step = c.head_bytes-head.ensures.step;
  time = c.head_bytes-head.ensures.time;
  widths = c.append_fixed.ensures.fits;
  rest = omega (arith, ap length c.rest_of-rest.ensures, c.if-rest-gt-MAX_REST.false);
}
