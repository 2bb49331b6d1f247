use Rattle.std.proofs.Common.{◌≡◌, ◌∙◌, ◌-◌, ◌*◌, ◌/◌, List, ℕ, ap, arith, length, replicate, set, take}
use Rattle.std.proofs.lemmas.List.{length-replicate, length-take-le}
use Rattle.pdc_row.specs.CellView.{BlockView}
use Rattle.pdc_row.proofs.AbsentBytes.{absent_bytes}
use Rattle.pdc_row.proofs.row_blocks.RowBlocks.put_absent.Goals as goal

pub returns : goal.returns
returns c =
    let s = c.args.shape in
    let n : ℕ = c.word_count-words.result in
    let m : ℕ = c.word_count-words.result - c.from.result in
    let long : length (take (2 * m) (replicate {A = ℕ} 214 0)) ≡ 2 * m =
    length-take-le (2 * m) (replicate {A = ℕ} 214 0) (omega (arith, length-replicate {A = ℕ} 214 0, c.word_count-words.ensures.most)) in
    c.put.ensures
    ∙ ap {B = List BlockView} (λ (ws : List ℕ). set c.args.self.now c.args.place (record { shape = s; words = ws }))
    (absent_bytes s.phasors s.analogs s.digitals n m ((length (take (2 * m) (replicate {A = ℕ} 214 0)) - 2) / 2) c.write_values.new.bytes
    (omega (arith, c.word_count-words.ensures.value)) (omega (arith, c.from.ensures)) (omega (arith, c.word_count-words.ensures.most))
    c.write_values.ensures (c.write_values.auto.bytes ∙ long) (ap (λ i. (i - 2) / 2) long))
