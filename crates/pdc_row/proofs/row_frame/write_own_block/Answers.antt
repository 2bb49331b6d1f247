use Rattle.std.proofs.Common.{◌≡◌, ℕ, ◌/◌, ◌%◌, List, [], ◌∷◌, get_or, ap, arith, refl, ◌∙◌}
use Rattle.std.specs.Int.{w32, to_be_bytes}
use Rattle.pdc_row.specs.pdc_block.Block.{bytes_of_words}
use Rattle.pdc_row.specs.Layout.{own_block}
use Rattle.pdc_row.proofs.row_frame.write_own_block.Goals as goal

-- the bytes of the own block, by those of the two numbers
abbrev own : (start change : List ℕ) → List ℕ
own s c =
    0 ∷ 0 ∷ 0 ∷ 0 ∷ 0 ∷ 0 ∷ get_or s 0 0 ∷ get_or s 1 0 ∷ get_or s 2 0 ∷ get_or s 3 0
    ∷ get_or c 0 0 ∷ get_or c 1 0 ∷ get_or c 2 0 ∷ get_or c 3 0 ∷ []

own_bytes : (s c : ℕ) → own (to_be_bytes w32 s) (to_be_bytes w32 c) ≡ bytes_of_words (own_block s c)
own_bytes s c =
    let s0 : s / 16777216 % 256 ≡ s / 65536 / 256 % 256 = omega arith in
    let s2 : s / 256 % 256 ≡ s % 65536 / 256 % 256 = omega arith in
    let s3 : s % 256 ≡ s % 65536 % 256 = omega arith in
    let c0 : c / 16777216 % 256 ≡ c / 65536 / 256 % 256 = omega arith in
    let c2 : c / 256 % 256 ≡ c % 65536 / 256 % 256 = omega arith in
    let c3 : c % 256 ≡ c % 65536 % 256 = omega arith in
    rw (s0, s2, s3, c0, c2, c3) refl

pub returns : goal.returns
returns c =
    c.copy_from_slice.ensures.after ∙ ap (λ (s : List ℕ). own s c.to_be_bytes-2.result) c.to_be_bytes.ensures
    ∙ ap (own (to_be_bytes w32 c.args.start)) c.to_be_bytes-2.ensures ∙ own_bytes c.args.start c.args.change
