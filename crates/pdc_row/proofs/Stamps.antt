-- Own sections tell their stamps.
use Rattle.std.proofs.Common.{◌≡◌, ℕ, ◌+◌, ◌*◌, ◌/◌, ◌%◌, ◌^◌, ◌<◌, List, drop, get_or, sym, ap, ◌∙◌, arith}
use Rattle.pdc_row.specs.declared.output.Nominal.{Nominal}
use Rattle.pdc_row.specs.Layout.{own_bytes}
use Rattle.pdc_row.specs.Laws.{OwnSectionsTellStamps}

-- the word at a place behind the names, which take 1050 bytes
abbrev word_behind : ℕ → List ℕ → ℕ
word_behind n bytes = 256 * get_or (drop 1050 bytes) n 0 + get_or (drop 1050 bytes) (n + 1) 0

first_word : (id : ℕ) (m : Nominal) (start change : ℕ) → start < 2 ^ 32 → word_behind 0 (own_bytes id m start change) ≡ start / 2 ^ 16
first_word id m start change h = omega (arith, h)

second_word : (id : ℕ) (m : Nominal) (start change : ℕ) → word_behind 4 (own_bytes id m start change) ≡ start % 2 ^ 16
second_word id m start change = omega arith

third_word : (id : ℕ) (m : Nominal) (start change : ℕ) → change < 2 ^ 32 → word_behind 8 (own_bytes id m start change) ≡ change / 2 ^ 16
third_word id m start change h = omega (arith, h)

fourth_word : (id : ℕ) (m : Nominal) (start change : ℕ) → word_behind 12 (own_bytes id m start change) ≡ change % 2 ^ 16
fourth_word id m start change = omega arith

from_halves : (a b : ℕ) → a / 2 ^ 16 ≡ b / 2 ^ 16 → a % 2 ^ 16 ≡ b % 2 ^ 16 → a ≡ b
from_halves a b h k = omega (arith, h, k)

pub own_sections_tell_stamps : OwnSectionsTellStamps
own_sections_tell_stamps id other m n start change start' change' a b c d e = (
  from_halves start start' (sym (first_word id m start change a) ∙ ap (word_behind 0) e ∙ first_word other n start' change' c)
      (sym (second_word id m start change) ∙ ap (word_behind 4) e ∙ second_word other n start' change'),
  from_halves change change' (sym (third_word id m start change b) ∙ ap (word_behind 8) e ∙ third_word other n start' change' d)
      (sym (fourth_word id m start change) ∙ ap (word_behind 12) e ∙ fourth_word other n start' change'),
)
