-- Words of a line of a script: they stand apart by one space.
use Rattle.std.specs.Prelude.{◌≡◌, refl, ℕ, ◌+◌, ◌==◌, Bool, List, take, drop, Option, None, Some, codes, position}

abbrev pub is_space : ℕ → Bool
is_space byte = byte == 32

-- a word, and what stands behind the space that ends it, where there is one
pub record Cut : Type 0 where
  pub word : List ℕ
  pub rest : Option (List ℕ)

abbrev pub cut_at : Option ℕ → List ℕ → Cut
cut_at None text = record { word = text; rest = None }
cut_at (Some place) text = record { word = take place text; rest = Some (drop (place + 1) text) }

-- the first word of the text
abbrev pub cut : List ℕ → Cut
cut text = cut_at (position is_space text) text

-- Worked: a word alone, the first of three, and one behind which a space stands.
pub one_word : cut (codes "stop") ≡ record { word = codes "stop"; rest = None }
one_word = refl

pub three_words : cut (codes "to A 0") ≡ record { word = codes "to"; rest = Some (codes "A 0") }
three_words = refl

pub space_behind : cut (codes "A ") ≡ record { word = codes "A"; rest = Some (codes "") }
space_behind = refl
