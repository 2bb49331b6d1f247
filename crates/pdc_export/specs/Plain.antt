-- Names that a spreadsheet takes for texts.
use Rattle.std.specs.Prelude.{ℕ, Bool, false, ◌||◌, ◌==◌, List, [], ◌∷◌, if◌then◌else◌}

-- by its first byte it would take it for a formula: `=`, `+`, `-`, `@`, a tab or a carriage return
abbrev pub begins_formula : ℕ → Bool
begins_formula byte = byte == 61 || (byte == 43 || (byte == 45 || (byte == 64 || (byte == 9 || byte == 13))))

abbrev pub is_formula : List ℕ → Bool
is_formula [] = false
is_formula (byte ∷ bytes) = begins_formula byte

-- such a name stands behind a `'`
abbrev pub plain_name : List ℕ → List ℕ
plain_name name = if is_formula name then 39 ∷ name else name
