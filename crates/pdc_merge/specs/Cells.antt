-- What data of a node gives under a held layout, by what is kept.
use Rattle.std.specs.Prelude.{ℕ, ◌+◌, ◌*◌, ◌==◌, Bool, false, ◌||◌, not, if◌then◌else◌, List, [], ◌∷◌, ◌++◌, drop, length, nat_eq, nat_lt, sum_by, take, Option, None, Some}
use Rattle.std.specs.List.{list_all, list_any}
use Rattle.std.specs.Cmp.Lexicographic.{pointwise}
use Rattle.pdc_cfg.specs.Section.{SectionFields}
use Rattle.pdc_cfg.specs.Shape.{word_count_of}
use Rattle.pdc_row.specs.CellView.{CellView}
use Rattle.pdc_row.specs.Layout.{stamp_words}
use Rattle.pdc_life.specs.declared.outcome.Refusal.{Refusal}
use Rattle.pdc_life.specs.declared.outcome.Refusal.TheVariants.{OtherStamp, WrongLength}
use Rattle.pdc_life.specs.Merger.{differs_from, own_words}
use Rattle.pdc_align.specs.Align.{State}
use Rattle.pdc_align.specs.Calls.{column_in}
use Rattle.pdc_merge.specs.Held.{LayoutView, LayoutsView}
use Rattle.pdc_merge.specs.declared.in_force.InForce.{InForce}
use Rattle.pdc_merge.specs.declared.held_layout.HeldSection.{HeldSection}
use Rattle.pdc_row.specs.declared.row_frame.TheConstants.{OWN_BLOCK_LEN}

-- the section in force has this count
abbrev pub has_count : Option SectionFields → (count : ℕ) → Bool
has_count None count = false
has_count (Some t) count = count == t.count

-- the cell of a section with these words, where its column has the count of the section in force
abbrev pub cell_in : Option SectionFields → (quality : ℕ) → HeldSection → (words : List ℕ) → List (ℕ × CellView)
cell_in in_force quality s words =
    if has_count in_force s.count then (s.column, record { block = record { shape = s.shape; words = words }; quality = quality }) ∷ [] else []

-- the count of each section is in force
abbrev pub are_in_force : State → List HeldSection → Bool
are_in_force a sections = list_all (λ (s : HeldSection). has_count (column_in a s.column).in_force s.count) sections

-- a layout is held, and the count of each of its sections is in force
abbrev pub is_in_force : State → Option LayoutView → Bool
is_in_force a None = false
is_in_force a (Some layout) = are_in_force a layout.sections

-- of which nodes it is so
abbrev pub layouts_in_force : State → LayoutsView → InForce
layouts_in_force a held = record { first = is_in_force a held.first; second = is_in_force a held.second }

-- of none
abbrev pub none_in_force : InForce
none_in_force = record { first = false; second = false }

-- whether it is so of the node of a stream
abbrev pub is_at : InForce → (stream : ℕ) → Bool
is_at in_force stream = if stream == 0 then in_force.first else in_force.second

-- the cells of all sections, cut one after the other
abbrev pub cells_in : State → (quality : ℕ) → List HeldSection → (words : List ℕ) → List (ℕ × CellView)
cells_in a quality [] words = []
cells_in a quality (s ∷ sections) words =
    cell_in (column_in a s.column).in_force quality s (take (word_count_of s.shape) words)
    ++ cells_in a quality sections (drop (word_count_of s.shape) words)

-- the bytes of the blocks of these sections
abbrev pub blocks_len : List HeldSection → ℕ
blocks_len sections = sum_by (λ (s : HeldSection). 2 * word_count_of s.shape) sections

-- why data is refused under a layout: the first cause that holds
abbrev pub data_refusal : LayoutView → (payload : List ℕ) → Option Refusal
data_refusal layout payload =
    if nat_lt (length payload) OWN_BLOCK_LEN then Some WrongLength
    else (if not (pointwise nat_eq (own_words payload) (stamp_words layout.stamp.start layout.stamp.change)) then Some OtherStamp
    else (if not (length payload == OWN_BLOCK_LEN + blocks_len layout.sections) then Some WrongLength
    else None))

-- some section has the count of the one that is held of its column, or in force, and other bytes
abbrev pub conflicts_in : State → List (ℕ × SectionFields) → Bool
conflicts_in a parts =
    list_any (λ (part : ℕ × SectionFields). differs_from (column_in a part.0).held part.1 || differs_from (column_in a part.0).in_force part.1) parts
