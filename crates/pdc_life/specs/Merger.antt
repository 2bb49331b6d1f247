-- The rules of the merger: two lanes, and a stream for each node, whose layouts say what its data means.
use Rattle.std.specs.Prelude.{if◌then◌else◌, ◌&&◌, ◌*◌, ◌++◌, ◌+◌, ◌==◌, ◌||◌, ◌∷◌}
use Rattle.pdc_life.specs.Names.{[], Bool, CellView, drop, false, length, List, list_any, map, nat_eq, nat_lt, None, not, Option, pointwise, SectionFields, Some, stamp_words, sum, take, word_count_of, words_in, ℕ}
use Rattle.pdc_row.specs.declared.row_frame.TheConstants.{OWN_BLOCK_LEN}
use Rattle.pdc_life.specs.Answer.{answer_in_time, bare}
use Rattle.pdc_life.specs.Arrival.{Arrival, Stamp, BytesRefused, Data, Layout}
use Rattle.pdc_life.specs.Given.{Given}
use Rattle.pdc_life.specs.Life.{Answer, Entry, Arrive, held_section, is_candidate, section_in_force}
use Rattle.pdc_life.specs.Node.{cell_under}
use Rattle.pdc_life.specs.declared.outcome.Outcome.{Outcome}
use Rattle.pdc_life.specs.declared.outcome.Outcome.TheVariants.{Candidate, Known, Refused}
use Rattle.pdc_life.specs.declared.outcome.Refusal.TheVariants.{CountConflict, NoConfig, OldStamp, OtherStamp, BadOwnBlock, WrongLength}

-- the layout of a node that was accepted last: its stamp, and its sections of PMUs, each with its column
pub record HeldLayout : Type 0 where
  pub stamp : Stamp
  pub sections : List (ℕ × SectionFields)

abbrev pub held_layout : List Entry → (s : ℕ) → Option HeldLayout
held_layout [] s = None
held_layout (Arrive r bytes (Layout (Some stamp) sections) answer ∷ E) s =
    if (r == s) && is_candidate answer.outcome then Some (record { stamp = stamp; sections = sections }) else held_layout E s
held_layout (e ∷ E) s = held_layout E s

-- Stamps compare by the start, then by the change.
abbrev pub is_older : Stamp → Stamp → Bool
is_older a b = nat_lt a.start b.start || ((a.start == b.start) && nat_lt a.change b.change)

-- the same count with other bytes
abbrev pub differs_from : Option SectionFields → SectionFields → Bool
differs_from None s = false
differs_from (Some t) s = (t.count == s.count) && not (pointwise nat_eq t.bytes s.bytes)

-- some section has the count of the one that is held of its column, or in force, and other bytes
abbrev pub has_count_conflict : Given → List Entry → List (ℕ × SectionFields) → Bool
has_count_conflict g E sections =
    list_any (λ (part : ℕ × SectionFields). differs_from (held_section g E part.0) part.1 || differs_from (section_in_force g E part.0) part.1) sections

-- A layout is new where its stamp is above the held one of its node; at the held stamp nothing more is looked at.
abbrev pub layout_answer : Option HeldLayout → Stamp → (conflicts : Bool) → Outcome
layout_answer None stamp conflicts = if conflicts then Refused CountConflict else Candidate
layout_answer (Some held) stamp conflicts =
    if is_older stamp held.stamp then Refused OldStamp
    else (if not (is_older held.stamp stamp) then Known
    else (if conflicts then Refused CountConflict else Candidate))

-- a section whose count is the one in force of its column
abbrev pub is_in_force : SectionFields → Option SectionFields → Bool
is_in_force s None = false
is_in_force s (Some t) = s.count == t.count

-- The cells that data of a node gives, cut under the sections of its layout: one for each section with the count in force.
abbrev pub merged_cells : Given → List Entry → (quality : ℕ) → List (ℕ × SectionFields) → (words : List ℕ) → List (ℕ × CellView)
merged_cells g E quality [] words = []
merged_cells g E quality (part ∷ parts) words =
    (if is_in_force part.1 (section_in_force g E part.0)
    then (part.0, cell_under part.1 quality (take (word_count_of part.1.shape) words)) ∷ [] else [])
    ++ merged_cells g E quality parts (drop (word_count_of part.1.shape) words)

-- the bytes of the own block, and what data under these sections has
abbrev pub payload_len : List (ℕ × SectionFields) → ℕ
payload_len sections = OWN_BLOCK_LEN + sum (map (λ (part : ℕ × SectionFields). 2 * word_count_of part.1.shape) sections)

-- the digital words of the own block, which stands first: STAT, FREQ and DFREQ come before them
abbrev pub own_words : List ℕ → List ℕ
own_words payload = drop 3 (take 7 (words_in payload))

-- Data of a node is read under its held layout, where it bears that stamp.
abbrev pub merged_data_answer : Given → List Entry → (s i quality : ℕ) → (payload : List ℕ) → Option HeldLayout → Answer
merged_data_answer g E s i quality payload None = bare (Refused NoConfig)
merged_data_answer g E s i quality payload (Some held) =
    if nat_lt (length payload) OWN_BLOCK_LEN then bare (Refused WrongLength)
    else (if not (pointwise nat_eq (own_words payload) (stamp_words held.stamp.start held.stamp.change)) then bare (Refused OtherStamp)
    else (if not (length payload == payload_len held.sections) then bare (Refused WrongLength)
    else answer_in_time g E s i (merged_cells g E quality held.sections (drop 7 (words_in payload)))))

-- The answer to what arrives from a node after E.
abbrev pub merged_answer : Given → List Entry → ℕ → Arrival → Answer
merged_answer g E s (BytesRefused refusal) = bare (Refused refusal)
merged_answer g E s (Data i quality payload) = merged_data_answer g E s i quality payload (held_layout E s)
merged_answer g E s (Layout (Some stamp) sections) = bare (layout_answer (held_layout E s) stamp (has_count_conflict g E sections))
merged_answer g E s (Layout None sections) = bare (Refused BadOwnBlock)
