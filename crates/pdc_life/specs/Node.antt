-- The rules of a node: one lane, and a stream for each PMU.
use Rattle.std.specs.Prelude.{if◌then◌else◌, ◌*◌, ◌==◌, ◌∷◌}
use Rattle.pdc_life.specs.Names.{[], CellView, length, List, nat_eq, nat_lt, None, not, Option, pointwise, SectionFields, Some, TooMany, word_count_of, words_in, ℕ}
use Rattle.pdc_life.specs.Answer.{answer_in_time, bare}
use Rattle.pdc_life.specs.Arrival.{Arrival, BytesRefused, Data, Layout}
use Rattle.pdc_life.specs.Given.{Given, count_for}
use Rattle.pdc_life.specs.Life.{Answer, Entry, held_section, section_in_force}
use Rattle.pdc_life.specs.declared.outcome.Outcome.{Outcome}
use Rattle.pdc_life.specs.declared.outcome.Outcome.TheVariants.{Candidate, Known, Refused}
use Rattle.pdc_life.specs.declared.outcome.Refusal.TheVariants.{CountConflict, NoConfig, NoConfiguration, StaleCount, WrongLength}

-- the cell that words give under a section
abbrev pub cell_under : SectionFields → (quality : ℕ) → (words : List ℕ) → CellView
cell_under s quality words = record { block = record { shape = s.shape; words = words }; quality = quality }

-- Data of a PMU gives the cell of its column, under the section in force.
abbrev pub data_answer : Given → List Entry → (p i quality : ℕ) → (payload : List ℕ) → Option SectionFields → Answer
data_answer g E p i quality payload None = bare (Refused NoConfig)
data_answer g E p i quality payload (Some s) =
    if not (length payload == 2 * word_count_of s.shape) then bare (Refused WrongLength)
    else answer_in_time g E p i ((p, cell_under s quality (words_in payload)) ∷ [])

-- a section after the one that is held: stale below its count, new above it, and at the same count known where it has the same bytes
abbrev pub section_after : Option SectionFields → SectionFields → Outcome
section_after None s = Candidate
section_after (Some held) s =
    if nat_lt s.count held.count then Refused StaleCount
    else (if nat_lt held.count s.count then Candidate
    else (if pointwise nat_eq held.bytes s.bytes then Known else Refused CountConflict))

-- A section below the opening count is stale, also where nothing is held.
abbrev pub section_answer : (opening : ℕ) → Option SectionFields → SectionFields → Outcome
section_answer opening held s = if nat_lt s.count opening then Refused StaleCount else section_after held s

-- The answer to what arrives for a PMU after E.
abbrev pub node_answer : Given → List Entry → ℕ → Arrival → Answer
node_answer g E p (BytesRefused refusal) = bare (Refused refusal)
node_answer g E p (Data i quality payload) = data_answer g E p i quality payload (section_in_force g E p)
node_answer g E p (Layout stamp ((c, s) ∷ [])) = bare (section_answer (count_for p g.counts) (held_section g E p) s)
node_answer g E p (Layout stamp sections) = bare (Refused (NoConfiguration TooMany))
