-- Data in time.
use Rattle.std.specs.Prelude.{◌*◌, ◌+◌, ◌<◌, ◌↔◌, ◌≡◌, ◌≤◌}
use Rattle.pdc_life.specs.Lives.{AreBelow, CellView, closed, CoreKind, Data, Entry, Given, held_instants, held_layout, HeldLayout, is_near, last_of, length, List, list_all, None, now_of, OfMerger, OfNode, outcome_in_time, own_words, payload_len, row_instants, rules_of, section_in_force, SectionFields, Some, stamp_words, take_of, Taken, true, word_count_of, ℕ}

-- The instant is in time for the stream: above the last one closed, at most ahead above now, and near every instant held, and
-- nothing was taken of the stream for it.
pub record ComesInTime (g : Given) (E : List Entry) (s i : ℕ) : Type 0 where
  pub later : last_of g E < i
  pub not_ahead : i ≤ now_of g E + g.ahead
  pub near : list_all (is_near g.window i) (held_instants g E) ≡ true
  pub first : take_of g E s i ≡ None

-- What is taken came in time, and what comes in time is taken: the common end of all data answers.
abbrev pub TakenIsInTime : Type 0
TakenIsInTime = (g : Given) (E : List Entry) (s i : ℕ) (cells : List (ℕ × CellView)) → (outcome_in_time g E s i cells ≡ Taken) ↔ ComesInTime g E s i

-- At a node a section is in force, and the data has its length.
pub record IsOfSection (g : Given) (E : List Entry) (p : ℕ) (payload : List ℕ) : Type 0 where
  pub section : SectionFields
  pub in_force : section_in_force g E p ≡ Some section
  pub size : length payload ≡ 2 * word_count_of section.shape

-- At the merger a layout of the node is held, and the data bears its stamp and has the length of its sections.
pub record IsOfLayout (E : List Entry) (s : ℕ) (payload : List ℕ) : Type 0 where
  pub layout : HeldLayout
  pub held : held_layout E s ≡ Some layout
  pub stamp : own_words payload ≡ stamp_words layout.stamp.start layout.stamp.change
  pub size : length payload ≡ payload_len layout.sections

abbrev pub CanBeCut : CoreKind → Given → List Entry → (s : ℕ) → (payload : List ℕ) → Type 0
CanBeCut (OfNode settings) g E p payload = IsOfSection g E p payload
CanBeCut (OfMerger settings) g E s payload = IsOfLayout E s payload

-- The data can be cut, and its instant is in time.
pub record Takes (kind : CoreKind) (g : Given) (E : List Entry) (s i : ℕ) (payload : List ℕ) : Type 0 where
  pub of_stream : CanBeCut kind g E s payload
  pub in_time : ComesInTime g E s i

abbrev pub TakesInTime : Type 0
TakesInTime =
    (kind : CoreKind) (g : Given) (E : List Entry) (s i quality : ℕ) (payload : List ℕ) →
    ((rules_of kind g E s (Data i quality payload)).outcome ≡ Taken) ↔ Takes kind g E s i payload

-- An instant that closed never opens again: data is taken only for an instant above the floor and each one that closed.
abbrev pub ClosedStayClosed : Type 0
ClosedStayClosed =
    (kind : CoreKind) (g : Given) (E : List Entry) (s i quality : ℕ) (payload : List ℕ) →
    (rules_of kind g E s (Data i quality payload)).outcome ≡ Taken → (g.floor < i) × AreBelow i (row_instants (closed E))
