-- What a reader of the streams sees of a world: the settings, the frames that were ever sent, and the rows that were published.
use Rattle.std.specs.Prelude.{[], ◌∷◌, filter, List, map, ℕ}
use Rattle.pdc_row.specs.Rising.{Rises}
use Rattle.pdc_history.specs.{Seen.{Seen}, World.{is_same, Who}}
use Rattle.pdc_history.specs.{declared.reply.Published.{Published}, Handed.{who_of}}
use Rattle.pdc_world.specs.Views.{WorldView}

-- what its calls `sent` and `frame` answer, and what it was opened with
abbrev pub seen_of : WorldView → Seen
seen_of v = record { a = v.a.core.settings; b = v.b.core.settings; m = v.m.core.settings; frames = v.ledger.frames }

-- what its call `published` answers
abbrev pub rows_of : WorldView → List Published
rows_of v = v.ledger.published

-- the instants that an owner published, in their order
abbrev pub instants_of : Who → List Published → List ℕ
instants_of who rows = map (λ (row : Published). row.instant) (filter (λ (row : Published). is_same (who_of row.who) who) rows)

-- the numbers strictly rise: 3, 5, 8
abbrev pub AreRising : List ℕ → Type 0
AreRising [] = Unit {0}
AreRising (n ∷ ns) = Rises n ns
