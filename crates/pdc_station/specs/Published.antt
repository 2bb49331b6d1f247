-- What a station's life has published grows by the frames that its publishes append, and by nothing else.
use Rattle.std.specs.{List.{concat}, Prelude.{◌++◌, ◌∷◌, ◌≡◌, List, Option, ℕ}}
use Rattle.pdc_row.specs.RowView.{RowView}
use Rattle.pdc_life.specs.{Arrival.{Arrival}, Given.{Given}, Life.{Answer, Arrive, Entry, Pop, Tick, TickAnswer}, Published.{published}}
use Rattle.pdc_station.specs.Station.{wire_of_some}

abbrev pub PopsArePublished : Type 0
PopsArePublished =
    (g : Given) (E : List Entry) (row : Option RowView) → concat (published g (Pop row ∷ E)) ≡ concat (published g E) ++ wire_of_some g.output row

abbrev pub ArrivalsPublishNothing : Type 0
ArrivalsPublishNothing =
    (g : Given) (E : List Entry) (s : ℕ) (bytes : List ℕ) (arrival : Arrival) (answer : Answer) → published g (Arrive s bytes arrival answer ∷ E) ≡ published g E

abbrev pub TicksPublishNothing : Type 0
TicksPublishNothing =
    (g : Given) (E : List Entry) (now : ℕ) (counts : List ℕ) (answer : TickAnswer) → published g (Tick now counts answer ∷ E) ≡ published g E
