-- The frames of a life, one by one.
use Rattle.std.proofs.Common.{◌≡◌, inl, inr, ℕ, Bool, true, false, List, [], ◌∷◌, ◌++◌, map, None, Some, if◌then◌else◌, refl, sym, ap, ◌∙◌, subst, append_assoc, append-nil}
use Rattle.std.specs.List.{AllByRecursion}
use Rattle.pdc_hub.proofs.Receiving.{among_last, among_more}
use Rattle.pdc_life.specs.CoreKind.{output_under}
use Rattle.pdc_life.specs.Gave.{IsExactRow, RowsAreExact}
use Rattle.pdc_life.specs.Given.{Given}
use Rattle.pdc_life.specs.Laws.{LivesAreRuns, RowsComeOutOnce, RowsRise}
use Rattle.pdc_life.specs.Life.{Arrive, Entry, Pop, Tick, now_of, popped, waiting}
use Rattle.pdc_life.specs.Published.{layout_wire}
use Rattle.pdc_log.specs.Among.{IsAmong}
use Rattle.pdc_row.specs.Layout.{wire_of}
use Rattle.pdc_row.specs.Rising.{Rises as IsRising}
use Rattle.pdc_row.specs.RowView.{RowView, row_instants}
use Rattle.pdc_row.specs.declared.output.Output.{Output}
use Rattle.pdc_aligner.specs.Exact.{FramesAreExact, IsExactFrame, PoppedRise, RowsAreSent}
use Rattle.pdc_aligner.specs.Laid.{frames_of, is_told, layout_in, second_at}

all_append : {A : Type 0} (P : A → Type 0) (xs ys : List A) → AllByRecursion P xs → AllByRecursion P ys → AllByRecursion P (xs ++ ys)
all_append P [] ys p q = q
all_append P (x ∷ xs) ys p q = (p.0, all_append P xs ys p.1 q)

all_front : {A : Type 0} (P : A → Type 0) (xs ys : List A) → AllByRecursion P (xs ++ ys) → AllByRecursion P xs
all_front P [] ys h = tt
all_front P (x ∷ xs) ys h = (h.0, all_front P xs ys h.1)

all_last : {A : Type 0} (P : A → Type 0) (xs : List A) (y : A) → AllByRecursion P (xs ++ y ∷ []) → P y
all_last P [] y h = h.0
all_last P (x ∷ xs) y h = all_last P xs y h.1

layout_then : (g : Given) (output : Output) (E later F : List Entry) (second : ℕ) (b : Bool) → E ≡ later ++ F → AllByRecursion (IsExactFrame g output E) (if b then layout_wire g F second ∷ [] else [])
layout_then g output E later F second true e = (inr (record { later = later; before = F; stands = e; second = second; wire = refl }), tt)
layout_then g output E later F second false e = tt

-- the frames of a beginning of the life
part : (g : Given) (output : Output) (rate every : ℕ) (E later F : List Entry) → E ≡ later ++ F → AllByRecursion (IsExactRow g E) (popped F) → AllByRecursion (IsExactFrame g output E) (frames_of g output rate every F)
part g output rate every E later [] e h = tt
part g output rate every E later (Arrive s bytes arrival answer ∷ F) e h =
    part g output rate every E (later ++ Arrive s bytes arrival answer ∷ []) F (e ∙ sym (append_assoc later (Arrive s bytes arrival answer ∷ []) F)) h
part g output rate every E later (Tick now counts answer ∷ F) e h =
    part g output rate every E (later ++ Tick now counts answer ∷ []) F (e ∙ sym (append_assoc later (Tick now counts answer ∷ []) F)) h
part g output rate every E later (Pop (Some row) ∷ F) e h =
    let before = e ∙ sym (append_assoc later (Pop (Some row) ∷ []) F) in
    all_append (IsExactFrame g output E) (frames_of g output rate every F) (wire_of output row ∷ [])
    (part g output rate every E (later ++ Pop (Some row) ∷ []) F before (all_front (IsExactRow g E) (popped F) (row ∷ []) h))
    (inl (record { row = row; wire = refl; exact = all_last (IsExactRow g E) (popped F) row h }), tt)
part g output rate every E later (Pop None ∷ F) e h =
    let before = e ∙ sym (append_assoc later (Pop None ∷ []) F) in
    all_append (IsExactFrame g output E) (frames_of g output rate every F) (layout_in g rate every F)
    (part g output rate every E (later ++ Pop None ∷ []) F before (all_front (IsExactRow g E) (popped F) [] h))
    (layout_then g output E (later ++ Pop None ∷ []) F (second_at rate (now_of g F)) (is_told every F) before)

pub frames_are_exact : LivesAreRuns → RowsAreExact → FramesAreExact
frames_are_exact runs exact kind g E rate every sent rest life e =
    let rows = exact g E (runs kind g E life) in
    all_front (IsExactFrame g (output_under kind) E) sent rest
    (subst (λ (frames : List (List ℕ)). AllByRecursion (IsExactFrame g (output_under kind) E) frames) e (part g (output_under kind) rate every E [] E refl rows.2))

map_last : (f : RowView → List ℕ) (rows : List RowView) (row : RowView) → map f (rows ++ row ∷ []) ≡ map f rows ++ f row ∷ []
map_last f [] row = refl
map_last f (r ∷ rows) row = ap (λ l. f r ∷ l) (map_last f rows row)

pub rows_are_sent : RowsAreSent
rows_are_sent g output [] rate every = tt
rows_are_sent g output (Arrive s bytes arrival answer ∷ E) rate every = rows_are_sent g output E rate every
rows_are_sent g output (Tick now counts answer ∷ E) rate every = rows_are_sent g output E rate every
rows_are_sent g output (Pop (Some row) ∷ E) rate every =
    subst (λ (l : List (List ℕ)). IsAmong l (frames_of g output rate every E ++ wire_of output row ∷ [])) (sym (map_last (wire_of output) (popped E) row))
    (among_last (map (wire_of output) (popped E)) (frames_of g output rate every E) (wire_of output row) (rows_are_sent g output E rate every))
rows_are_sent g output (Pop None ∷ E) rate every =
    subst (λ (rows : List RowView). IsAmong (map (wire_of output) rows) (frames_of g output rate every E ++ layout_in g rate every E)) (sym (append-nil (popped E)))
    (among_more (map (wire_of output) (popped E)) (frames_of g output rate every E) (layout_in g rate every E) (rows_are_sent g output E rate every))

rises_front : (low : ℕ) (rows more : List RowView) → IsRising low (row_instants (rows ++ more)) → IsRising low (row_instants rows)
rises_front low [] more h = tt
rises_front low (row ∷ rows) more h = (h.0, rises_front row.instant rows more h.1)

pub popped_rise : LivesAreRuns → RowsRise → RowsComeOutOnce → PoppedRise
popped_rise runs rise out kind g E life =
    let run = runs kind g E life in
    rises_front g.floor (popped E) (waiting E) (subst (λ (rows : List RowView). IsRising g.floor (row_instants rows)) (out g E run.ticked) (rise g E run.ticked))
