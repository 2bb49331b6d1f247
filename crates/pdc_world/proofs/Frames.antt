-- The frames that cores send fit, and are no PMU's.
use Rattle.std.proofs.Common.{[], ◌++◌, ◌+◌, ◌∙◌, ◌∷◌, ◌≡◌, ◌≤◌, ap, arith, Bool, cond, Err, false, IfSome, inl, inr, is_some, IsOk, IsSome, length, List, lit<, nat_lt, None, Ok, Option, option_map, refl, Result, Some, subst, sym, true, ℕ}
use Rattle.pdc_world.proofs.Names.{A, append-nil, B, cases_lt, changes, Contains, DueRow, Entry, few_columns, Fields, frames_if, frames_with, FramesAreKnown, Given, given_in, Happened, IsFrame, IsHistory, IsLifeOf, IsOfNone, IsOfPmu, IsPart, IsPublishedData, IsSomeFrame, IsSomePart, Keeps, kind_of, last_one, layout_wire, layouts_of, LedgerView, life_after_tick, life_of, lt-ltb, MAX_SIZE, new_change, Output, output_of, pop_answer, published, Publishes, raised, row_view, RowView, Seat, Settings, Stored, Tick, tick_answer, Ticked, ticked_of, Ticks, waiting_counts, Who, wire_of, wire_of_some, with_waiting, World}
use Rattle.pdc_history.specs.Event as event

-- a bound that is not absurd
stable : (a b : ℕ) → ((a ≤ b → ⊥) → ⊥) → a ≤ b
stable a b some = elim (cases_lt b a) [
  | inl above ↦ absurd (some (λ below. omega (arith, above, below)))
  | inr below ↦ below
]

frame_fits : FramesAreKnown → (bytes : List ℕ) (f : Fields) → IsFrame bytes f → length bytes ≤ MAX_SIZE
frame_fits known bytes f frame = omega (arith, ap length frame.spelled, known.len f, frame.fits.size)

alone : (bytes : List ℕ) → Contains (bytes ∷ []) bytes
alone bytes = (0, omega arith, refl)

-- ---- rows

row_fits_in : FramesAreKnown → (W : World) (H : List Happened) (v : Who) (row : RowView) → IsHistory W (Publishes v (Some row) ∷ H) → length (wire_of (output_of W v) row) ≤ MAX_SIZE
row_fits_in known W H v row history =
    let sent_row : IsPublishedData W (Publishes v (Some row) ∷ H) (v, row) =
    last_one (λ (r : Who × RowView). IsPublishedData W (Publishes v (Some row) ∷ H) r) (published H) (v, row) (known.published W (Publishes v (Some row) ∷ H) history) in
    frame_fits known (wire_of (output_of W v) row) sent_row.is_data.fields sent_row.is_data.of_stream.frame

row_of_none : FramesAreKnown → (W : World) (H : List Happened) (v : Who) (row : RowView) → IsHistory W (Publishes v (Some row) ∷ H) → IsOfNone W.a.settings (wire_of (output_of W v) row)
row_of_none known W H v row history =
    λ p pmu of_pmu.
    let sends = known.own W H (Publishes v (Some row)) p pmu (wire_of (output_of W v) row) of_pmu.fields history of_pmu.listed (alone (wire_of (output_of W v) row)) of_pmu.of_stream in
    cc

row_history : (W : World) (H : List Happened) (v : Who) (row : RowView) → IsHistory W H → Some row ≡ pop_answer (life_of H v) → IsHistory W (Publishes v (Some row) ∷ H)
row_history W H v row history gave = (record { event = event.Do v event.Publish; may = tt; made = ap (Publishes v) gave }, history)

-- what is known of a row's frame, wherever the row came from
row_wire : (W : World) (H : List Happened) (v : Who) (row : RowView) (out : List ℕ) → Some row ≡ pop_answer (life_of H v)
    → out ≡ wire_of_some (given_in W H v).output (pop_answer (life_of H v)) → out ≡ wire_of (output_of W v) row
row_wire W H v row out gave bytes =
    bytes ∙ ap (λ (r : Option RowView). wire_of_some (given_in W H v).output r) (sym gave)

pub row_most : FramesAreKnown → (v : Who) (seat : Seat) (l : LedgerView) (row : Option DueRow) (out : List ℕ) → IsSomePart v seat l
    → ((g : Given) (E : List Entry) → seat.stands g E → option_map row_view row ≡ pop_answer E) → ((g : Given) (E : List Entry) → seat.stands g E → out ≡ wire_of_some g.output (pop_answer E))
    → IfSome row (λ (r : DueRow). length out ≤ MAX_SIZE)
row_most known v seat l None out some gives bytes = tt
row_most known v seat l (Some row) out some gives bytes =
    stable (length out) MAX_SIZE (λ over. some (λ W H part. over
    (subst (λ (x : List ℕ). length x ≤ MAX_SIZE)
    (sym (row_wire W H v (row_view row) out (gives (given_in W H v) (life_of H v) part.come.stands) (bytes (given_in W H v) (life_of H v) part.come.stands)))
    (row_fits_in known W H v (row_view row) (row_history W H v (row_view row) part.history (gives (given_in W H v) (life_of H v) part.come.stands))))))

pub row_none : FramesAreKnown → (v : Who) (seat : Seat) (l : LedgerView) (table : Settings) (row : Option DueRow) (out : List ℕ) → table ≡ l.table
    → IsSomePart v seat l
    → ((g : Given) (E : List Entry) → seat.stands g E → option_map row_view row ≡ pop_answer E) → ((g : Given) (E : List Entry) → seat.stands g E → out ≡ wire_of_some g.output (pop_answer E))
    → IfSome row (λ (r : DueRow). IsOfNone table out)
row_none known v seat l table None out same some gives bytes = tt
row_none known v seat l table (Some row) out same some gives bytes =
    λ p pmu of_pmu. some (λ W H part.
    subst (λ (s : Settings). IsOfNone s out) (sym (same ∙ part.keeps.table))
    (subst (λ (x : List ℕ). IsOfNone W.a.settings x)
    (sym (row_wire W H v (row_view row) out (gives (given_in W H v) (life_of H v) part.come.stands) (bytes (given_in W H v) (life_of H v) part.come.stands)))
    (row_of_none known W H v (row_view row) (row_history W H v (row_view row) part.history (gives (given_in W H v) (life_of H v) part.come.stands)))) p pmu of_pmu)

-- ---- layouts

layout_fits_in : FramesAreKnown → (W : World) (H : List Happened) (v : Who) (e : Entry) → IsHistory W (Ticks v e ∷ H) → length (layout_wire (given_in W H v) (e ∷ life_of H v) 0) ≤ MAX_SIZE
layout_fits_in known W H v e history =
    let life : IsLifeOf (kind_of W v) (given_in W H v) (e ∷ life_of H v) =
    subst (λ (E : List Entry). IsLifeOf (kind_of W v) (given_in W H v) E) (life_after_tick H v e) (known.lives W (Ticks v e ∷ H) v history).present in
    frame_fits known (layout_wire (given_in W H v) (e ∷ life_of H v) 0) _
    (known.layouts (given_in W H v) (e ∷ life_of H v) 0 (known.runs (kind_of W v) (given_in W H v) (e ∷ life_of H v) life) (few_columns (kind_of W v)) (lit< tt)).0

adopts : (change : ℕ) (adopted : List ℕ) → IsSome (new_change change adopted) → nat_lt 0 (length adopted) ≡ true
adopts change [] some = cc
adopts change (c ∷ cs) some = lt-ltb 0 (length (c ∷ cs)) (omega arith)

layout_sent : (b : Bool) (bytes : List ℕ) → b ≡ true → Contains (cond b (bytes ∷ []) []) bytes
layout_sent true bytes e = alone bytes
layout_sent false bytes e = cc

pub layout_some : FramesAreKnown → (v : Who) (old : Seat) (After : Given → List Entry → Type 0) (new : Stored) (l : LedgerView) (table : Settings) (now : ℕ) (ticked : Ticked) → table ≡ l.table
    → IsSomePart v old l
    → ((g : Given) (E : List Entry) → old.stands g E → new ≡ with_waiting (waiting_counts g E) old.mark)
    → ((g : Given) (E : List Entry) → old.stands g E → ticked ≡ ticked_of (changes E) (tick_answer g E now new.counts))
    → ((g : Given) (E : List Entry) → old.stands g E → After g (Tick now new.counts (tick_answer g E now new.counts) ∷ E))
    → IsSome ticked.change → IsSomeFrame After table
layout_some known v old After new l table now ticked same some marks tells stands change =
    λ none. some (λ W H part.
    let g : Given = given_in W H v in
    let E : List Entry = life_of H v in
    let r : Stored = raised W H v in
    let e : Entry = Tick now r.counts (tick_answer g E now r.counts) in
    let is : new ≡ r = marks g E part.come.stands ∙ ap (with_waiting (waiting_counts g E)) part.come.mark in
    let after : After g (e ∷ E) = subst (λ (x : Stored). After g (Tick now x.counts (tick_answer g E now x.counts) ∷ E)) is (stands g E part.come.stands) in
    let told : ticked ≡ ticked_of (changes E) (tick_answer g E now r.counts) =
    tells g E part.come.stands ∙ ap (λ (x : Stored). ticked_of (changes E) (tick_answer g E now x.counts)) is in
    let history : IsHistory W (Ticks v e ∷ H) = (record { event = event.Do v (event.TickAt now); may = tt; made = refl }, part.history) in
    let adopted : nat_lt 0 (length (tick_answer g E now r.counts).adopted) ≡ true =
    adopts (changes E) (tick_answer g E now r.counts).adopted (subst (λ (t : Ticked). IsSome t.change) told change) in
    none g (e ∷ E) after (layout_fits_in known W H v e history)
    (λ p pmu of_pmu.
    let mine : IsOfPmu W.a.settings p pmu (layout_wire g (e ∷ E) 0) = subst (λ (s : Settings). IsOfPmu s p pmu (layout_wire g (e ∷ E) 0)) (same ∙ part.keeps.table) of_pmu in
    let sends = known.own W H (Ticks v e) p pmu (layout_wire g (e ∷ E) 0) mine.fields history mine.listed
    (layout_sent (nat_lt 0 (length (tick_answer g E now r.counts).adopted)) (layout_wire g (e ∷ E) 0) adopted) mine.of_stream in
    cc))

-- ---- what was written

pub frames_written : (row : Option RowView) (out : List ℕ) (output : Output) → out ≡ wire_of_some output row → frames_if out row ≡ frames_with output row
frames_written None out output bytes = refl
frames_written (Some row) out output bytes = ap (λ (x : List ℕ). x ∷ []) bytes

pub ok_stable : {A B : Type 0} (r : Result A B) → ((IsOk r → ⊥) → ⊥) → IsOk r
ok_stable (Ok x) some = refl
ok_stable (Err x) some = absurd (some (λ e. cc))

pub same_part : (W : World) (H : List Happened) (v : Who) (seat : Seat) (l m : LedgerView) → m ≡ l → IsPart W H v seat l
    → IsPart W H v seat m
same_part W H v seat l m same part = record {
  history = part.history;
  one = part.one;
  come = part.come;
  keeps = subst (λ (x : LedgerView). Keeps W H x) (sym same) part.keeps;
}

pub room_for : (old wire : List ℕ) (capacity : ℕ) → old ≡ [] → length wire ≤ MAX_SIZE → MAX_SIZE ≤ capacity → length old + length wire ≤ capacity
room_for old wire capacity empty fits most = omega (arith, ap length empty, fits, most)

pub layouts_told : (change : Option ℕ) (g : Given) (E : List Entry) (old new : List (List ℕ)) → IsSome change → new ≡ old ++ layout_wire g E 0 ∷ [] → new ≡ old ++ layouts_of change g E
layouts_told None g E old new some frames = cc
layouts_told (Some n) g E old new some frames = frames

pub layouts_untold : (change : Option ℕ) (g : Given) (E : List Entry) (old : List (List ℕ)) → is_some change ≡ false → old ≡ old ++ layouts_of change g E
layouts_untold None g E old none = sym (append-nil old)
layouts_untold (Some n) g E old none = cc
