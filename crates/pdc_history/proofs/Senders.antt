-- What was sent, and by whom: by a PMU, or as the layout or a row of one of the three lives.
use Rattle.std.proofs.Common.{[], ◌++◌, ◌<◌, ◌^◌, ◌∙◌, ◌∷◌, ◌≡◌, ◌≤◌, ap, arith, Bool, cond, false, List, refl, Some, subst, sym, true, ℕ}
use Rattle.pdc_history.proofs.Names.{◌≢◌, changes, closed, column_count, Contains, Contains-append_right, CoreKind, Entry, Fields, FrameLaws, Given, given_in, Happened, is_adoption, IsFrame, IsFramedRow, IsHistory, IsMade, IsRun, kind_of, layout_fields_of, layout_wire, life_of, LifeLaws, MarkBounds, MaySend, OfMerger, OfNode, opened_with, output_of, Pmu, popped, Publishes, row_fields, RowView, sections_in_force, Sends, sent, sent_at, slice_get, Ticks, waiting, Who, wire_of, World}
use Rattle.pdc_history.proofs.{Lists.{element, in_one, not_in_none, place_there}, Lives.{life_is_life, run_in, tick_of}, Made.{publishes_is, sends_is}, Marks.{marks_bound}, Moments.{before, began, same_who, was_sent_at, WasSentAt}}

-- ---- what a mark gives

pub few_columns : (kind : CoreKind) → column_count kind ≤ 16
few_columns (OfNode settings) = settings.few
few_columns (OfMerger settings) = settings.few

pub start_fits : LifeLaws → (W : World) (H : List Happened) (who : Who) → IsHistory W H → (given_in W H who).start < 2 ^ 32
start_fits L W H who is =
    let b : MarkBounds W H who = marks_bound L W H who is in
    let fits : (opened_with W H who).start < 2 ^ 32 = omega (arith, b.fits, b.start) in
    fits

-- ---- a row that is published closed

pub published_closed : LifeLaws → (W : World) (H : List Happened) (who : Who) (row : RowView) → IsHistory W H → IsMade W H (Publishes who (Some row)) → Contains (closed (life_of H who)) row
published_closed L W H who row is made =
    let w : Contains (waiting (life_of H who)) row = place_there (waiting (life_of H who)) 0 row (sym (publishes_is W H who (Some row) made)) in
    subst (λ (rows : List RowView). Contains rows row) (sym (L.out (given_in W H who) (life_of H who) (run_in L W H who is).ticked))
    (Contains-append_right (popped (life_of H who)) (waiting (life_of H who)) row w)

pub framed_row : LifeLaws → FrameLaws → (W : World) (H : List Happened) (who : Who) (row : RowView) → IsHistory W H → IsMade W H (Publishes who (Some row)) → IsFramedRow (given_in W H who) (life_of H who) row
framed_row L F W H who row is made =
    element (IsFramedRow (given_in W H who) (life_of H who)) (closed (life_of H who)) row
    (F.rows (given_in W H who) (life_of H who) (run_in L W H who is) (few_columns (kind_of W who)) (start_fits L W H who is))
    (published_closed L W H who row is made)

pub row_frame : LifeLaws → FrameLaws → (W : World) (H : List Happened) (who : Who) (row : RowView) → IsHistory W H → IsMade W H (Publishes who (Some row)) → IsFrame (wire_of (output_of W who) row) (row_fields (output_of W who) row)
row_frame L F W H who row is made = (framed_row L F W H who row is made).frame

-- ---- the layout of a tick that adopts

pub tick_run : LifeLaws → (W : World) (H : List Happened) (who : Who) (e : Entry) → IsHistory W H → IsMade W H (Ticks who e) → IsRun (given_in W H who) (e ∷ life_of H who)
tick_run L W H who e is made =
    L.runs (kind_of W who) (given_in W H who) (e ∷ life_of H who) (tick_of W H who who e refl made (life_is_life W H who is))

abbrev pub layout_fields : Given → List Entry → Fields
layout_fields g E = layout_fields_of g.output g.start (changes E) (sections_in_force g E) 0

pub layout_frame : LifeLaws → FrameLaws → (W : World) (H : List Happened) (who : Who) (e : Entry) → IsHistory W H → IsMade W H (Ticks who e)
    → IsFrame (layout_wire (given_in W H who) (e ∷ life_of H who) 0) (layout_fields (given_in W H who) (e ∷ life_of H who))
layout_frame L F W H who e is made =
    (F.layouts (given_in W H who) (e ∷ life_of H who) 0 (tick_run L W H who e is made) (few_columns (kind_of W who)) (omega arith)).0

-- ---- by whom

pub data SentAs (W : World) (H : List Happened) (h : Happened) (bytes : List ℕ) : Type 0 where
  BySend : h ≡ Sends bytes → MaySend W H bytes → SentAs W H h bytes
  ByTick : (v : Who) (e : Entry) → h ≡ Ticks v e → is_adoption e ≡ true → bytes ≡ layout_wire (given_in W H v) (e ∷ life_of H v) 0
      → IsFrame bytes (layout_fields (given_in W H v) (e ∷ life_of H v)) → SentAs W H h bytes
  ByPublish : (v : Who) (row : RowView) → h ≡ Publishes v (Some row) → bytes ≡ wire_of (output_of W v) row
      → IsFrame bytes (row_fields (output_of W v) row) → SentAs W H h bytes

by_tick : LifeLaws → FrameLaws → (W : World) (H : List Happened) (v : Who) (e : Entry) (bytes : List ℕ) (o : Bool) → is_adoption e ≡ o → IsHistory W H → IsMade W H (Ticks v e)
    → Contains (cond o (layout_wire (given_in W H v) (e ∷ life_of H v) 0 ∷ []) []) bytes → SentAs W H (Ticks v e) bytes
by_tick L F W H v e bytes true q is made k =
    let same : layout_wire (given_in W H v) (e ∷ life_of H v) 0 ≡ bytes = in_one (layout_wire (given_in W H v) (e ∷ life_of H v) 0) bytes k in
    ByTick v e refl q (sym same) (subst (λ (b : List ℕ). IsFrame b (layout_fields (given_in W H v) (e ∷ life_of H v))) same (layout_frame L F W H v e is made))
by_tick L F W H v e bytes false q is made k = absurd (not_in_none bytes k)

pub sent_as : LifeLaws → FrameLaws → (W : World) (H : List Happened) (h : Happened) (bytes : List ℕ) → IsHistory W (h ∷ H) → Contains (sent_at W H h) bytes → SentAs W H h bytes
sent_as L F W H (Sends other) bytes is k =
    let same : other ≡ bytes = in_one other bytes k in
    BySend (ap Sends same) (subst (MaySend W H) same (sends_is W H other is.0))
sent_as L F W H (Ticks v e) bytes is k = by_tick L F W H v e bytes (is_adoption e) refl is.1 is.0 k
sent_as L F W H (Publishes v (Some row)) bytes is k =
    let same : wire_of (output_of W v) row ≡ bytes = in_one (wire_of (output_of W v) row) bytes k in
    ByPublish v row refl (sym same) (subst (λ (b : List ℕ). IsFrame b (row_fields (output_of W v) row)) same (row_frame L F W H v row is.1 is.0))
sent_as L F W H h bytes is k = absurd (not_in_none bytes k)

-- ---- by the id of the frame

-- an own id is no PMU's
pub no_pmu_is_own : (W : World) (H : List Happened) (who : Who) (p : ℕ) (pmu : Pmu) → IsHistory W H → slice_get W.a.settings.pmus.items p ≡ Some pmu → pmu.stream.value ≡ (output_of W who).id.value → ⊥
no_pmu_is_own W H who p pmu is listed q =
    element (λ (x : Pmu). x.stream.value ≢ (output_of W who).id.value) W.a.settings.pmus.items pmu ((began W H is).settings.no_pmu who)
    (place_there W.a.settings.pmus.items p pmu listed) q

pub one_owner : (W : World) (H : List Happened) (v w : Who) → IsHistory W H → (output_of W v).id.value ≡ (output_of W w).id.value → v ≡ w
one_owner W H v w is q = same_who v w ((began W H is).settings.own_ids v w q)

-- a frame with the id of an owner is its layout, or one of its rows
pub data IsOwned (W : World) (H : List Happened) (who : Who) (bytes : List ℕ) : Type 0 where
  AsLayout : (later earlier : List Happened) (e : Entry) → H ≡ later ++ Ticks who e ∷ earlier → is_adoption e ≡ true
      → bytes ≡ layout_wire (given_in W earlier who) (e ∷ life_of earlier who) 0 → IsFrame bytes (layout_fields (given_in W earlier who) (e ∷ life_of earlier who)) → IsOwned W H who bytes
  AsRow : (later earlier : List Happened) (row : RowView) → H ≡ later ++ Publishes who (Some row) ∷ earlier
      → bytes ≡ wire_of (output_of W who) row → IsFrame bytes (row_fields (output_of W who) row) → IsOwned W H who bytes

owned_as : LifeLaws → FrameLaws → (W : World) (H later earlier : List Happened) (h : Happened) (who : Who) (bytes : List ℕ) (f : Fields) → IsHistory W H → H ≡ later ++ h ∷ earlier
    → IsFrame bytes f → f.id ≡ (output_of W who).id.value → SentAs W earlier h bytes → IsOwned W H who bytes
owned_as L F W H later earlier h who bytes f is stands frame id (BySend same may) =
    let one : f ≡ may.of_pmu.fields = F.one_frame bytes f may.of_pmu.fields frame may.of_pmu.of_stream.frame in
    absurd (no_pmu_is_own W H who may.p may.pmu is may.of_pmu.listed (sym may.of_pmu.of_stream.id ∙ sym (ap (λ (x : Fields). x.id) one) ∙ id))
owned_as L F W H later earlier h who bytes f is stands frame id (ByTick v e same adopts spelled layout) =
    let one : f ≡ layout_fields (given_in W earlier v) (e ∷ life_of earlier v) = F.one_frame bytes f (layout_fields (given_in W earlier v) (e ∷ life_of earlier v)) frame layout in
    let own : (output_of W v).id.value ≡ (output_of W who).id.value = sym (ap (λ (x : Fields). x.id) one) ∙ id in
    let owner : v ≡ who = one_owner W H v who is own in
    AsLayout later earlier e (stands ∙ ap (λ (x : Happened). later ++ x ∷ earlier) (same ∙ ap (λ (w : Who). Ticks w e) owner)) adopts
    (subst (λ (w : Who). bytes ≡ layout_wire (given_in W earlier w) (e ∷ life_of earlier w) 0) owner spelled)
    (subst (λ (w : Who). IsFrame bytes (layout_fields (given_in W earlier w) (e ∷ life_of earlier w))) owner layout)
owned_as L F W H later earlier h who bytes f is stands frame id (ByPublish v row same spelled of_row) =
    let one : f ≡ row_fields (output_of W v) row = F.one_frame bytes f (row_fields (output_of W v) row) frame of_row in
    let owner : v ≡ who = one_owner W H v who is (sym (ap (λ (x : Fields). x.id) one) ∙ id) in
    AsRow later earlier row (stands ∙ ap (λ (x : Happened). later ++ x ∷ earlier) (same ∙ ap (λ (w : Who). Publishes w (Some row)) owner))
    (subst (λ (w : Who). bytes ≡ wire_of (output_of W w) row) owner spelled)
    (subst (λ (w : Who). IsFrame bytes (row_fields (output_of W w) row)) owner of_row)

pub owned : LifeLaws → FrameLaws → (W : World) (H : List Happened) (who : Who) (bytes : List ℕ) (f : Fields) → IsHistory W H → Contains (sent W H) bytes → IsFrame bytes f → f.id ≡ (output_of W who).id.value → IsOwned W H who bytes
owned L F W H who bytes f is k frame id =
    let s : WasSentAt W H bytes = was_sent_at W H bytes k in
    let then : IsHistory W (s.h ∷ s.earlier) = before W s.later (s.h ∷ s.earlier) (subst (IsHistory W) s.stands is) in
    owned_as L F W H s.later s.earlier s.h who bytes f is s.stands frame id (sent_as L F W s.earlier s.h bytes then s.among)
