-- Each call keeps what the calls tell of an instant; and which rows close, told so.
use Rattle.std.proofs.Common.{◌≡◌, ℕ, ◌<◌, ◌≤◌, Bool, true, false, not, ◌&&◌, ◌||◌, if◌then◌else◌, eqb, leb, ltb, List, [], ◌∷◌, get_or, refl, sym, ◌∙◌, ap, subst, arith, inl, inr, Option, Some, None, option_map}
use Rattle.std.specs.Option.{IfSome, is_some, unwrap_or}
use Rattle.std.proofs.lemmas.Bool.{cases_eq, cases_Bool, cases_lt, eq-eqb, ne_eqb, and_left, and_right, lt-ltb, le-ltb}
use Rattle.pdc_open_row.specs.pdc_row.CellView.{CellView}
use Rattle.pdc_open_row.specs.pdc_row.RisingLaws.{RisingLaws}
use Rattle.pdc_table.specs.Calls.{AreAllowed, Call, Put, Require, Tick, DropStream, DropColumn, Pop, after_all}
use Rattle.pdc_table.specs.Closing.{aged}
use Rattle.pdc_table.specs.Content.{Content, IsPut, lane_of, streams_of}
use Rattle.pdc_open_row.specs.Streams.{stream_count}
use Rattle.pdc_table.specs.Histories.{is_take, open_row_after, was_taken}
use Rattle.pdc_open_row.specs.pdc_columns.Layout.{LayoutView}
use Rattle.pdc_table.specs.Placing.{row_at}
use Rattle.pdc_table.specs.Steps.{after_take, fresh_row, is_near_all, put_answer}
use Rattle.pdc_open_row.specs.Taking.{answer_at, is_taken, with_frame, without_column, without_stream}
use Rattle.pdc_open_row.specs.Views.{OpenRowView, blank_row}
use Rattle.pdc_open_row.specs.declared.wait_rule.WaitRule.{WaitRule}
use Rattle.pdc_table.proofs.CallLaws.{IsAbove, above_all, last_step}
use Rattle.pdc_table.proofs.RowAt.{row_above, row_at-map, row_of_fresh, row_of_other, row_of_tick}
use Rattle.pdc_table.proofs.Told.{Follows, HasSizes, IsTold, base_told, column_told, drop_told, frame_told, free_at, quiet_call, quiet_put, sizes_all, taken_at_row, tick_told}

map_follows : (c : Content) (calls next : List Call) (i : ℕ) (f : OpenRowView → OpenRowView) (o : Option OpenRowView) → was_taken c next i ≡ was_taken c calls i → ((row : OpenRowView) → was_taken c calls i ≡ true → IsTold c calls i row → IsTold c next i (f row)) → Follows c calls i o → Follows c next i (option_map f o)
map_follows c calls next i f None e h p = e ∙ p
map_follows c calls next i f (Some row) e h p = (e ∙ p.0, h row p.0 p.1)

same_follows : (c : Content) (calls next : List Call) (i : ℕ) (o : Option OpenRowView) → was_taken c next i ≡ was_taken c calls i → ((row : OpenRowView) → IsTold c calls i row → IsTold c next i row) → Follows c calls i o → Follows c next i o
same_follows c calls next i None e h p = e ∙ p
same_follows c calls next i (Some row) e h p = (e ∙ p.0, h row p.1)

-- a put that takes nothing at the instant
passed_put : (c : Content) (calls : List Call) (i stream instant : ℕ) (cells : List (ℕ × CellView)) (o : Option OpenRowView) → is_take (after_all c calls) i (Put stream instant cells) ≡ false → Follows c calls i o → Follows c (Put stream instant cells ∷ calls) i o
passed_put c calls i stream instant cells o e p =
    same_follows c calls (Put stream instant cells ∷ calls) i o (ap (λ b. b || was_taken c calls i) e) (λ row h. quiet_put c calls i stream instant cells row e h) p

fresh_same : (c d : Content) (i : ℕ) → HasSizes c d → fresh_row d i ≡ blank_row (streams_of c) c.columns i
fresh_same c d i s = ap (λ n. blank_row (stream_count n d.lanes) n i) s.columns ∙ ap (λ n. blank_row (stream_count c.columns n) c.columns i) s.lanes

pub streams_same : (c d : Content) → HasSizes c d → streams_of d ≡ streams_of c
streams_same c d s = ap (λ n. stream_count n d.lanes) s.columns ∙ ap (λ n. stream_count c.columns n) s.lanes

stream_follows : (c : Content) (calls : List Call) (i stream : ℕ) → stream < streams_of (after_all c calls) → Follows c calls i (row_at i (after_all c calls).open_rows) → Follows c (DropStream stream ∷ calls) i (open_row_after c (DropStream stream ∷ calls) i)
stream_follows c calls i stream l f =
    let d : Content = after_all c calls in
    let s : HasSizes c d = sizes_all c calls in
    subst (λ o. Follows c (DropStream stream ∷ calls) i o)
    (sym (row_at-map (without_stream d.lanes stream) (λ r. refl) i d.open_rows ∙ ap (λ n. option_map (without_stream n stream) (row_at i d.open_rows)) s.lanes))
    (map_follows c calls (DropStream stream ∷ calls) i (without_stream c.lanes stream) (row_at i d.open_rows) refl
    (λ row t h. drop_told c calls i stream row (omega (arith, streams_same c d s)) h) f)

column_follows : (c : Content) (calls : List Call) (i column : ℕ) → column < (after_all c calls).columns → Follows c calls i (row_at i (after_all c calls).open_rows) → Follows c (DropColumn column ∷ calls) i (open_row_after c (DropColumn column ∷ calls) i)
column_follows c calls i column l f =
    let d : Content = after_all c calls in
    let s : HasSizes c d = sizes_all c calls in
    subst (λ o. Follows c (DropColumn column ∷ calls) i o) (sym (row_at-map (without_column column) (λ r. refl) i d.open_rows))
    (map_follows c calls (DropColumn column ∷ calls) i (without_column column) (row_at i d.open_rows) refl
    (λ row t h. column_told c calls i column row (omega (arith, s.columns)) h) f)

if_some : (c : Content) (calls : List Call) (i : ℕ) (P : OpenRowView → Type 0) → ((row : OpenRowView) → IsTold c calls i row → P row) → (o : Option OpenRowView) → Follows c calls i o → IfSome o P
if_some c calls i P h None f = tt
if_some c calls i P h (Some row) f = h row f.1

some_taken : (c : Content) (calls : List Call) (i : ℕ) (o : Option OpenRowView) → Follows c calls i o → is_some o ≡ was_taken c calls i
some_taken c calls i None f = sym f
some_taken c calls i (Some row) f = sym f.0

and_true : (b : Bool) → b ≡ (b && true)
and_true true = refl
and_true false = refl

-- ---- what follows from the laws of rising numbers

module _ (R : RisingLaws) where
  -- a put that takes at its instant
  taken_put : (c : Content) (calls : List Call) (stream instant : ℕ) (cells : List (ℕ × CellView)) → IsPut (after_all c calls) stream cells → IsAbove (after_all c calls) → is_taken (put_answer (after_all c calls) stream instant cells) ≡ true → Follows c calls instant (row_at instant (after_all c calls).open_rows) → Follows c (Put stream instant cells ∷ calls) instant (row_at instant (after_take (after_all c calls) stream instant cells).open_rows)
  taken_put c calls stream instant cells p a t f =
      let d : Content = after_all c calls in
      let s : HasSizes c d = sizes_all c calls in
      let o : Option OpenRowView = row_at instant d.open_rows in
      let base : OpenRowView = unwrap_or o (blank_row (streams_of c) c.columns instant) in
      let x : stream < streams_of c = omega (arith, streams_same c d s, p.stream_exists) in
      let take : is_take d instant (Put stream instant cells) ≡ true = rw (eq-eqb instant instant refl) t in
      let free : get_or base.taken stream false ≡ false =
      free_at (streams_of c) c.columns instant stream (lane_of d stream) cells o x
      (taken_at_row (leb instant d.last) (not (is_near_all d instant)) (answer_at o stream (lane_of d stream) cells) t) in
      let told : IsTold c (Put stream instant cells ∷ calls) instant (with_frame stream (lane_of c stream) cells base) =
      frame_told c calls instant stream instant cells base x (λ e. p.own_column (s.lanes ∙ e)) p.once free take (base_told c calls instant o f) in
      let now : row_at instant (after_take d stream instant cells).open_rows ≡ Some (with_frame stream (lane_of c stream) cells base) =
      row_of_fresh R (with_frame stream (lane_of d stream) cells) (fresh_row d instant) (λ r. refl) d.last d.open_rows a
      ∙ ap (λ r. Some (with_frame stream (lane_of d stream) cells (unwrap_or o r))) (fresh_same c d instant s)
      ∙ ap (λ n. Some (with_frame stream (if eqb n 1 then 0 else stream) cells base)) s.lanes in
      subst (λ r. Follows c (Put stream instant cells ∷ calls) instant r) (sym now) (ap (λ b. b || was_taken c calls instant) take, told)

  take_follows : (c : Content) (calls : List Call) (i stream instant : ℕ) (cells : List (ℕ × CellView)) → IsPut (after_all c calls) stream cells → IsAbove (after_all c calls) → is_taken (put_answer (after_all c calls) stream instant cells) ≡ true → Follows c calls i (row_at i (after_all c calls).open_rows) → Follows c (Put stream instant cells ∷ calls) i (row_at i (after_take (after_all c calls) stream instant cells).open_rows)
  take_follows c calls i stream instant cells p a t f =
      let d : Content = after_all c calls in
      elim (cases_eq instant i) [
        | inl e ↦ subst (λ j. Follows c (Put stream instant cells ∷ calls) j (row_at j (after_take d stream instant cells).open_rows)) e (taken_put c calls stream instant cells p a t (subst (λ j. Follows c calls j (row_at j d.open_rows)) (sym e) f))
        | inr n ↦ subst (λ o. Follows c (Put stream instant cells ∷ calls) i o) (sym (row_of_other R (with_frame stream (lane_of d stream) cells) (fresh_row d instant) (λ r. refl) i d.open_rows n)) (passed_put c calls i stream instant cells (row_at i d.open_rows) (and_left (eqb instant i) (is_taken (put_answer d stream instant cells)) (ne_eqb instant i n)) f)
      ]

  put_follows : (c : Content) (calls : List Call) (i stream instant : ℕ) (cells : List (ℕ × CellView)) → IsPut (after_all c calls) stream cells → IsAbove (after_all c calls) → Follows c calls i (row_at i (after_all c calls).open_rows) → Follows c (Put stream instant cells ∷ calls) i (open_row_after c (Put stream instant cells ∷ calls) i)
  put_follows c calls i stream instant cells p a f =
      let d : Content = after_all c calls in
      elim (cases_Bool (is_taken (put_answer d stream instant cells))) [
        | inl t ↦ subst (λ b. Follows c (Put stream instant cells ∷ calls) i (row_at i (if b then after_take d stream instant cells else d).open_rows)) (sym t) (take_follows c calls i stream instant cells p a t f)
        | inr e ↦ subst (λ b. Follows c (Put stream instant cells ∷ calls) i (row_at i (if b then after_take d stream instant cells else d).open_rows)) (sym e) (passed_put c calls i stream instant cells (row_at i d.open_rows) (and_right (eqb instant i) (is_taken (put_answer d stream instant cells)) e) f)
      ]

  tick_follows : (c : Content) (calls : List Call) (i : ℕ) (rule : WaitRule) (layout : LayoutView) → IsAbove (after_all c calls) → (after_all c (Tick rule layout ∷ calls)).last < i → Follows c calls i (row_at i (after_all c calls).open_rows) → Follows c (Tick rule layout ∷ calls) i (open_row_after c (Tick rule layout ∷ calls) i)
  tick_follows c calls i rule layout a l f =
      subst (λ o. Follows c (Tick rule layout ∷ calls) i o) (sym (row_of_tick R (after_all c calls) rule i a l))
      (map_follows c calls (Tick rule layout ∷ calls) i aged (row_at i (after_all c calls).open_rows) refl
      (λ row t h. tick_told c calls i (Tick rule layout) row t refl (λ s. refl) (λ s k. refl) h) f)

  -- Above the last, a table that began without rows has those that its calls tell.
  pub follows : (c : Content) (calls : List Call) (i : ℕ) → c.open_rows ≡ [] → IsAbove c → AreAllowed c calls → (after_all c calls).last < i → Follows c calls i (open_row_after c calls i)
  follows c [] i e a h l = subst (λ rows. Follows c [] i (row_at i rows)) (sym e) refl
  follows c (Put stream instant cells ∷ calls) i e a h l =
      put_follows c calls i stream instant cells h.0 (above_all R c calls a) (follows c calls i e a h.1 (omega (arith, last_step R (after_all c calls) (Put stream instant cells))))
  follows c (Require stream is_required ∷ calls) i e a h l =
      same_follows c calls (Require stream is_required ∷ calls) i (open_row_after c calls i) refl
      (λ row k. quiet_call c calls i (Require stream is_required) row refl (λ s. refl) (λ s n. refl) k) (follows c calls i e a h.1 l)
  follows c (Tick rule layout ∷ calls) i e a h l =
      tick_follows c calls i rule layout (above_all R c calls a) l (follows c calls i e a h.1 (omega (arith, last_step R (after_all c calls) (Tick rule layout))))
  follows c (DropStream stream ∷ calls) i e a h l = stream_follows c calls i stream h.0 (follows c calls i e a h.1 l)
  follows c (DropColumn column ∷ calls) i e a h l = column_follows c calls i column h.0 (follows c calls i e a h.1 l)
  follows c (Pop ∷ calls) i e a h l =
      same_follows c calls (Pop ∷ calls) i (open_row_after c calls i) refl
      (λ row k. quiet_call c calls i Pop row refl (λ s. refl) (λ s n. refl) k) (follows c calls i e a h.1 l)

  -- at and below the last there is no row
  told_or_none : (c : Content) (calls : List Call) (i : ℕ) → c.open_rows ≡ [] → IsAbove c → AreAllowed c calls → (P : Option OpenRowView → Type 0) → (i ≤ (after_all c calls).last → P None) → ((after_all c calls).last < i → (o : Option OpenRowView) → Follows c calls i o → P o) → P (open_row_after c calls i)
  told_or_none c calls i e a h P low high = elim (cases_lt (after_all c calls).last i) [
    | inl l ↦ high l (open_row_after c calls i) (follows c calls i e a h l)
    | inr l ↦ subst P (sym (row_above i (after_all c calls).last (after_all c calls).open_rows l (above_all R c calls a))) (low l)
  ]

  -- what holds of each row that is told
  pub of_told : (c : Content) (calls : List Call) (i : ℕ) → c.open_rows ≡ [] → IsAbove c → AreAllowed c calls → (P : OpenRowView → Type 0) → ((row : OpenRowView) → IsTold c calls i row → P row) → IfSome (open_row_after c calls i) P
  of_told c calls i e a h P k = told_or_none c calls i e a h (λ o. IfSome o P) (λ l. tt) (λ l o f. if_some c calls i P k o f)

  pub open_where_taken : (c : Content) (calls : List Call) (i : ℕ) → c.open_rows ≡ [] → IsAbove c → AreAllowed c calls → is_some (open_row_after c calls i) ≡ (was_taken c calls i && ltb (after_all c calls).last i)
  open_where_taken c calls i e a h =
      told_or_none c calls i e a h (λ o. is_some o ≡ (was_taken c calls i && ltb (after_all c calls).last i))
      (λ l. sym (and_right (was_taken c calls i) (ltb (after_all c calls).last i) (le-ltb (after_all c calls).last i l)))
      (λ l o f. some_taken c calls i o f ∙ and_true (was_taken c calls i) ∙ ap (λ b. was_taken c calls i && b) (sym (lt-ltb (after_all c calls).last i l)))
