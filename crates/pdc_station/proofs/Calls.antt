-- What calls of a core and of a publisher append.
use Rattle.std.proofs.Common.{[], ◌++◌, ◌+◌, ◌<◌, ◌∙◌, ◌∷◌, ◌≡◌, ◌≤◌, ap, arith, inl, inr, List, map, None, Option, refl, Some, subst, sym, ℕ}
use Rattle.pdc_station.proofs.Names.{AllAreSent, AllByRecursion, append-nil, append_assoc, AreBelow, below_append, below_higher, Call, concat, concat-append, Contains, Contains-append_cases, element, Empty, Entry, Given, in_one, Lost, MakeAll, Makes, map-append, NoLostRowIsSent, not_empty, not_in_none, option_to_list, Pop, pop_answer, popped, Rises, rises_append, row_instants, rows_lost, rows_popped, rows_sent, RowsAreOfTheLife, RowView, Rules, Sent, SentRowsAreAppended, SentRowsRise, Told, wire_of}

-- one frame more
frame_more : (g : Given) (rows : List RowView) (row : RowView) (a b c : List ℕ) → b ≡ a ++ concat (map (wire_of g.output) rows) → c ≡ b ++ wire_of g.output row
    → c ≡ a ++ concat (map (wire_of g.output) (rows ++ row ∷ []))
frame_more g rows row a b c so one =
    one ∙ ap (λ (xs : List ℕ). xs ++ wire_of g.output row) so ∙ append_assoc a (concat (map (wire_of g.output) rows)) (wire_of g.output row)
    ∙ ap (λ (xs : List ℕ). a ++ xs)
    (ap (λ (xs : List ℕ). concat (map (wire_of g.output) rows) ++ xs) (sym (append-nil (wire_of g.output row)))
    ∙ sym (concat-append (map (wire_of g.output) rows) (map (wire_of g.output) (row ∷ []))) ∙ ap concat (sym (map-append (wire_of g.output) rows (row ∷ []))))

pub appended : SentRowsAreAppended
appended rules g [] old new h = ap (λ (t : Told). t.bytes) h ∙ sym (append-nil old.bytes)
appended rules g (Empty ∷ calls) old new h = h.2.3 ∙ appended rules g calls old h.0 h.1
appended rules g (Sent row ∷ calls) old new h = frame_more g (rows_sent calls) row old.bytes h.0.bytes new.bytes (appended rules g calls old h.0 h.1) h.2.1
appended rules g (Lost row ∷ calls) old new h = h.2.1 ∙ appended rules g calls old h.0 h.1
appended rules g (call ∷ calls) old new h = h.2.2 ∙ appended rules g calls old h.0 h.1

-- the greatest instant popped only grows
grows_by : (rules : Rules) (g : Given) (call : Call) (old new : Told) → Makes rules g call old new → old.popped ≤ new.popped
grows_by rules g Empty old new h = omega (arith, h.2)
grows_by rules g (Sent row) old new h = omega (arith, h.0.above, h.0.popped)
grows_by rules g (Lost row) old new h = omega (arith, h.0.above, h.0.popped)
grows_by rules g call old new h = omega (arith, h.1)

grows : (rules : Rules) (g : Given) (calls : List Call) (old new : Told) → MakeAll rules g calls old new → old.popped ≤ new.popped
grows rules g [] old new h = omega (arith, ap (λ (t : Told). t.popped) h)
grows rules g (call ∷ calls) old new h = omega (arith, grows_by rules g call h.0 new h.2, grows rules g calls old h.0 h.1)

-- none of the rows is above the greatest instant popped, where none was before, or with this row more
stays : (rows : List RowView) (a b : ℕ) → a ≤ b → AreBelow (a + 1) (row_instants rows) → AreBelow (b + 1) (row_instants rows)
stays rows a b le below = below_higher (a + 1) (b + 1) (row_instants rows) (omega (arith, le)) below

joined : (rows : List RowView) (row : RowView) → row_instants (rows ++ row ∷ []) ≡ row_instants rows ++ row.instant ∷ []
joined rows row = map-append (λ (r : RowView). r.instant) rows (row ∷ [])

with_row : (rows : List RowView) (row : RowView) (a b : ℕ) → a < row.instant → b ≡ row.instant → AreBelow (a + 1) (row_instants rows) → AreBelow (b + 1) (row_instants (rows ++ row ∷ []))
with_row rows row a b above at below =
    subst (AreBelow (b + 1)) (sym (joined rows row))
    (below_append (b + 1) (row_instants rows) (row.instant ∷ []) (stays rows a b (omega (arith, above, at)) below) (omega (arith, at), tt))

sent_under : (rules : Rules) (g : Given) (calls : List Call) (old new : Told) → MakeAll rules g calls old new → AreBelow (new.popped + 1) (row_instants (rows_sent calls))
sent_under rules g [] old new h = tt
sent_under rules g (Sent row ∷ calls) old new h = with_row (rows_sent calls) row h.0.popped new.popped h.2.0.above h.2.0.popped (sent_under rules g calls old h.0 h.1)
sent_under rules g (call ∷ calls) old new h =
    stays (rows_sent calls) h.0.popped new.popped (grows_by rules g call h.0 new h.2) (sent_under rules g calls old h.0 h.1)

lost_under : (rules : Rules) (g : Given) (calls : List Call) (old new : Told) → MakeAll rules g calls old new → AreBelow (new.popped + 1) (row_instants (rows_lost calls))
lost_under rules g [] old new h = tt
lost_under rules g (Lost row ∷ calls) old new h = with_row (rows_lost calls) row h.0.popped new.popped h.2.0.above h.2.0.popped (lost_under rules g calls old h.0 h.1)
lost_under rules g (call ∷ calls) old new h =
    stays (rows_lost calls) h.0.popped new.popped (grows_by rules g call h.0 new h.2) (lost_under rules g calls old h.0 h.1)

pub rise : SentRowsRise
rise rules g [] old new h = tt
rise rules g (Sent row ∷ calls) old new h =
    subst (Rises old.popped) (sym (joined (rows_sent calls) row))
    (rises_append old.popped h.0.popped (row_instants (rows_sent calls)) (row.instant ∷ []) (grows rules g calls old h.0 h.1) (rise rules g calls old h.0 h.1)
    (sent_under rules g calls old h.0 h.1) (h.2.0.above, tt))
rise rules g (call ∷ calls) old new h = rise rules g calls old h.0 h.1

-- a row of those is not above it
all_below : (rows : List RowView) (top : ℕ) → AreBelow top (row_instants rows) → AllByRecursion (λ (r : RowView). r.instant < top) rows
all_below [] top h = tt
all_below (row ∷ rows) top h = (h.0, all_below rows top h.1)

is_below : (rows : List RowView) (row : RowView) (top : ℕ) → AreBelow top (row_instants rows) → Contains rows row → row.instant < top
is_below rows row top h k = element (λ (r : RowView). r.instant < top) rows row (all_below rows top h) k

pub apart : NoLostRowIsSent
apart rules g [] old new lost sent h a b same = not_in_none lost a
apart rules g (Sent row ∷ calls) old new lost sent h a b same = elim (Contains-append_cases (rows_sent calls) (row ∷ []) sent b) [
  | inl k ↦ apart rules g calls old h.0 lost sent h.1 a k same
  | inr k ↦
      let at : row.instant ≡ sent.instant = ap (λ (r : RowView). r.instant) (in_one row sent k) in
      absurd (omega (arith, h.2.0.above, at, same, is_below (rows_lost calls) lost (h.0.popped + 1) (lost_under rules g calls old h.0 h.1) a))
]
apart rules g (Lost row ∷ calls) old new lost sent h a b same = elim (Contains-append_cases (rows_lost calls) (row ∷ []) lost a) [
  | inl k ↦ apart rules g calls old h.0 lost sent h.1 k b same
  | inr k ↦
      let at : row.instant ≡ lost.instant = ap (λ (r : RowView). r.instant) (in_one row lost k) in
      absurd (omega (arith, h.2.0.above, at, same, is_below (rows_sent calls) sent (h.0.popped + 1) (sent_under rules g calls old h.0 h.1) b))
]
apart rules g (call ∷ calls) old new lost sent h a b same = apart rules g calls old h.0 lost sent h.1 a b same

-- a pop of the life takes this row out
one_more : (E : List Entry) (row : RowView) → pop_answer E ≡ Some row → popped (Pop (pop_answer E) ∷ E) ≡ popped E ++ row ∷ []
one_more E row e = ap (λ (r : Option RowView). popped E ++ option_to_list r) e

none_more : (E : List Entry) → pop_answer E ≡ None → popped (Pop (pop_answer E) ∷ E) ≡ popped E
none_more E e = ap (λ (r : Option RowView). popped E ++ option_to_list r) e ∙ append-nil (popped E)

row_more : (E F : List Entry) (before rows : List RowView) (row : RowView) → popped E ≡ before ++ rows → pop_answer E ≡ Some row → F ≡ Pop (pop_answer E) ∷ E → popped F ≡ before ++ (rows ++ row ∷ [])
row_more E F before rows row so given life =
    ap popped life ∙ one_more E row given ∙ ap (λ (rs : List RowView). rs ++ row ∷ []) so ∙ append_assoc before rows (row ∷ [])

pub of_life : RowsAreOfTheLife
of_life rules g [] old new h = ap (λ (t : Told). popped t.life) h ∙ sym (append-nil (popped old.life))
of_life rules g (Empty ∷ calls) old new h = ap popped h.2.1 ∙ none_more h.0.life h.2.0 ∙ of_life rules g calls old h.0 h.1
of_life rules g (Sent row ∷ calls) old new h = row_more h.0.life new.life (popped old.life) (rows_popped calls) row (of_life rules g calls old h.0 h.1) h.2.0.given h.2.0.life
of_life rules g (Lost row ∷ calls) old new h = row_more h.0.life new.life (popped old.life) (rows_popped calls) row (of_life rules g calls old h.0 h.1) h.2.0.given h.2.0.life
of_life rules g (call ∷ calls) old new h = ap popped h.2.0 ∙ of_life rules g calls old h.0 h.1

-- where none was lost, what was popped was sent
none_lost : (calls : List Call) → rows_lost calls ≡ [] → rows_popped calls ≡ rows_sent calls
none_lost [] e = refl
none_lost (Sent row ∷ calls) e = ap (λ (rs : List RowView). rs ++ row ∷ []) (none_lost calls e)
none_lost (Lost row ∷ calls) e = absurd (not_empty (rows_lost calls) [] row (sym e))
none_lost (call ∷ calls) e = none_lost calls e

pub all_sent : AllAreSent
all_sent rules g calls old new h fresh empty e =
    appended rules g calls old new h ∙ ap (λ (xs : List ℕ). xs ++ concat (map (wire_of g.output) (rows_sent calls))) empty
    ∙ ap (λ (rows : List RowView). concat (map (wire_of g.output) rows))
    (sym (of_life rules g calls old new h ∙ ap (λ (E : List Entry). popped E ++ rows_popped calls) fresh ∙ none_lost calls e))
