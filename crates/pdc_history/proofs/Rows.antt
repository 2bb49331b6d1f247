-- What a core published are the rows that its lives gave.
use Rattle.std.proofs.Common.{[], ◌++◌, ◌∙◌, ◌∷◌, ◌≡◌, ap, Bool, cond, false, List, map, None, Option, refl, Some, sym, true}
use Rattle.pdc_history.proofs.Names.{append-nil, append_assoc, Comes, ended, Ends, Entry, Given, given_in, Happened, is_same, IsMade, life_of, past_lives, PastLife, Pop, popped, published, published_at, Publishes, rows_of_lives, rows_of_one, RowsAreOfLives, RowView, since, Stored, Ticks, Who, with_entry, World}
use Rattle.pdc_history.proofs.{Lives.{of_one_append}, Made.{comes_is, ticks_is}}

abbrev Gives : List PastLife → List Entry → List RowView → Type 0
Gives past E rows = rows ≡ rows_of_lives past ++ popped E

-- an entry that is no pop gives no row
quiet_entry : (b : Bool) (e : Entry) (E : List Entry) → popped (e ∷ E) ≡ popped E → popped (with_entry (cond b (Some e) None) E) ≡ popped E
quiet_entry true e E q = q
quiet_entry false e E q = refl

arrival_is_quiet : (W : World) (H : List Happened) (v : Who) (e : Entry) (E : List Entry) → IsMade W H (Comes v e) → popped (e ∷ E) ≡ popped E
arrival_is_quiet W H v e E made = let come = comes_is W H v e made in ap (λ (x : Entry). popped (x ∷ E)) come.is

tick_is_quiet : (W : World) (H : List Happened) (v : Who) (e : Entry) (E : List Entry) → IsMade W H (Ticks v e) → popped (e ∷ E) ≡ popped E
tick_is_quiet W H v e E made = let t = ticks_is W H v e made in ap (λ (x : Entry). popped (x ∷ E)) t.is

quiet : (past : List PastLife) (E F : List Entry) (rows : List RowView) → popped F ≡ popped E → Gives past E rows → Gives past F (rows ++ [])
quiet past E F rows q k = append-nil rows ∙ k ∙ ap (λ (rs : List RowView). rows_of_lives past ++ rs) (sym q)

row_of_one : (who v : Who) (row : Option RowView) (past : List PastLife) (E : List Entry) (rows : List RowView) (b : Bool) → is_same v who ≡ b → Gives past E rows
    → Gives past (with_entry (cond b (Some (Pop row)) None) E) (rows ++ rows_of_one who (published_at (Publishes v row)))
row_of_one who v None past E rows true e k = append-nil rows ∙ k ∙ ap (λ (rs : List RowView). rows_of_lives past ++ rs) (sym (append-nil (popped E)))
row_of_one who v None past E rows false e k = append-nil rows ∙ k
row_of_one who v (Some r) past E rows true e k =
    ap (λ (b : Bool). rows ++ map (λ (x : Who × RowView). x.1) (cond b ((v, r) ∷ []) [])) e
    ∙ ap (λ (rs : List RowView). rs ++ r ∷ []) k ∙ append_assoc (rows_of_lives past) (popped E) (r ∷ [])
row_of_one who v (Some r) past E rows false e k =
    ap (λ (b : Bool). rows ++ map (λ (x : Who × RowView). x.1) (cond b ((v, r) ∷ []) [])) e
    ∙ append-nil rows ∙ k

end_of_one : (g : Given) (E : List Entry) (mark : Stored) (past : List PastLife) (rows : List RowView) (b : Bool) → Gives past E rows
    → Gives (ended (cond b (Some mark) None) (record { given = g; life = E }) ++ past) (since (cond b (Some mark) None) E) (rows ++ [])
end_of_one g E mark past rows true k = ap (λ (rs : List RowView). rs ++ []) k
end_of_one g E mark past rows false k = append-nil rows ∙ k

one_more : (W : World) (H : List Happened) (who : Who) (h : Happened) → IsMade W H h → Gives (past_lives W H who) (life_of H who) (rows_of_one who (published H))
    → Gives (past_lives W (h ∷ H) who) (life_of (h ∷ H) who) (rows_of_one who (published H) ++ rows_of_one who (published_at h))
one_more W H who (Comes v e) made k =
    quiet (past_lives W H who) (life_of H who) (life_of (Comes v e ∷ H) who) (rows_of_one who (published H))
    (quiet_entry (is_same v who) e (life_of H who) (arrival_is_quiet W H v e (life_of H who) made)) k
one_more W H who (Ticks v e) made k =
    quiet (past_lives W H who) (life_of H who) (life_of (Ticks v e ∷ H) who) (rows_of_one who (published H))
    (quiet_entry (is_same v who) e (life_of H who) (tick_is_quiet W H v e (life_of H who) made)) k
one_more W H who (Publishes v row) made k = row_of_one who v row (past_lives W H who) (life_of H who) (rows_of_one who (published H)) (is_same v who) refl k
one_more W H who (Ends v mark) made k = end_of_one (given_in W H who) (life_of H who) mark (past_lives W H who) (rows_of_one who (published H)) (is_same v who) k
one_more W H who h made k = quiet (past_lives W H who) (life_of H who) (life_of H who) (rows_of_one who (published H)) refl k

pub rows_are_of_lives : RowsAreOfLives
rows_are_of_lives W [] who is = refl
rows_are_of_lives W (h ∷ H) who is =
    of_one_append who (published H) (published_at h) ∙ one_more W H who h is.0 (rows_are_of_lives W H who is.1)
