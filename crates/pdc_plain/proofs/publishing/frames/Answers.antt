use Rattle.std.proofs.Common.{◌≡◌, ◌<◌, ◌+◌, ◌∙◌, ◌++◌, ◌∷◌, [], List, ℕ, Global, Vec, ap, get_or, length, map, sym, take}
use Rattle.std.proofs.lemmas.List.{map-append, take_more}
use Rattle.pdc_row.specs.RowView.{row_view}
use Rattle.pdc_row.specs.declared.due_row.DueRow.{DueRow}
use Rattle.pdc_row.specs.Layout.{wire_of}
use Rattle.pdc_plain.proofs.publishing.frames.Goals as goal

-- one more frame is that of one more row
more : (f : DueRow → List ℕ) (rows : List DueRow) (i : ℕ) (row : DueRow) (before after : List (Vec ℕ Global)) (frame : Vec ℕ Global) → i < length rows → row ≡ get_or rows i row
    → frame.items ≡ f row → after ≡ before ++ frame ∷ [] → map (λ (x : Vec ℕ Global). x.items) before ≡ map f (take i rows)
    → map (λ (x : Vec ℕ Global). x.items) after ≡ map f (take (i + 1) rows)
more f rows i row before after frame h is e a b =
    ap (map (λ (x : Vec ℕ Global). x.items)) a ∙ map-append (λ (x : Vec ℕ Global). x.items) before (frame ∷ [])
    ∙ ap (λ (xs : List (List ℕ)). xs ++ frame.items ∷ []) b ∙ ap (λ (x : List ℕ). map f (take i rows) ++ x ∷ []) (e ∙ ap f is)
    ∙ sym (ap (map f) (take_more rows i row h) ∙ map-append f (take i rows) (get_or rows i row ∷ []))

pub loop-row-preserved : goal.loop-row-preserved
loop-row-preserved c =
    more (λ (row : DueRow). wire_of c.args.output.now (row_view row)) c.args.rows.now c.loop-row.row-index c.row-item.result c.loop-row.frames.items c.push.new.self.items c.in_ok-frame.field-0
    c.loop-row-test.true c.row-item.is c.in_ok-frame.ensures c.in_ok-push.ensures.items c.loop-row.invariant
