-- The instants of what is put.
use Rattle.std.proofs.Common.{arith, ◌<◌, ◌≤◌, ◌+◌, ◌≡◌, ℕ, List, [], ◌∷◌, ◌++◌, Result, Ok, Err, OnErr, OnOk, length, sym, refl, ap, ◌∙◌, subst, append-nil}
use Rattle.std.proofs.lemmas.List.{length-append}
use Rattle.pdc_pipe.specs.declared.message.Message.{Message}
use Rattle.pdc_pipe.specs.declared.message.Message.TheVariants.{Data, Layout, End}
use Rattle.pdc_pipe.specs.declared.message.LayoutFrame.{LayoutFrame}
use Rattle.pdc_publisher.specs.PublishedRow.{row_of}
use Rattle.pdc_publisher.specs.declared.published_row.PublishedRow.{PublishedRow}
use Rattle.pdc_hub.specs.declared.fault.HubFault.{HubFault}
use Rattle.pdc_row.specs.RowView.{RowView}
use Rattle.pdc_row.specs.declared.output.Output.{Output}
use Rattle.pdc_aligner.specs.Sequence.{HasPutAll, HasPutRow, Rises, RisesOn, instants_of}

pub instants_of-append : (xs ys : List Message) → instants_of (xs ++ ys) ≡ instants_of xs ++ instants_of ys
instants_of-append [] ys = refl
instants_of-append (Data p ∷ ms) ys = ap (λ l. (row_of p).instant ∷ l) (instants_of-append ms ys)
instants_of-append (Layout b ∷ ms) ys = instants_of-append ms ys
instants_of-append (End ∷ ms) ys = instants_of-append ms ys

pub rises_more : (low : ℕ) (ns : List ℕ) (high n : ℕ) → Rises low ns high → high < n → Rises low (ns ++ n ∷ []) n
rises_more low [] high n r l = (omega (arith, r, l), omega arith)
rises_more low (m ∷ ms) high n r l = (r.0, rises_more m ms high n r.1 l)

pub rises_on : (low : ℕ) (ns : List ℕ) (high n : ℕ) → Rises low ns high → high ≤ n → Rises low ns n
rises_on low [] high n r l = omega (arith, r, l)
rises_on low (m ∷ ms) high n r l = (r.0, rises_on m ms high n r.1 l)

pub put_data : (put after : List Message) (p : PublishedRow) → after ≡ put ++ Data p ∷ [] → instants_of after ≡ instants_of put ++ (row_of p).instant ∷ []
put_data put after p e = ap instants_of e ∙ instants_of-append put (Data p ∷ [])

pub put_layout : (put after : List Message) (b : LayoutFrame) → after ≡ put ++ Layout b ∷ [] → instants_of after ≡ instants_of put
put_layout put after b e = ap instants_of e ∙ (instants_of-append put (Layout b ∷ []) ∙ append-nil (instants_of put))

pub put_end : (put after : List Message) → after ≡ put ++ End ∷ [] → instants_of after ≡ instants_of put
put_end put after e = ap instants_of e ∙ (instants_of-append put (End ∷ []) ∙ append-nil (instants_of put))

pub rises_put : (low : ℕ) (ns : List ℕ) (high n last : ℕ) → Rises low ns high → high < n → last ≡ n → Rises low (ns ++ n ∷ []) last
rises_put low ns high n last r l e = subst (λ k. Rises low (ns ++ n ∷ []) k) (sym e) (rises_more low ns high n r l)

-- one more of them is one more
length_more : (ns : List ℕ) (n : ℕ) → length (ns ++ n ∷ []) ≡ length ns + 1
length_more ns n = length-append ns (n ∷ [])

-- a data frame that was put is one more
pub one_more : (put after : List Message) (p : PublishedRow) → after ≡ put ++ Data p ∷ [] → length (instants_of after) ≡ length (instants_of put) + 1
one_more put after p e = ap length (put_data put after p e) ∙ length_more (instants_of put) (row_of p).instant

-- as many frames as rows
pub put_all : {A : Type 0} (first popped : ℕ) (before put : List Message) (x : A) → popped + length (instants_of before) ≡ first + length (instants_of put) → HasPutAll first popped before put (Ok x)
put_all first popped before put x e = record { lost = 0; all = omega (arith, e); one_at_most = omega arith; whole = refl }

-- and where a call failed, or one row more
pub put_but : {A : Type 0} (first popped lost : ℕ) (before put : List Message) (fault : HubFault) → popped + length (instants_of before) ≡ first + length (instants_of put) + lost → lost ≤ 1 → HasPutAll {A = A} first popped before put (Err fault)
put_but first popped lost before put fault e few = record { lost = lost; all = e; one_at_most = few; whole = tt }

-- what put no data frame more
pub put_same : {A : Type 0} (first popped : ℕ) (before middle put : List Message) (r : Result A HubFault) → HasPutAll first popped before middle r → instants_of put ≡ instants_of middle → HasPutAll first popped before put r
put_same first popped before middle put r h e = record { lost = h.lost; all = omega (arith, h.all, ap length e); one_at_most = h.one_at_most; whole = h.whole }

pub put_then : {A B : Type 0} (first popped : ℕ) (before middle put : List Message) (x : A) (r : Result B HubFault) → HasPutAll first popped before middle (Ok x) → instants_of put ≡ instants_of middle → HasPutAll first popped before put r
put_then first popped before middle put x (Ok y) h e = record { lost = h.lost; all = omega (arith, h.all, ap length e); one_at_most = h.one_at_most; whole = h.whole }
put_then first popped before middle put x (Err fault) h e = record { lost = h.lost; all = omega (arith, h.all, ap length e); one_at_most = h.one_at_most; whole = tt }

pub put_failed : {A B : Type 0} (first popped : ℕ) (before middle put : List Message) (r : Result A HubFault) (fault : HubFault) → HasPutAll first popped before middle r → instants_of put ≡ instants_of middle → HasPutAll {A = B} first popped before put (Err fault)
put_failed first popped before middle put r fault h e = record { lost = h.lost; all = omega (arith, h.all, ap length e); one_at_most = h.one_at_most; whole = tt }

-- from nothing on, where as many were put before
pub put_since : {A B : Type 0} (first middle popped : ℕ) (before put : List Message) (r : Result A HubFault) (fault : HubFault) → middle ≡ first + length (instants_of before) → HasPutAll middle popped before put r → HasPutAll {A = B} first popped [] put (Err fault)
put_since first middle popped before put r fault e h = record { lost = h.lost; all = omega (arith, h.all, e); one_at_most = h.one_at_most; whole = tt }

-- a row that was put, or was not
pub rises_either : (r : Result (Unit {0}) HubFault) (output : Output) (row : RowView) (before put : List Message) (first last : ℕ) → OnOk r (HasPutRow output row before put) → OnErr r (put ≡ before) → first < row.instant → last ≡ row.instant
    → RisesOn before first put last
rises_either (Ok x) output row before put first last h none lt e = λ low r.
    let at : (row_of h.frame).instant ≡ row.instant = ap (λ (v : RowView). v.instant) h.itself in
    subst (λ (ns : List ℕ). Rises low ns last) (sym (put_data before put h.frame h.behind)) (rises_put low (instants_of before) first (row_of h.frame).instant last r (omega (arith, lt, at)) (omega (arith, e, at)))
rises_either (Err fault) output row before put first last h none lt e = λ low r.
    subst (λ (ms : List Message). Rises low (instants_of ms) last) (sym none) (rises_on low (instants_of before) first last r (omega (arith, lt, e)))
