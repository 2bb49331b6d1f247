-- How many data frames stand among those that were put.
use Rattle.std.proofs.Common.{arith, ◌≡◌, ◌+◌, ℕ, Bool, true, false, true≢false, if◌then◌else◌, nat_lt, List, [], ◌∷◌, ◌++◌, length, Some, None, Result, Ok, Err, IfOk, OnOk, refl, sym, ap, ◌∙◌, subst, append-nil, length-append}
use Rattle.pdc_aligner.specs.Laid.{frames_of, is_told, layout_in, second_at}
use Rattle.pdc_aligner.specs.Sequence.{instants_of}
use Rattle.pdc_hub.specs.declared.fault.HubFault.{HubFault}
use Rattle.pdc_life.specs.Given.{Given}
use Rattle.pdc_life.specs.Life.{Arrive, Entry, Pop, Tick, now_of, popped}
use Rattle.pdc_life.specs.Published.{layout_wire}
use Rattle.pdc_pipe.specs.Sequence.{bytes_of}
use Rattle.pdc_pipe.specs.declared.message.Message.{Message}
use Rattle.pdc_pipe.specs.declared.message.LayoutFrame.{LayoutFrame}
use Rattle.pdc_pipe.specs.declared.message.Message.TheVariants.{Data, Layout, End}
use Rattle.pdc_publisher.specs.PublishedRow.{frame_in, row_of}
use Rattle.pdc_row.specs.Layout.{wire_of}
use Rattle.pdc_row.specs.declared.output.Output.{Output}
use Rattle.pdc_threads.specs.declared.totals.Totals.{Totals}

-- the second byte has the kind above its low four bits, which is 0 of a data frame
is_data_frame : List ℕ → Bool
is_data_frame (sync ∷ kind ∷ rest) = nat_lt kind 16
is_data_frame bytes = false

data_in : List (List ℕ) → ℕ
data_in [] = 0
data_in (bytes ∷ frames) = (if is_data_frame bytes then 1 else 0) + data_in frames

data_append : (xs ys : List (List ℕ)) → data_in (xs ++ ys) ≡ data_in xs + data_in ys
unfolding data_in
data_append [] ys = omega arith
data_append (x ∷ xs) ys = omega (arith, data_append xs ys)

row_is_data : (output : Output) (row : _) → is_data_frame (wire_of output row) ≡ true
unfolding is_data_frame
row_is_data output row = refl

layout_is_none : (g : Given) (E : List Entry) (second : ℕ) → is_data_frame (layout_wire g E second) ≡ false
unfolding is_data_frame
layout_is_none g E second = refl

one_data : (bytes : List ℕ) → is_data_frame bytes ≡ true → data_in (bytes ∷ []) ≡ 1
unfolding data_in
one_data bytes h = rw h refl

no_data : (bytes : List ℕ) → is_data_frame bytes ≡ false → data_in (bytes ∷ []) ≡ 0
unfolding data_in
no_data bytes h = rw h refl

none_in : (g : Given) (E : List Entry) (second : ℕ) (b : Bool) → data_in (if b then layout_wire g E second ∷ [] else []) ≡ 0
unfolding data_in
none_in g E second true = no_data (layout_wire g E second) (layout_is_none g E second)
none_in g E second false = refl

-- of a life they are as many as were popped
data_of_life : (g : Given) (output : Output) (rate every : ℕ) (E : List Entry) → data_in (frames_of g output rate every E) ≡ length (popped E)
unfolding data_in
data_of_life g output rate every [] = refl
data_of_life g output rate every (Arrive s bytes arrival answer ∷ E) = data_of_life g output rate every E
data_of_life g output rate every (Tick now counts answer ∷ E) = data_of_life g output rate every E
data_of_life g output rate every (Pop (Some row) ∷ E) =
    let frames = frames_of g output rate every E in
    omega (arith, data_append frames (wire_of output row ∷ []), one_data (wire_of output row) (row_is_data output row), length-append (popped E) (row ∷ []), data_of_life g output rate every E)
data_of_life g output rate every (Pop None ∷ E) =
    let frames = frames_of g output rate every E in
    omega (arith, data_append frames (layout_in g rate every E), none_in g E (second_at rate (now_of g E)) (is_told every E), ap length (append-nil (popped E)), data_of_life g output rate every E)

put_is_none : (frame : LayoutFrame) (b : Bool) → is_data_frame frame.bytes.items ≡ b → b ≡ false
put_is_none frame false e = refl
put_is_none frame true e = absurd (frame.of_some_layout (λ g E soc is. true≢false (sym e ∙ (ap is_data_frame is ∙ layout_is_none g E soc))))

-- and of what was put, as many as it has instants
data_put : (put : List Message) → data_in (bytes_of put) ≡ length (instants_of put)
unfolding data_in
data_put [] = refl
data_put (Data row ∷ put) =
    omega (arith, data_append (frame_in row ∷ []) (bytes_of put), one_data (frame_in row) (row_is_data row.output (row_of row)), data_put put)
data_put (Layout frame ∷ put) =
    omega (arith, data_append (frame.bytes.items ∷ []) (bytes_of put), no_data frame.bytes.items (put_is_none frame (is_data_frame frame.bytes.items) refl), data_put put)
data_put (End ∷ put) = data_put put

-- An Ok run tells how many rows its life popped.
pub tells_popped : (g : Given) (output : Output) (rate every : ℕ) (E : List Entry) (put : List Message) (lost : List (List ℕ)) (outcome : Result Totals HubFault) (aligned : Result ℕ HubFault)
    → IfOk outcome (λ totals. aligned ≡ Ok totals.published) → IfOk aligned (λ published. published ≡ length (instants_of put)) → OnOk aligned (lost ≡ []) → frames_of g output rate every E ≡ bytes_of put ++ lost
    → IfOk outcome (λ totals. totals.published ≡ length (popped E))
tells_popped g output rate every E put lost (Ok totals) aligned same many none laid =
    let count : totals.published ≡ length (instants_of put) = subst (λ (r : Result ℕ HubFault). IfOk r (λ published. published ≡ length (instants_of put))) same many in
    let all : lost ≡ [] = subst (λ (r : Result ℕ HubFault). OnOk r (lost ≡ [])) same none in
    let frames : frames_of g output rate every E ≡ bytes_of put = laid ∙ (ap (λ l. bytes_of put ++ l) all ∙ append-nil (bytes_of put)) in
    count ∙ (sym (data_put put) ∙ (ap data_in (sym frames) ∙ data_of_life g output rate every E))
tells_popped g output rate every E put lost (Err fault) aligned same many none laid = tt
