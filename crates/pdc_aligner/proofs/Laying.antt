-- What is put is what the life puts, step by step.
use Rattle.std.proofs.Common.{arith, ◌≡◌, ◌≤◌, ◌+◌, ◌%◌, ◌==◌, ℕ, Bool, true, false, ◌&&◌, ◌||◌, List, [], ◌∷◌, ◌++◌, length, slice_index, nat_lt, Result, Ok, Err, OnOk, Option, None, Some, is_some, if◌then◌else◌, refl, sym, ap, ap₂, ◌∙◌, subst, append-nil}
use Rattle.std.proofs.Math.Logic.{∥∥₁_elim, ∥∥₁_map, ∥∥₁_prop}
use mathlib.Core.List.{IsPrefix}
use Rattle.std.proofs.Math.Nat.{mod-add-mod}
use Rattle.std.proofs.lemmas.Bool.Decides.{nat_tests}
use Rattle.pdc_align.specs.Align.{new_change, ticked_of}
use Rattle.pdc_ports.specs.declared.numbered.Numbered.{Numbered}
use Rattle.pdc_hub.specs.declared.fault.HubFault.{HubFault}
use Rattle.pdc_aligner.specs.Turns.{HasCleared, NoneFalls}
use Rattle.pdc_align.specs.declared.ticked.Ticked.{Ticked}
use Rattle.pdc_life.specs.Answer.{ReadStep, Rules, ToArrive, ToPop, ToTick, answered, life_from, pop_answer, tick_answer, waiting_counts}
use Rattle.pdc_life.specs.Arrival.{Arrival}
use Rattle.pdc_life.specs.Given.{Given}
use Rattle.pdc_life.specs.Life.{Answer, Arrive, Entry, Pop, Tick, changes, now_of}
use Rattle.pdc_life.specs.Published.{layout_wire}
use Rattle.pdc_log.specs.Log.{HasLooked, HasTurned, InTheLife, life_of, turned_in}
use Rattle.pdc_log.proofs.Fronts.{prefix_of, prefix_trans}
use Rattle.pdc_hub.specs.Pops.{IsPop}
use Rattle.pdc_hub.proofs.Replays.{here, life_append, life_of-snoc, turned_append}
use Rattle.pdc_publisher.specs.PublishedRow.{frame_in}
use Rattle.pdc_row.specs.Layout.{wire_of}
use Rattle.pdc_row.specs.RowView.{RowView, row_view}
use Rattle.pdc_row.specs.declared.due_row.DueRow.{DueRow}
use Rattle.pdc_row.specs.declared.output.Output.{Output}
use Rattle.pdc_pipe.specs.Sequence.{bytes_of}
use Rattle.pdc_pipe.specs.declared.message.Message.{Message}
use Rattle.pdc_pipe.specs.declared.message.Message.TheVariants.{Data, Layout, End}
use Rattle.pdc_aligner.specs.Sequence.{HasPutRow}
use Rattle.pdc_aligner.specs.Laid.{AreDone, HasPutLayout, IsAsked, IsAt, IsBefore, IsDone, IsLaid, IsLaidBut, IsLaidUpToLayout, are_done, frames_of, is_done, has_adopted, is_told, layout_in, second_at, ticks_in}

bytes_append : (xs ys : List Message) → bytes_of (xs ++ ys) ≡ bytes_of xs ++ bytes_of ys
bytes_append [] ys = refl
bytes_append (Data p ∷ ms) ys = ap (λ l. frame_in p ∷ l) (bytes_append ms ys)
bytes_append (Layout b ∷ ms) ys = ap (λ l. b.bytes.items ∷ l) (bytes_append ms ys)
bytes_append (End ∷ ms) ys = bytes_append ms ys

-- what is read off a life that reads nothing of arrivals
abbrev Quiet : {A : Type 0} → (List Entry → A) → Type 0
Quiet F = (E : List Entry) (s : ℕ) (bytes : List ℕ) (arrival : Arrival) (answer : Answer) → F (Arrive s bytes arrival answer ∷ E) ≡ F E

same_from : {A : Type 0} (F : List Entry → A) → Quiet F → (rules : Rules) (g : Given) (E : List Entry) (rest : List ReadStep) → turned_in rest ≡ 0 → F (life_from rules g E rest) ≡ F E
same_from F q rules g E [] n = refl
same_from F q rules g E (ToArrive s bytes arrival ∷ rest) n = same_from F q rules g (answered rules g E (ToArrive s bytes arrival) ∷ E) rest n ∙ q E s bytes arrival (rules g E s arrival)
same_from F q rules g E (ToTick now counts ∷ rest) n = absurd (omega (arith, n))
same_from F q rules g E (ToPop ∷ rest) n = absurd (omega (arith, n))

same_seen : {A : Type 0} (F : List Entry → A) → Quiet F → (rules : Rules) (g : Given) (before after : List ReadStep) → IsPrefix before after → turned_in after ≡ turned_in before → F (life_of rules g after) ≡ F (life_of rules g before)
same_seen F q rules g before after p n =
    let none : turned_in p.0 ≡ 0 = omega (arith, n, ap turned_in p.1, turned_append before p.0) in
    ap (λ (l : List ReadStep). F (life_of rules g l)) (sym p.1) ∙ (ap F (life_append rules g [] before p.0) ∙ same_from F q rules g (life_of rules g before) p.0 none)

-- all that is read off it here
abbrev pub shown : Given → Output → (rate every : ℕ) → List Entry → List (List ℕ) × List (List ℕ) × Bool × ℕ × ℕ × Bool
shown g output rate every E = (frames_of g output rate every E, layout_in g rate every E, has_adopted E, ticks_in E, now_of g E, is_told every E)

shown_quiet : (g : Given) (output : Output) (rate every : ℕ) → Quiet (shown g output rate every)
shown_quiet g output rate every E s bytes arrival answer = refl

wire_quiet : (g : Given) (soc : ℕ) → Quiet (λ E. layout_wire g E soc)
wire_quiet g soc E s bytes arrival answer = refl

-- two facts of one life
both : (rules : Rules) (named : Option Given) (s t : List ReadStep) (F G : Given → List Entry → Type 0) → InTheLife rules named s F → InTheLife rules named t G
    → ∥ ((g : Given) × (named ≡ Some g) × F g (life_of rules g s) × G g (life_of rules g t)) ∥₁
both rules named s t F G x y = ∥∥₁_elim x ∥∥₁_prop (λ a. ∥∥₁_map y (λ b. (a.0, a.1, a.2, subst (λ (h : Given). G h (life_of rules h t)) (here named b.0 a.0 b.1 a.1) b.2)))

looked_on : {A : Type 0} (F : Given → List Entry → A) → ((g : Given) → Quiet (F g)) → (rules : Rules) (g : Given) (before after : List ReadStep) → HasLooked before after → F g (life_of rules g after) ≡ F g (life_of rules g before)
looked_on F q rules g before after l = same_seen (F g) (q g) rules g before after l.later l.alone

-- what stands, stands once more was seen
pub laid_seen : (rules : Rules) (named : Option Given) (output : Output) (rate every : ℕ) (before after : List ReadStep) (put : List Message) → HasLooked before after
    → IsLaid rules named output rate every before put → IsLaid rules named output rate every after put
laid_seen rules named output rate every before after put l h =
    ∥∥₁_map h (λ x. (x.0, x.1, ap (λ t. t.0) (looked_on (λ g. shown g output rate every) (λ g. shown_quiet g output rate every) rules x.0 before after l) ∙ x.2))

pub but_seen : (rules : Rules) (named : Option Given) (output : Output) (rate every : ℕ) (before after : List ReadStep) (put : List Message) → HasLooked before after
    → IsLaidBut rules named output rate every before put → IsLaidBut rules named output rate every after put
but_seen rules named output rate every before after put l h =
    ∥∥₁_map h (λ x. (x.0, x.1, (x.2.0, ap (λ t. t.0) (looked_on (λ g. shown g output rate every) (λ g. shown_quiet g output rate every) rules x.0 before after l) ∙ x.2.1, x.2.2)))

-- all that was put is all but none
pub laid_but : (rules : Rules) (named : Option Given) (output : Output) (rate every : ℕ) (seen : List ReadStep) (put : List Message)
    → IsLaid rules named output rate every seen put → IsLaidBut rules named output rate every seen put
laid_but rules named output rate every seen put h = ∥∥₁_map h (λ x. (x.0, x.1, ([], x.2 ∙ sym (append-nil (bytes_of put)), omega arith)))

layout_few : (b : Bool) (wire : List ℕ) → length (if b then wire ∷ [] else []) ≤ 1
layout_few true wire = omega arith
layout_few false wire = omega arith

pub up_to_but : (rules : Rules) (named : Option Given) (output : Output) (rate every : ℕ) (seen : List ReadStep) (put : List Message)
    → IsLaidUpToLayout rules named output rate every seen put → IsLaidBut rules named output rate every seen put
up_to_but rules named output rate every seen put h = ∥∥₁_map h (λ x.
    let E = life_of rules x.0 seen in (x.0, x.1, (layout_in x.0 rate every E, x.2, layout_few (is_told every E) (layout_wire x.0 E (second_at rate (now_of x.0 E))))))

-- a tick puts nothing
pub tick_laid : (rules : Rules) (named : Option Given) (output : Output) (rate every now number : ℕ) (counts : List ℕ) (Told : Given → List Entry → Type 0) (before after : List ReadStep) (put : List Message)
    → HasTurned rules named (ToTick now counts) before after number Told → IsLaid rules named output rate every before put → IsLaid rules named output rate every after put
tick_laid rules named output rate every now number counts Told before after put t h = ∥∥₁_map h (λ x.
    let g = x.0 in let m = t.added.middle in
    let quiet = same_seen (shown g output rate every) (shown_quiet g output rate every) rules g before m t.added.later t.alone in
    (g, x.1, ap (λ (l : List ReadStep). frames_of g output rate every (life_of rules g l)) t.added.added ∙ (ap (frames_of g output rate every) (life_of-snoc rules g m (ToTick now counts)) ∙ (ap (λ p. p.0) quiet ∙ x.2))))

-- the frames after a pop
popped_frames : (g : Given) (output : Output) (rate every : ℕ) (E : List Entry) (row : Option RowView) → List (List ℕ)
popped_frames g output rate every E row = frames_of g output rate every (Pop row ∷ E)

-- a pop that gives a row, whose frame is put,
pub pop_laid : (rules : Rules) (named : Option Given) (output : Output) (rate every number : ℕ) (row : DueRow) (before after : List ReadStep) (put more : List Message)
    → HasTurned rules named ToPop before after number (λ g E. IsPop true row (pop_answer E)) → HasPutRow output (row_view row) put more
    → IsLaid rules named output rate every before put → IsLaid rules named output rate every after more
pop_laid rules named output rate every number row before after put more t p h =
    let m = t.added.middle in
    ∥∥₁_map (both rules named before m (λ g E. frames_of g output rate every E ≡ bytes_of put) (λ g E. IsPop true row (pop_answer E)) h t.added.told) (λ x.
    let g = x.0 in let E = life_of rules g m in
    let quiet = same_seen (shown g output rate every) (shown_quiet g output rate every) rules g before m t.added.later t.alone in
    let given : Some (row_view row) ≡ pop_answer E = x.3.0 refl in
    let at : frames_of g output rate every (Pop (pop_answer E) ∷ E) ≡ frames_of g output rate every E ++ wire_of output (row_view row) ∷ [] =
    ap (λ (r : Option RowView). frames_of g output rate every (Pop r ∷ E)) (sym given) in
    let bytes : bytes_of more ≡ bytes_of put ++ wire_of output (row_view row) ∷ [] =
    ap bytes_of p.behind ∙ (bytes_append put (Data p.frame ∷ []) ∙ ap (λ (b : List ℕ). bytes_of put ++ b ∷ []) (ap₂ wire_of p.said p.itself)) in (
      g,
      x.1,
      ap (λ (l : List ReadStep). frames_of g output rate every (life_of rules g l)) t.added.added ∙ (ap (frames_of g output rate every) (life_of-snoc rules g m ToPop) ∙
          (at ∙ (ap (λ l. l ++ wire_of output (row_view row) ∷ []) (ap (λ q. q.0) quiet ∙ x.2) ∙ sym bytes))),
    ))

-- or lost;
pub pop_lost : (rules : Rules) (named : Option Given) (output : Output) (rate every number : ℕ) (row : DueRow) (before after : List ReadStep) (put : List Message)
    → HasTurned rules named ToPop before after number (λ g E. IsPop true row (pop_answer E))
    → IsLaid rules named output rate every before put → IsLaidBut rules named output rate every after put
pop_lost rules named output rate every number row before after put t h =
    let m = t.added.middle in
    ∥∥₁_map (both rules named before m (λ g E. frames_of g output rate every E ≡ bytes_of put) (λ g E. IsPop true row (pop_answer E)) h t.added.told) (λ x.
    let g = x.0 in let E = life_of rules g m in
    let quiet = same_seen (shown g output rate every) (shown_quiet g output rate every) rules g before m t.added.later t.alone in
    let given : Some (row_view row) ≡ pop_answer E = x.3.0 refl in
    let at : frames_of g output rate every (Pop (pop_answer E) ∷ E) ≡ frames_of g output rate every E ++ wire_of output (row_view row) ∷ [] =
    ap (λ (r : Option RowView). frames_of g output rate every (Pop r ∷ E)) (sym given) in (
      g,
      x.1,
      (
        wire_of output (row_view row) ∷ [],
        ap (λ (l : List ReadStep). frames_of g output rate every (life_of rules g l)) t.added.added ∙ (ap (frames_of g output rate every) (life_of-snoc rules g m ToPop) ∙
            (at ∙ ap (λ l. l ++ wire_of output (row_view row) ∷ []) (ap (λ q. q.0) quiet ∙ x.2))),
        omega arith,
      ),
    ))

-- and one that finds none
pub pop_none : (rules : Rules) (named : Option Given) (output : Output) (rate every number : ℕ) (row : DueRow) (before after : List ReadStep) (put : List Message)
    → HasTurned rules named ToPop before after number (λ g E. IsPop false row (pop_answer E))
    → IsLaid rules named output rate every before put → IsLaidUpToLayout rules named output rate every after put
pop_none rules named output rate every number row before after put t h =
    let m = t.added.middle in
    ∥∥₁_map (both rules named before m (λ g E. frames_of g output rate every E ≡ bytes_of put) (λ g E. IsPop false row (pop_answer E)) h t.added.told) (λ x.
    let g = x.0 in let E = life_of rules g m in
    let quiet = same_seen (shown g output rate every) (shown_quiet g output rate every) rules g before m t.added.later t.alone in
    let given : None ≡ pop_answer E = x.3.1 refl in
    let now : life_of rules g after ≡ Pop (pop_answer E) ∷ E = ap (life_of rules g) t.added.added ∙ life_of-snoc rules g m ToPop in
    let at : frames_of g output rate every (Pop (pop_answer E) ∷ E) ≡ frames_of g output rate every E ++ layout_in g rate every E =
    ap (λ (r : Option RowView). frames_of g output rate every (Pop r ∷ E)) (sym given) in
    let same : layout_in g rate every (life_of rules g after) ≡ layout_in g rate every E = ap (layout_in g rate every) now in
    (g, x.1, ap (frames_of g output rate every) now ∙ (at ∙ (ap (λ l. l ++ layout_in g rate every E) (ap (λ q. q.0) quiet ∙ x.2) ∙ ap (λ l. bytes_of put ++ l) (sym same)))))

-- what is asked for stays, whoever else adds, and through pops
pub asked_popped : (rules : Rules) (named : Option Given) (every number now : ℕ) (wanted : Bool) (Told : Given → List Entry → Type 0) (before after : List ReadStep)
    → HasTurned rules named ToPop before after number Told → IsAsked rules named every before now wanted → IsAsked rules named every after now wanted
asked_popped rules named every number now wanted Told before after t h = ∥∥₁_map h (λ x.
    let g = x.0 in let m = t.added.middle in
    let after_is : life_of rules g after ≡ Pop (pop_answer (life_of rules g m)) ∷ life_of rules g m = ap (life_of rules g) t.added.added ∙ life_of-snoc rules g m ToPop in
    let told = same_seen (is_told every) (λ E s bytes arrival answer. refl) rules g before m t.added.later t.alone in
    let at = same_seen (now_of g) (λ E s bytes arrival answer. refl) rules g before m t.added.later t.alone in
    (g, x.1, (ap (is_told every) after_is ∙ (told ∙ x.2.0), ap (now_of g) after_is ∙ (at ∙ x.2.1))))

pub at_popped : (rules : Rules) (named : Option Given) (every number place : ℕ) (adopted : Bool) (Told : Given → List Entry → Type 0) (before after : List ReadStep)
    → HasTurned rules named ToPop before after number Told → IsAt rules named every before adopted place → IsAt rules named every after adopted place
at_popped rules named every number place adopted Told before after t h = ∥∥₁_map h (λ x.
    let g = x.0 in let m = t.added.middle in
    let after_is : life_of rules g after ≡ Pop (pop_answer (life_of rules g m)) ∷ life_of rules g m = ap (life_of rules g) t.added.added ∙ life_of-snoc rules g m ToPop in
    let has = same_seen has_adopted (λ E s bytes arrival answer. refl) rules g before m t.added.later t.alone in
    let count = same_seen ticks_in (λ E s bytes arrival answer. refl) rules g before m t.added.later t.alone in
    (g, x.1, (ap has_adopted after_is ∙ (has ∙ x.2.0), ap (λ n. n % every) (ap ticks_in after_is ∙ count) ∙ x.2.1)))

pub at_seen : (rules : Rules) (named : Option Given) (every place : ℕ) (adopted : Bool) (before after : List ReadStep) → HasLooked before after → IsAt rules named every before adopted place → IsAt rules named every after adopted place
at_seen rules named every place adopted before after l h = ∥∥₁_map h (λ x.
    let g = x.0 in
    (g, x.1, (looked_on (λ h. has_adopted) (λ h E s bytes arrival answer. refl) rules g before after l ∙ x.2.0, ap (λ n. n % every) (looked_on (λ h. ticks_in) (λ h E s bytes arrival answer. refl) rules g before after l) ∙ x.2.1)))

-- the layout behind the rows
layout_when : (b : Bool) (wire : List ℕ) → b ≡ true → (if b then wire ∷ [] else []) ≡ wire ∷ []
layout_when b wire is = rw is refl

layout_else : (b : Bool) (wire : List ℕ) → b ≡ false → (if b then wire ∷ [] else []) ≡ []
layout_else b wire is = rw is refl

pub layout_laid : (rules : Rules) (named : Option Given) (output : Output) (rate every now second : ℕ) (wanted : Bool) (before after : List ReadStep) (put more : List Message)
    → HasLooked before after → IsAsked rules named every before now wanted → second ≡ second_at rate now → HasPutLayout rules named after second wanted put more
    → IsLaidUpToLayout rules named output rate every before put → IsLaid rules named output rate every after more
layout_laid rules named output rate every now second true before after put more l asked dated p h =
    ∥∥₁_elim (both rules named before before (λ g E. frames_of g output rate every E ≡ bytes_of put ++ layout_in g rate every E) (λ g E. (is_told every E ≡ true) × (now_of g E ≡ now)) h asked) ∥∥₁_prop (λ x. ∥∥₁_map p.2 (λ y.
    let g = x.0 in let E = life_of rules g before in
    let wire : p.0.bytes.items ≡ layout_wire g (life_of rules g after) second = subst (λ (k : Given). p.0.bytes.items ≡ layout_wire k (life_of rules k after) second) (here named y.0 g y.1 x.1) y.2 in
    let same = same_seen (λ F. layout_wire g F second) (wire_quiet g second) rules g before after l.later l.alone in
    let frames = ap (λ t. t.0) (same_seen (shown g output rate every) (shown_quiet g output rate every) rules g before after l.later l.alone) in
    let told : layout_in g rate every E ≡ layout_wire g E (second_at rate (now_of g E)) ∷ [] = layout_when (is_told every E) (layout_wire g E (second_at rate (now_of g E))) x.3.0 in
    let at : layout_wire g E (second_at rate (now_of g E)) ≡ layout_wire g E second = ap (λ (n : ℕ). layout_wire g E n) (ap (second_at rate) x.3.1 ∙ sym dated) in
    let bytes : bytes_of more ≡ bytes_of put ++ p.0.bytes.items ∷ [] = ap bytes_of p.1 ∙ bytes_append put (Layout p.0 ∷ []) in
    (g, x.1, frames ∙ (x.2 ∙ (ap (λ w. bytes_of put ++ w) (told ∙ ap (λ (b : List ℕ). b ∷ []) (at ∙ (sym same ∙ sym wire))) ∙ sym bytes)))))
layout_laid rules named output rate every now second false before after put more l asked dated p h =
    ∥∥₁_map (both rules named before before (λ g E. frames_of g output rate every E ≡ bytes_of put ++ layout_in g rate every E) (λ g E. (is_told every E ≡ false) × (now_of g E ≡ now)) h asked) (λ x.
    let g = x.0 in let E = life_of rules g before in
    let frames = ap (λ t. t.0) (same_seen (shown g output rate every) (shown_quiet g output rate every) rules g before after l.later l.alone) in
    let none : layout_in g rate every E ≡ [] = layout_else (is_told every E) (layout_wire g E (second_at rate (now_of g E))) x.3.0 in
    (g, x.1, frames ∙ (x.2 ∙ (ap (λ w. bytes_of put ++ w) none ∙ (append-nil (bytes_of put) ∙ sym (ap bytes_of p))))))

-- from what was seen before
pub turned_from : (rules : Rules) (named : Option Given) (step : ReadStep) (before middle after : List ReadStep) (number : ℕ) (Told : Given → List Entry → Type 0)
    → HasLooked before middle → HasTurned rules named step middle after number Told → HasTurned rules named step before after number Told
turned_from rules named step before middle after number Told l t = record {
  added = record { middle = t.added.middle; later = prefix_trans before middle t.added.middle l.later t.added.later; added = t.added.added; numbered = t.added.numbered; told = t.added.told };
  alone = t.alone ∙ l.alone;
}

-- a tick with the counts that are stored
pub ticked_from : (rules : Rules) (named : Option Given) (before middle after : List ReadStep) (now : ℕ) (counts stored : List ℕ) (n : Numbered Ticked)
    → HasLooked before middle → counts ≡ stored
    → HasTurned rules named (ToTick now counts) middle after n.step (λ g E. n.answer ≡ ticked_of (changes E) (tick_answer g E now counts))
    → HasTurned rules named (ToTick now stored) before after n.step (λ g E. n.answer ≡ ticked_of (changes E) (tick_answer g E now stored))
ticked_from rules named before middle after now counts stored n l e t =
    subst (λ (cs : List ℕ). HasTurned rules named (ToTick now cs) before after n.step (λ g E. n.answer ≡ ticked_of (changes E) (tick_answer g E now cs))) e
    (turned_from rules named (ToTick now counts) before middle after n.step (λ g E. n.answer ≡ ticked_of (changes E) (tick_answer g E now counts)) l t)

-- a tick adopted where its answer has a change number
some_change : (change : ℕ) (adopted : List ℕ) → is_some (new_change change adopted) ≡ nat_lt 0 (length adopted)
some_change change [] = refl
some_change change (column ∷ columns) = grind (arith, nat_tests)

told_once : (b h r : Bool) → b || ((b || h) && r) ≡ b || (h && r)
told_once true h r = refl
told_once false h r = refl

-- After a tick, what is asked for,
pub tick_asked : (rules : Rules) (named : Option Given) (every now number place : ℕ) (counts : List ℕ) (ticked : Ticked) (adopted adopts wanted : Bool) (before after : List ReadStep)
    → HasTurned rules named (ToTick now counts) before after number (λ g E. ticked ≡ ticked_of (changes E) (tick_answer g E now counts)) → IsBefore rules named every before adopted place
    → adopts ≡ is_some ticked.change → wanted ≡ adopts || (adopted && (place == 0)) → IsAsked rules named every after now wanted
tick_asked rules named every now number place counts ticked adopted adopts wanted before after t h is wants =
    let m = t.added.middle in
    ∥∥₁_map (both rules named before m (λ g E. (has_adopted E ≡ adopted) × ((ticks_in E + 1) % every ≡ place)) (λ g E. ticked ≡ ticked_of (changes E) (tick_answer g E now counts)) h t.added.told) (λ x.
    let g = x.0 in let E = life_of rules g m in let A = tick_answer g E now counts in
    let after_is : life_of rules g after ≡ Tick now counts A ∷ E = ap (life_of rules g) t.added.added ∙ life_of-snoc rules g m (ToTick now counts) in
    let has = same_seen has_adopted (λ F s bytes arrival answer. refl) rules g before m t.added.later t.alone in
    let count = same_seen ticks_in (λ F s bytes arrival answer. refl) rules g before m t.added.later t.alone in
    let adopts_is : nat_lt 0 (length A.adopted) ≡ adopts = sym (is ∙ (ap (λ (k : Ticked). is_some k.change) x.3 ∙ some_change (changes E) A.adopted)) in
    let place_is : (ticks_in E + 1) % every ≡ place = ap (λ n. (n + 1) % every) count ∙ x.2.1 in
    let told : is_told every (Tick now counts A ∷ E) ≡ wanted =
    told_once (nat_lt 0 (length A.adopted)) (has_adopted E) ((ticks_in E + 1) % every == 0) ∙ (ap (λ b. b || (has_adopted E && ((ticks_in E + 1) % every == 0))) adopts_is ∙
    (ap (λ b. adopts || (b && ((ticks_in E + 1) % every == 0))) (has ∙ x.2.0) ∙ (ap (λ n. adopts || (adopted && (n == 0))) place_is ∙ sym wants))) in
    (g, x.1, (ap (is_told every) after_is ∙ told, ap (now_of g) after_is)))

-- and how it stands
pub tick_at : (rules : Rules) (named : Option Given) (every now number place : ℕ) (counts : List ℕ) (ticked : Ticked) (adopted adopts : Bool) (before after : List ReadStep)
    → HasTurned rules named (ToTick now counts) before after number (λ g E. ticked ≡ ticked_of (changes E) (tick_answer g E now counts)) → IsBefore rules named every before adopted place
    → adopts ≡ is_some ticked.change → IsAt rules named every after (adopts || adopted) place
tick_at rules named every now number place counts ticked adopted adopts before after t h is =
    let m = t.added.middle in
    ∥∥₁_map (both rules named before m (λ g E. (has_adopted E ≡ adopted) × ((ticks_in E + 1) % every ≡ place)) (λ g E. ticked ≡ ticked_of (changes E) (tick_answer g E now counts)) h t.added.told) (λ x.
    let g = x.0 in let E = life_of rules g m in let A = tick_answer g E now counts in
    let after_is : life_of rules g after ≡ Tick now counts A ∷ E = ap (life_of rules g) t.added.added ∙ life_of-snoc rules g m (ToTick now counts) in
    let has = same_seen has_adopted (λ F s bytes arrival answer. refl) rules g before m t.added.later t.alone in
    let count = same_seen ticks_in (λ F s bytes arrival answer. refl) rules g before m t.added.later t.alone in
    let adopts_is : nat_lt 0 (length A.adopted) ≡ adopts = sym (is ∙ (ap (λ (k : Ticked). is_some k.change) x.3 ∙ some_change (changes E) A.adopted)) in
    (g, x.1, (ap has_adopted after_is ∙ (ap (λ b. b || has_adopted E) adopts_is ∙ ap (λ b. adopts || b) (has ∙ x.2.0)), ap (λ n. n % every) (ap ticks_in after_is) ∙ (ap (λ n. (n + 1) % every) count ∙ x.2.1))))

-- the tick before the next
pub at_before : (rules : Rules) (named : Option Given) (every place next : ℕ) (adopted : Bool) (seen : List ReadStep) → next ≡ (place + 1) % every → IsAt rules named every seen adopted place → IsBefore rules named every seen adopted next
at_before rules named every place next adopted seen e h = ∥∥₁_map h (λ x. (x.0, x.1, (x.2.0, sym (e ∙ (ap (λ n. (n + 1) % every) (sym x.2.1) ∙ mod-add-mod (ticks_in (life_of rules x.0 seen)) every 1)))))

-- before the first tick
pub begins_at : (rules : Rules) (named : Option Given) (every place : ℕ) (seen : List ReadStep) → place ≡ 0 % every → InTheLife rules named seen (λ g E. E ≡ []) → IsAt rules named every seen false place
begins_at rules named every place seen z h = ∥∥₁_map h (λ x. (x.0, x.1, (ap has_adopted x.2, ap (λ E. ticks_in E % every) x.2 ∙ sym z)))

pub begins_laid : (rules : Rules) (named : Option Given) (output : Output) (rate every : ℕ) (seen : List ReadStep) (put : List Message) → put ≡ [] → InTheLife rules named seen (λ g E. E ≡ []) → IsLaid rules named output rate every seen put
begins_laid rules named output rate every seen put z h = ∥∥₁_map h (λ x. (x.0, x.1, ap (frames_of x.0 output rate every) x.2 ∙ sym (ap bytes_of z)))

-- but for the layout, which could not be put
pub layout_lost : (rules : Rules) (named : Option Given) (output : Output) (rate every : ℕ) (before after : List ReadStep) (put : List Message) → HasLooked before after
    → IsLaidUpToLayout rules named output rate every before put → IsLaidBut rules named output rate every after put
layout_lost rules named output rate every before after put l h = but_seen rules named output rate every before after put l (up_to_but rules named output rate every before put h)

-- and the end mark, which is no frame
pub laid_end : (rules : Rules) (named : Option Given) (output : Output) (rate every : ℕ) (seen : List ReadStep) (put more : List Message) → more ≡ put ++ End ∷ [] → IsLaid rules named output rate every seen put → IsLaid rules named output rate every seen more
laid_end rules named output rate every seen put more e h = ∥∥₁_map h (λ x. (x.0, x.1, x.2 ∙ sym (ap bytes_of e ∙ (bytes_append put (End ∷ []) ∙ append-nil (bytes_of put)))))

pub but_end : (rules : Rules) (named : Option Given) (output : Output) (rate every : ℕ) (seen : List ReadStep) (put more : List Message) → bytes_of more ≡ bytes_of put → IsLaidBut rules named output rate every seen put → IsLaidBut rules named output rate every seen more
but_end rules named output rate every seen put more e h = ∥∥₁_map h (λ x. (x.0, x.1, (x.2.0, x.2.1 ∙ ap (λ b. b ++ x.2.0) (sym e), x.2.2)))

pub same_bytes : (put more : List Message) → more ≡ put ++ End ∷ [] → bytes_of more ≡ bytes_of put
same_bytes put more e = ap bytes_of e ∙ (bytes_append put (End ∷ []) ∙ append-nil (bytes_of put))

-- counts that do not change do not fall
pub none_falls : (before after : List ℕ) → after ≡ before → NoneFalls before after
none_falls before after e column = subst (λ (l : List ℕ). slice_index before column ≤ slice_index l column) (sym e) (omega arith)

pub ok_map : {T : Type 0} (r : Result T HubFault) (P Q : Type 0) → (P → Q) → OnOk r P → OnOk r Q
ok_map (Ok x) P Q f h = f h
ok_map (Err e) P Q f h = tt

-- all rows that were due came out
done_same : (rules : Rules) (g : Given) (before after : List ReadStep) → IsPrefix before after → turned_in after ≡ turned_in before
    → (is_done (life_of rules g after) ≡ is_done (life_of rules g before)) × (are_done (life_of rules g after) ≡ are_done (life_of rules g before))
done_same rules g before after p n = (
  same_seen is_done (λ E s bytes arrival answer. refl) rules g before after p n,
  same_seen are_done (λ E s bytes arrival answer. refl) rules g before after p n,
)

pub done_begins : (rules : Rules) (named : Option Given) (seen : List ReadStep) → InTheLife rules named seen (λ g E. E ≡ []) → IsDone rules named seen
done_begins rules named seen h = ∥∥₁_map h (λ x. (x.0, x.1, (ap is_done x.2, ap are_done x.2)))

pub are_done_of : (rules : Rules) (named : Option Given) (seen : List ReadStep) → IsDone rules named seen → AreDone rules named seen
are_done_of rules named seen h = ∥∥₁_map h (λ x. (x.0, x.1, x.2.1))

pub done_seen : (rules : Rules) (named : Option Given) (before after : List ReadStep) → HasLooked before after → IsDone rules named before → IsDone rules named after
done_seen rules named before after l h = ∥∥₁_map h (λ x. let s = done_same rules x.0 before after l.later l.alone in (x.0, x.1, (s.0 ∙ x.2.0, s.1 ∙ x.2.1)))

pub are_done_seen : (rules : Rules) (named : Option Given) (before after : List ReadStep) → HasLooked before after → AreDone rules named before → AreDone rules named after
are_done_seen rules named before after l h = ∥∥₁_map h (λ x. let s = done_same rules x.0 before after l.later l.alone in (x.0, x.1, s.1 ∙ x.2))

both_true : (a b : Bool) → a ≡ true → b ≡ true → (a && b) ≡ true
both_true a b p q = rw (p, q) refl

pub done_ticked : (rules : Rules) (named : Option Given) (now number : ℕ) (counts : List ℕ) (Told : Given → List Entry → Type 0) (before after : List ReadStep)
    → HasTurned rules named (ToTick now counts) before after number Told → IsDone rules named before → AreDone rules named after
done_ticked rules named now number counts Told before after t h = ∥∥₁_map h (λ x.
    let g = x.0 in let m = t.added.middle in let E = life_of rules g m in
    let s = done_same rules g before m t.added.later t.alone in
    let after_is : life_of rules g after ≡ Tick now counts (tick_answer g E now counts) ∷ E = ap (life_of rules g) t.added.added ∙ life_of-snoc rules g m (ToTick now counts) in
    (g, x.1, ap are_done after_is ∙ both_true (is_done E) (are_done E) (s.0 ∙ x.2.0) (s.1 ∙ x.2.1)))

pub done_popped : (rules : Rules) (named : Option Given) (number : ℕ) (Told : Given → List Entry → Type 0) (before after : List ReadStep)
    → HasTurned rules named ToPop before after number Told → AreDone rules named before → AreDone rules named after
done_popped rules named number Told before after t h = ∥∥₁_map h (λ x.
    let g = x.0 in let m = t.added.middle in let E = life_of rules g m in
    let s = done_same rules g before m t.added.later t.alone in
    let after_is : life_of rules g after ≡ Pop (pop_answer E) ∷ E = ap (life_of rules g) t.added.added ∙ life_of-snoc rules g m ToPop in
    (g, x.1, ap are_done after_is ∙ (s.1 ∙ x.2)))

pub done_none : (rules : Rules) (named : Option Given) (number : ℕ) (row : DueRow) (before after : List ReadStep)
    → HasTurned rules named ToPop before after number (λ g E. IsPop false row (pop_answer E)) → AreDone rules named before → IsDone rules named after
done_none rules named number row before after t h =
    let m = t.added.middle in
    ∥∥₁_map (both rules named before m (λ g E. are_done E ≡ true) (λ g E. IsPop false row (pop_answer E)) h t.added.told) (λ x.
    let g = x.0 in let E = life_of rules g m in
    let s = done_same rules g before m t.added.later t.alone in
    let given : None ≡ pop_answer E = x.3.1 refl in
    let after_is : life_of rules g after ≡ Pop (pop_answer E) ∷ E = ap (life_of rules g) t.added.added ∙ life_of-snoc rules g m ToPop in
    (g, x.1, (ap is_done after_is ∙ ap (λ (r : Option RowView). is_done (Pop r ∷ E)) (sym given), ap are_done after_is ∙ (s.1 ∙ x.2))))

-- counts that waited are cleared
pub cleared_by : (rules : Rules) (named : Option Given) (step : ReadStep) (before seen after : List ReadStep) (waiting stored : List ℕ) (number : ℕ) (Told : Given → List Entry → Type 0)
    → HasLooked before seen → InTheLife rules named seen (λ g E. waiting ≡ waiting_counts g E) → NoneFalls waiting stored
    → HasTurned rules named step seen after number Told → HasCleared rules named before after stored
cleared_by rules named step before seen after waiting stored number Told l w c t = (
  seen,
  l,
  subst (λ (log : List ReadStep). IsPrefix seen log) (sym t.added.added) (prefix_of seen t.added.middle t.added.later (step ∷ [])),
  ∥∥₁_map w (λ x. (x.0, x.1, subst (λ (ws : List ℕ). NoneFalls ws stored) x.2 c)),
)
