-- What a run keeps of the headline, from its one life.
use Rattle.std.proofs.Common.{arith, ◌≡◌, ◌⊎◌, ⊎_elim, inl, inr, ◌<◌, ◌+◌, ◌==◌, ℕ, zero, suc, Bool, true, false, if◌then◌else◌, Contains, List, [], ◌∷◌, ◌++◌, length, Option, Some, None, slice_get, Result, Ok, Err, IfOk, OnOk, true≢false, refl, sym, ap, ◌∙◌, subst, append_assoc, append-nil}
use Rattle.std.proofs.lemmas.Bool.Decides.{nat_tests}
use Rattle.std.proofs.lemmas.List.Elements.{Contains-append_left, Contains-push}
use Rattle.std.proofs.lemmas.Option.{same_Some, slice_get_within}
use Rattle.std.specs.List.{AllByRecursion}
use Rattle.pdc_aligner.specs.Exact.{IsLayoutThen, PoppedRise}
use Rattle.pdc_aligner.specs.Laid.{frames_of, is_done, is_told, layout_in, second_at}
use Rattle.pdc_hub.specs.Replay.{Sayings}
use Rattle.pdc_hub.specs.declared.fault.HubFault.{HubFault}
use Rattle.pdc_life.specs.Answer.{IsLife, Rules}
use Rattle.pdc_life.specs.Arrival.{Arrival, Data}
use Rattle.pdc_life.specs.CellData.{CellsAreData, IsDataOf}
use Rattle.pdc_life.specs.CoreKind.{CoreKind, IsLifeOf, Says, output_under, rules_of, senders_of}
use Rattle.pdc_life.specs.Gave.{GavePresent, GaveUnderSection, IsExact, IsExactRow, RowsAreExact, ShallShow}
use Rattle.pdc_life.specs.Given.{Given}
use Rattle.pdc_life.specs.Laws.{LivesAreRuns}
use Rattle.pdc_life.specs.Life.{Answer, Arrive, Entry, Pop, Tick, now_of, popped, section_in_force}
use Rattle.pdc_life.specs.Published.{layout_wire}
use Rattle.pdc_life.specs.declared.outcome.Outcome.{Outcome}
use Rattle.pdc_life.specs.declared.outcome.Outcome.TheVariants.{Taken}
use Rattle.pdc_log.specs.Log.{brought, life_of}
use Rattle.pdc_ports.specs.Heard.{Heard}
use Rattle.pdc_row.specs.CellView.{BlockView, absent_view, is_present}
use Rattle.pdc_row.specs.Layout.{wire_of}
use Rattle.pdc_row.specs.Rising.{Rises}
use Rattle.pdc_row.specs.RowView.{RowView, row_instants}
use Rattle.pdc_row.specs.pdc_cfg.Section.{SectionFields}
use Rattle.pdc_row.specs.declared.output.Output.{Output}
use Rattle.pdc_threads.specs.Ended.{AreFor, Ending, HasEndedOf}
use Rattle.pdc_threads.specs.Headline.{AreFramesOf, HasGiven, IsOfSource, IsRowOfSources, RunsKeepHeadline, WereTaken, begun_with}
use Rattle.pdc_threads.specs.OneRun.{IsBrought}
use Rattle.pdc_threads.specs.declared.totals.Totals.{Totals}

-- ---- frames, by their rows

layout_first : (g : Given) (output : Output) (E : List Entry) (rows : List RowView) (bytes : List ℕ) (sent : List (List ℕ)) → IsLayoutThen g E bytes → AreFramesOf g output E rows sent
    → AreFramesOf g output E rows (bytes ∷ sent)
layout_first g output E [] bytes sent l h = (l, h)
layout_first g output E (row ∷ rows) bytes sent l h = inr (l, h)

frames_append : (g : Given) (output : Output) (E : List Entry) (rows more : List RowView) (sent others : List (List ℕ)) → AreFramesOf g output E rows sent → AreFramesOf g output E more others
    → AreFramesOf g output E (rows ++ more) (sent ++ others)
frames_append g output E [] more [] others h k = k
frames_append g output E (row ∷ rows) more [] others h k = absurd h
frames_append g output E [] more (bytes ∷ sent) others h k = layout_first g output E more bytes (sent ++ others) h.0 (frames_append g output E [] more sent others h.1 k)
frames_append g output E (row ∷ rows) more (bytes ∷ sent) others h k =
    ⊎_elim (λ (a : (bytes ≡ wire_of output row) × AreFramesOf g output E rows sent). inl (a.0, frames_append g output E rows more sent others a.1 k))
    (λ (a : IsLayoutThen g E bytes × AreFramesOf g output E (row ∷ rows) sent). inr (a.0, frames_append g output E (row ∷ rows) more sent others a.1 k)) h

layout_then : (g : Given) (output : Output) (E later F : List Entry) (second : ℕ) (b : Bool) → E ≡ later ++ F → AreFramesOf g output E [] (if b then layout_wire g F second ∷ [] else [])
layout_then g output E later F second true e = (record { later = later; before = F; stands = e; second = second; wire = refl }, tt)
layout_then g output E later F second false e = tt

-- the frames of a beginning of the life
frames_so_far : (g : Given) (output : Output) (rate every : ℕ) (E later F : List Entry) → E ≡ later ++ F → AreFramesOf g output E (popped F) (frames_of g output rate every F)
frames_so_far g output rate every E later [] e = tt
frames_so_far g output rate every E later (Arrive s bytes arrival answer ∷ F) e =
    frames_so_far g output rate every E (later ++ Arrive s bytes arrival answer ∷ []) F (e ∙ sym (append_assoc later (Arrive s bytes arrival answer ∷ []) F))
frames_so_far g output rate every E later (Tick now counts answer ∷ F) e =
    frames_so_far g output rate every E (later ++ Tick now counts answer ∷ []) F (e ∙ sym (append_assoc later (Tick now counts answer ∷ []) F))
frames_so_far g output rate every E later (Pop (Some row) ∷ F) e =
    let before = e ∙ sym (append_assoc later (Pop (Some row) ∷ []) F) in
    frames_append g output E (popped F) (row ∷ []) (frames_of g output rate every F) (wire_of output row ∷ [])
    (frames_so_far g output rate every E (later ++ Pop (Some row) ∷ []) F before) (inl (refl, tt))
frames_so_far g output rate every E later (Pop None ∷ F) e =
    let before = e ∙ sym (append_assoc later (Pop None ∷ []) F) in
    frames_append g output E (popped F) [] (frames_of g output rate every F) (layout_in g rate every F)
    (frames_so_far g output rate every E (later ++ Pop None ∷ []) F before)
    (layout_then g output E (later ++ Pop None ∷ []) F (second_at rate (now_of g F)) (is_told every F) before)

-- the first frames are those of the first rows
record AreFirst (g : Given) (output : Output) (E : List Entry) (rows : List RowView) (sent rest : List (List ℕ)) : Type 0 where
  first : List RowView
  more : List RowView
  same : first ++ more ≡ rows
  frames : AreFramesOf g output E first sent
  others : AreFramesOf g output E more rest

first_frames : (g : Given) (output : Output) (E : List Entry) (rows : List RowView) (sent rest : List (List ℕ)) → AreFramesOf g output E rows (sent ++ rest) → AreFirst g output E rows sent rest
first_frames g output E rows [] rest h = record { first = []; more = rows; same = refl; frames = tt; others = h }
first_frames g output E [] (bytes ∷ sent) rest h =
    let r = first_frames g output E [] sent rest h.1 in
    record { first = r.first; more = r.more; same = r.same; frames = layout_first g output E r.first bytes sent h.0 r.frames; others = r.others }
first_frames g output E (row ∷ rows) (bytes ∷ sent) rest h =
    ⊎_elim (λ (a : (bytes ≡ wire_of output row) × AreFramesOf g output E rows (sent ++ rest)).
    let r = first_frames g output E rows sent rest a.1 in
    record { first = row ∷ r.first; more = r.more; same = ap (λ l. row ∷ l) r.same; frames = inl (a.0, r.frames); others = r.others })
    (λ (a : IsLayoutThen g E bytes × AreFramesOf g output E (row ∷ rows) (sent ++ rest)).
    let r = first_frames g output E (row ∷ rows) sent rest a.1 in
    record { first = r.first; more = r.more; same = r.same; frames = layout_first g output E r.first bytes sent a.0 r.frames; others = r.others }) h

no_rows : (g : Given) (output : Output) (E : List Entry) (rows : List RowView) (rest : List (List ℕ)) → AreFramesOf g output E rows rest → rest ≡ [] → rows ≡ []
no_rows g output E [] rest h e = refl
no_rows g output E (row ∷ rows) rest h e = absurd (subst (λ (l : List (List ℕ)). AreFramesOf g output E (row ∷ rows) l) e h)

front_part : {A : Type 0} (P : A → Type 0) (xs more : List A) → AllByRecursion P (xs ++ more) → AllByRecursion P xs
front_part P [] more a = tt
front_part P (x ∷ xs) more a = (a.0, front_part P xs more a.1)

each : {A : Type 0} (P Q : A → Type 0) (xs : List A) → ((x : A) → P x → Q x) → AllByRecursion P xs → AllByRecursion Q xs
each P Q [] k a = tt
each P Q (x ∷ xs) k a = (k x a.0, each P Q xs k a.1)

rises_front : (low : ℕ) (rows more : List RowView) → Rises low (row_instants (rows ++ more)) → Rises low (row_instants rows)
rises_front low [] more h = tt
rises_front low (row ∷ rows) more h = (h.0, rises_front row.instant rows more h.1)

first_rows : (P : RowView → Type 0) (first more all : List RowView) → first ++ more ≡ all → AllByRecursion P all → AllByRecursion P first
first_rows P first more all same h = front_part P first more (subst (λ (l : List RowView). AllByRecursion P l) (sym same) h)

first_rise : (low : ℕ) (first more all : List RowView) → first ++ more ≡ all → Rises low (row_instants all) → Rises low (row_instants first)
first_rise low first more all same h = rises_front low first more (subst (λ (l : List RowView). Rises low (row_instants l)) (sym same) h)

-- with none left the first are all
first_all : (first more all : List RowView) → first ++ more ≡ all → more ≡ [] → first ≡ all
first_all first more all same none = sym (append-nil first) ∙ (ap (λ l. first ++ l) (sym none) ∙ same)

-- ---- what the sources gave

-- what the receivers have, one by one
record AreHeard {S : Type 0} (told : S → List Heard → Type 0) (Brought : ℕ → List (List ℕ × Outcome) → Type 0) (number : ℕ) (sources : List S) (endings : List Ending) : Type 0 where
  gave : List (List (List ℕ × Outcome))
  given : AreFor (HasGiven told Brought) number sources gave
  as_many : length gave ≡ length endings

heard_by_all : {S : Type 0} (told : S → List Heard → Type 0) (Brought : ℕ → List (List ℕ × Outcome) → Type 0) (number : ℕ) (sources : List S) (endings : List Ending)
    → AreFor (HasEndedOf told Brought) number sources endings → AreHeard told Brought number sources endings
heard_by_all told Brought number sources [] h = record { gave = []; given = tt; as_many = refl }
heard_by_all told Brought number [] (e ∷ endings) h = absurd h
heard_by_all told Brought number (source ∷ sources) (e ∷ endings) h =
    let r = heard_by_all told Brought (number + 1) sources endings h.1 in record {
      gave = h.0.own ∷ r.gave;
      given = (record { served = h.0.served; last = h.0.last; heard = h.0.told; are_served = h.0.are_served; are_brought = h.0.are_brought }, r.given);
      as_many = ap suc r.as_many;
    }

-- what stands at a place
record IsThere {S X : Type 0} (Fits : S → ℕ → X → Type 0) (xs : List X) (number k : ℕ) : Type 0 where
  source : S
  item : X
  listed : slice_get xs k ≡ Some item
  fits : Fits source number item

there : {S X : Type 0} (Fits : S → ℕ → X → Type 0) (first number : ℕ) (sources : List S) (xs : List X) (k : ℕ) → AreFor Fits first sources xs → k < length xs → first + k ≡ number → IsThere Fits xs number k
there Fits first number sources [] k h l e = absurd (omega (arith, l))
there Fits first number [] (x ∷ xs) k h l e = absurd h
there Fits first number (s ∷ sources) (x ∷ xs) zero h l e = record { source = s; item = x; listed = refl; fits = subst (λ (n : ℕ). Fits s n x) (omega (arith, e)) h.0 }
there Fits first number (s ∷ sources) (x ∷ xs) (suc k) h l e =
    let r = there Fits (first + 1) number sources xs k h.1 (omega (arith, l)) (omega (arith, e)) in record { source = r.source; item = r.item; listed = r.listed; fits = r.fits }

-- what stands among what a stream brought
has_come : (s : ℕ) (bytes : List ℕ) (arrival : Arrival) (answer : Answer) (E : List Entry) → Contains (brought s (Arrive s bytes arrival answer ∷ E)) (bytes, answer.outcome)
has_come s bytes arrival answer E = let same : (s == s) ≡ true = grind (arith, nat_tests) in rw same (Contains-push (brought s E) (bytes, answer.outcome))

stays : (b : Bool) (xs : List (List ℕ × Outcome)) (x y : List ℕ × Outcome) → Contains xs y → Contains (if b then xs ++ x ∷ [] else xs) y
stays true xs x y h = Contains-append_left xs (x ∷ []) y h
stays false xs x y h = h

stays_there : (s : ℕ) (later E : List Entry) (y : List ℕ × Outcome) → Contains (brought s E) y → Contains (brought s (later ++ E)) y
stays_there s [] E y h = h
stays_there s (Arrive t bytes arrival answer ∷ later) E y h = stays (t == s) (brought s (later ++ E)) (bytes, answer.outcome) y (stays_there s later E y h)
stays_there s (Tick now counts answer ∷ later) E y h = stays_there s later E y h
stays_there s (Pop row ∷ later) E y h = stays_there s later E y h

-- a life so far
life_then : (rules : Rules) (SaysOf : Sayings) (g : Given) (later E : List Entry) → IsLife rules SaysOf g (later ++ E) → IsLife rules SaysOf g E
life_then rules SaysOf g [] E h = h
life_then rules SaysOf g (Arrive s bytes arrival answer ∷ later) E h = life_then rules SaysOf g later E h.2
life_then rules SaysOf g (Tick now counts answer ∷ later) E h = life_then rules SaysOf g later E h.1
life_then rules SaysOf g (Pop row ∷ later) E h = life_then rules SaysOf g later E h.1

-- ---- the blocks of a row

some_stream : (lane : Bool) (E : List Entry) (c i : ℕ) (b : BlockView) → ShallShow lane E c i b → (s : ℕ) × GavePresent E s c i b
some_stream true E c i b k = (c, k)
some_stream false E c i b (inl k) = (0, k)
some_stream false E c i b (inr k) = (1, k.0)

-- of what the sources gave, what was taken
abbrev pub AllWereTaken : CoreKind → Bool → List (List (List ℕ × Outcome)) → List Entry → Type 0
AllWereTaken kind complete gave E = (s : ℕ) (bytes : List ℕ) → s < length (senders_of kind) → Contains (brought s E) (bytes, Taken) → complete ≡ true → WereTaken gave s bytes

module _ (are_data : CellsAreData) (under : GaveUnderSection) where
  given_block : (kind : CoreKind) (g : Given) (complete : Bool) (gave : List (List (List ℕ × Outcome))) (E : List Entry) (s c i : ℕ) (f : SectionFields) (b : BlockView)
      → IsLifeOf kind g E → section_in_force g E c ≡ Some f → AllWereTaken kind complete gave E → GavePresent E s c i b → IsOfSource kind complete gave E c i f b
  given_block kind g complete gave E s c i f b life in_force taken k =
      let is : IsDataOf kind E s c i f k.cell = are_data kind g E s c i f k.cell life in_force (under g E s c i k.cell k.gave) in
      let came : Contains (brought s E) (is.bytes, Taken) =
      subst (λ (o : Outcome). Contains (brought s E) (is.bytes, o)) is.taken
      (subst (λ (F : List Entry). Contains (brought s F) (is.bytes, is.answer.outcome)) (sym is.stands)
      (stays_there s is.later (Arrive s is.bytes (Data i is.quality is.payload) is.answer ∷ is.earlier) (is.bytes, is.answer.outcome)
      (has_come s is.bytes (Data i is.quality is.payload) is.answer is.earlier))) in
      record {
        stream = s;
        cell = k.cell;
        is_data = is;
        block = k.block;
        given = taken s is.bytes (slice_get_within (senders_of kind) s is.reads.sender is.reads.listed) came;
      }

  block_is : (kind : CoreKind) (g : Given) (complete : Bool) (gave : List (List (List ℕ × Outcome))) (E : List Entry) (c i : ℕ) (f : SectionFields) (b : BlockView) (shown : Option BlockView)
      → IsLifeOf kind g E → section_in_force g E c ≡ Some f → AllWereTaken kind complete gave E → IsExact g E c i f shown → shown ≡ Some b → (p : Bool) → is_present b ≡ p
      → (b ≡ absent_view f.shape) ⊎ IsOfSource kind complete gave E c i f b
  block_is kind g complete gave E c i f b shown life in_force taken exact is true here =
      let k = some_stream (g.lanes == 1) E c i b ((exact.present b here).0 is) in
      inr (given_block kind g complete gave E k.0 c i f b life in_force taken k.1)
  block_is kind g complete gave E c i f b shown life in_force taken exact is false here =
      inl (same_Some b (absent_view f.shape) (sym is ∙ exact.absent (λ other k.
      let there = some_stream (g.lanes == 1) E c i other k in
      let same : other ≡ b = same_Some other b (sym ((exact.present other there.1.present).1 k) ∙ is) in
      true≢false (sym there.1.present ∙ (ap is_present same ∙ here)))))

  row_is : (kind : CoreKind) (g : Given) (complete : Bool) (gave : List (List (List ℕ × Outcome))) (E : List Entry) (row : RowView)
      → IsLifeOf kind g E → AllWereTaken kind complete gave E → IsExactRow g E row → IsRowOfSources kind g E complete gave row
  row_is kind g complete gave E row life taken x =
      let t = x.of_tick in
      let before : IsLife (rules_of kind) (Says kind) g (Tick t.now t.counts t.answer ∷ t.before) =
      life_then (rules_of kind) (Says kind) g t.later (Tick t.now t.counts t.answer ∷ t.before) (subst (λ (F : List Entry). IsLife (rules_of kind) (Says kind) g F) t.stands life.life) in
      let were : AllWereTaken kind complete gave t.before =
      λ s bytes l come c. taken s bytes l
      (subst (λ (F : List Entry). Contains (brought s F) (bytes, Taken)) (sym t.stands) (stays_there s t.later (Tick t.now t.counts t.answer ∷ t.before) (bytes, Taken) come)) c in
      record {
        exact = x;
        blocks = λ c f b here in_force shown.
            block_is kind g complete gave t.before c row.instant f b _ (record { given = life.given; life = before.1 }) in_force were (x.blocks.each c f here in_force) shown (is_present b) refl;
      }

-- ---- the run

on_ok : {A B : Type 0} (outcome : Result Totals HubFault) → (A → B) → OnOk outcome A → OnOk outcome B
on_ok (Ok totals) f a = f a
on_ok (Err fault) f a = tt

as_told : (outcome : Result Totals HubFault) (popped rows : List RowView) → OnOk outcome (rows ≡ popped) → IfOk outcome (λ totals. totals.published ≡ length popped) → IfOk outcome (λ totals. totals.published ≡ length rows)
as_told (Ok totals) popped rows same is = is ∙ ap length (sym same)
as_told (Err fault) popped rows same is = tt

pub runs_keep_headline : {S I K : Type 0} (told : S → List Heard → Type 0) (gave : I → List ℕ → Type 0) (took : K → K → List (List ℕ) → Type 0)
    → CellsAreData → GaveUnderSection → LivesAreRuns → RowsAreExact → PoppedRise → RunsKeepHeadline told gave took
runs_keep_headline told gave took are_data under runs exact rise kind opening rate every sources ticker sink left before after outcome many one =
    let g : Given = begun_with kind before.stored opening in
    let output : Output = output_under kind in
    let E : List Entry = life_of (rules_of kind) g one.steps in
    let life : IsLifeOf kind g E = record { given = refl; life = one.is_life } in
    let frames : AreFramesOf g output E (popped E) (one.given ++ one.rest) =
    subst (λ (l : List (List ℕ)). AreFramesOf g output E (popped E) l) one.sent (frames_so_far g output rate every E [] E refl) in
    let split = first_frames g output E (popped E) one.given one.rest frames in
    let heard = heard_by_all told (λ s. IsBrought one.complete (brought s E)) 0 sources one.endings one.received in
    let taken : AllWereTaken kind one.complete heard.gave E =
    λ s bytes l come c.
    let r = there (HasGiven told (λ s. IsBrought one.complete (brought s E))) 0 s sources heard.gave s heard.given (omega (arith, l, many, heard.as_many, one.all_came c)) (omega arith) in
    (r.item, r.listed, subst (λ (l : List (List ℕ × Outcome)). Contains l (bytes, Taken)) (r.fits.are_brought.whole c) come) in
    let all : OnOk outcome (split.first ≡ popped E) =
    on_ok outcome (λ (w : (one.complete ≡ true) × (one.failed ≡ []) × (one.rest ≡ []) × (is_done E ≡ true)).
    first_all split.first split.more (popped E) split.same (no_rows g output E split.more one.rest split.others w.2)) one.whole in
    record {
      life = E;
      is_life = life;
      complete = one.complete;
      whole = on_ok outcome (λ w. w.0) one.whole;
      gave = heard.gave;
      given = heard.given;
      all_gave = λ c. heard.as_many ∙ one.all_came c;
      sent = one.given;
      took = one.took;
      rows = split.first;
      frames = split.frames;
      first = (split.more, split.same);
      all = all;
      published = as_told outcome (popped E) split.first all one.published;
      of_sources = each (IsExactRow g E) (IsRowOfSources kind g E one.complete heard.gave) split.first (λ row x. row_is are_data under kind g one.complete heard.gave E row life taken x)
          (first_rows (IsExactRow g E) split.first split.more (popped E) split.same (exact g E (runs kind g E life)).2);
      rise = first_rise before.stored.floor split.first split.more (popped E) split.same (rise kind g E life);
    }
