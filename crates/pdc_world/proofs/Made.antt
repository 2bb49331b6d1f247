-- Acts of one core, as what they make happen.
use Rattle.std.proofs.Common.{[], ◌++◌, ◌+◌, ◌<◌, ◌^◌, ◌∙◌, ◌∷◌, ◌≡◌, ap, arith, Bool, cond, Err, IfOk, length, List, nat_lt, None, Ok, Option, option_map, refl, Result, Some, subst, sym, ℕ}
use Rattle.pdc_history.specs.declared.who.Who.{Who as WhoData}
use Rattle.pdc_world.proofs.Names.{answered, append-nil, Arrival, Asked, Bring, changes, Comes, CoreKind, Ends, Entry, Fault, frames_with, Given, given_by, given_in, given_of, Happened, HasStopped, Hears, is_itself, IsAct, IsPart, IsReadOf, IsSeat, IsSend, IsStepOf, Keeps, kind_of, layout_wire, layouts_of, lead_of, LedgerView, left_by, life_of, listed_at, listed_with, lt-ltb, mark_of, MayCome, Miss, new_change, Outcome, output_of, PassesBy, Pop, pop_answer, Published, published_as, Publishes, raised, Reply, reserved, RowView, Rules, rules_of, Says, Seat, Sends, sent, sent_at, Stop, StopAt, Stored, Tick, tick_answer, Ticked, ticked_of, Ticks, ToArrive, waiting_counts, Who, who_of, with_next_start, with_waiting, World}
use Rattle.pdc_world.proofs.{Ended.{asked_to_stop, begun_by, stop_step}, Own.{come_comes, come_ends, come_passes, come_publishes, come_ticks, name_back}}
use Rattle.pdc_history.specs.declared.reply.Reply.TheVariants as reply
use Rattle.pdc_history.specs.Asked as asked
use Rattle.pdc_history.specs.Event as event

-- ---- the ledger

more_kept : (W : World) (H : List Happened) (h : Happened) (l m : LedgerView) → Keeps W H l → m.table ≡ l.table → m.frames ≡ l.frames ++ sent_at W H h
    → m.published ≡ l.published ++ listed_at W H h → Keeps W (h ∷ H) m
more_kept W H h l m keeps table frames published = record {
  table = table ∙ keeps.table;
  frames = frames ∙ ap (λ (xs : List (List ℕ)). xs ++ sent_at W H h) keeps.frames;
  published = published ∙ ap (λ (xs : List Published). xs ++ listed_at W H h) keeps.published;
}

quiet : (W : World) (H : List Happened) (h : Happened) (l : LedgerView) → Keeps W H l → sent_at W H h ≡ [] → listed_at W H h ≡ [] → Keeps W (h ∷ H) l
quiet W H h l keeps unsent unlisted =
    more_kept W H h l l keeps refl (sym (ap (λ (xs : List (List ℕ)). l.frames ++ xs) unsent ∙ append-nil l.frames))
    (sym (ap (λ (xs : List Published). l.published ++ xs) unlisted ∙ append-nil l.published))

-- ---- arrivals

-- what its core is told, as the kind of core that the world says
pub said_to : (W : World) (who : Who) (seat : Seat) (s : ℕ) (bytes : List ℕ) (arrival : Arrival) → IsSeat W who seat → Says seat.kind s bytes arrival
    → Says (kind_of W who) s bytes arrival
said_to W who seat s bytes arrival one says = subst (λ (kind : CoreKind). Says kind s bytes arrival) one.kind says

pub heard_made : (W : World) (H : List Happened) (w : WhoData) (asked : Asked) (old new : Seat) (l : LedgerView) (s : ℕ) (bytes : List ℕ) (outcome : Outcome)
    (rules : Rules) (says : ℕ → List ℕ → Arrival → Type 0) → rules ≡ rules_of old.kind
    → IsPart W H (who_of w) old l → (hears : Hears says rules old.stands new.stands s bytes outcome) → new.mark ≡ old.mark
    → IsReadOf W H asked (Bring (who_of w) s bytes hears.arrival) → MayCome W H (who_of w) s bytes hears.arrival
    → IsAct W H (who_of w) asked new l (reply.Came w (Some outcome))
heard_made W H w asked old new l s bytes outcome rules says of_kind part hears stays read may =
    let by : rules ≡ rules_of (kind_of W (who_of w)) = of_kind ∙ ap rules_of part.one.kind in
    let v : Who = who_of w in
    let g : Given = given_in W H v in
    let E : List Entry = life_of H v in
    record {
      happened = Comes v (answered (rules_of (kind_of W v)) g E (ToArrive s bytes hears.arrival));
      step = record { event = Bring v s bytes hears.arrival; read = read; may = may; made = refl };
      own = is_itself v;
      come =
          come_comes W H v (answered (rules_of (kind_of W v)) g E (ToArrive s bytes hears.arrival)) new
          (subst (λ (r : Rules). new.stands g (answered r g E (ToArrive s bytes hears.arrival) ∷ E)) by (hears.stands g E part.come.stands))
          (stays ∙ part.come.mark);
      keeps = quiet W H (Comes v (answered (rules_of (kind_of W v)) g E (ToArrive s bytes hears.arrival))) l part.keeps refl refl;
      told =
          ap (λ (o : Outcome). reply.Came w (Some o)) (hears.answer g E part.come.stands ∙ ap (λ (r : Rules). (r g E s hears.arrival).outcome) by)
          ∙ ap (λ (x : WhoData). reply.Came x (Some (rules_of (kind_of W v) g E s hears.arrival).outcome)) (sym (name_back w));
    }

pub passed_made : (W : World) (H : List Happened) (w : WhoData) (asked : Asked) (seat : Seat) (l : LedgerView) → IsPart W H (who_of w) seat l
    → IsReadOf W H asked (Miss (who_of w)) → IsAct W H (who_of w) asked seat l (reply.Came w None)
passed_made W H w asked seat l part read = record {
  happened = PassesBy (who_of w);
  step = record { event = Miss (who_of w); read = read; may = tt; made = refl };
  own = is_itself (who_of w);
  come = come_passes W H (who_of w) seat part.come;
  keeps = quiet W H (PassesBy (who_of w)) l part.keeps refl refl;
  told = ap (λ (x : WhoData). reply.Came x None) (sym (name_back w));
}

-- ---- ticks

-- a tick tells a change number where it adopted
same_layouts : (change : ℕ) (adopted : List ℕ) (g : Given) (E : List Entry) → layouts_of (new_change change adopted) g E ≡ cond (nat_lt 0 (length adopted)) (layout_wire g E 0 ∷ []) []
same_layouts change [] g E = refl
same_layouts change (c ∷ cs) g E =
    ap (λ (b : Bool). cond b (layout_wire g E 0 ∷ []) []) (sym (lt-ltb 0 (length (c ∷ cs)) (omega arith)))

same_change : (change : ℕ) (adopted : List ℕ) → new_change change adopted ≡ cond (nat_lt 0 (length adopted)) (Some (change + 1)) None
same_change change [] = refl
same_change change (c ∷ cs) = ap (λ (b : Bool). cond b (Some (change + 1)) None) (sym (lt-ltb 0 (length (c ∷ cs)) (omega arith)))

pub ticked_made : (W : World) (H : List Happened) (w : WhoData) (old new : Seat) (l m : LedgerView) (now : ℕ) (ticked : Ticked)
    → IsPart W H (who_of w) old l
    → ((g : Given) (E : List Entry) → old.stands g E → new.mark ≡ with_waiting (waiting_counts g E) old.mark)
    → ((g : Given) (E : List Entry) → old.stands g E → ticked ≡ ticked_of (changes E) (tick_answer g E now new.mark.counts))
    → ((g : Given) (E : List Entry) → old.stands g E → new.stands g (Tick now new.mark.counts (tick_answer g E now new.mark.counts) ∷ E))
    → m.table ≡ l.table → ((g : Given) (E : List Entry) → new.stands g E → m.frames ≡ l.frames ++ layouts_of ticked.change g E) → m.published ≡ l.published
    → IsAct W H (who_of w) (asked.Do (who_of w) (event.TickAt now)) new m (reply.Ticked w ticked)
ticked_made W H w old new l m now ticked part marks tells stands table frames published =
    let v : Who = who_of w in
    let g : Given = given_in W H v in
    let E : List Entry = life_of H v in
    let r : Stored = raised W H v in
    let e : Entry = Tick now r.counts (tick_answer g E now r.counts) in
    let same : new.mark ≡ r = marks g E part.come.stands ∙ ap (with_waiting (waiting_counts g E)) part.come.mark in
    let after : new.stands g (e ∷ E) = subst (λ (x : Stored). new.stands g (Tick now x.counts (tick_answer g E now x.counts) ∷ E)) same (stands g E part.come.stands) in
    let told : ticked ≡ ticked_of (changes E) (tick_answer g E now r.counts) =
    tells g E part.come.stands ∙ ap (λ (x : Stored). ticked_of (changes E) (tick_answer g E now x.counts)) same in
    record {
      happened = Ticks v e;
      step = record { event = event.Do v (event.TickAt now); read = refl; may = tt; made = refl };
      own = is_itself v;
      come = come_ticks W H v e new after same;
      keeps =
          more_kept W H (Ticks v e) l m part.keeps table
          (frames g (e ∷ E) after ∙ ap (λ (t : Ticked). l.frames ++ layouts_of t.change g (e ∷ E)) told
          ∙ ap (λ (xs : List (List ℕ)). l.frames ++ xs) (same_layouts (changes E) (tick_answer g E now r.counts).adopted g (e ∷ E)))
          (published ∙ sym (append-nil l.published));
      told =
          ap (reply.Ticked w) told
          ∙ ap (λ (c : Option ℕ). reply.Ticked w (record { closed = length (tick_answer g E now r.counts).rows; change = c; used_up = (tick_answer g E now r.counts).used_up }))
          (same_change (changes E) (tick_answer g E now r.counts).adopted)
          ∙ ap (λ (x : WhoData). reply.Ticked x (record {
            closed = length (tick_answer g E now r.counts).rows;
            change = cond (nat_lt 0 (length (tick_answer g E now r.counts).adopted)) (Some (changes E + 1)) None;
            used_up = (tick_answer g E now r.counts).used_up;
          })) (sym (name_back w));
    }

-- ---- publishes

same_frames : (W : World) (H : List Happened) (v : Who) (row : Option RowView) → frames_with (output_of W v) row ≡ sent_at W H (Publishes v row)
same_frames W H v None = refl
same_frames W H v (Some row) = refl

same_listed : (W : World) (H : List Happened) (v : Who) (row : Option RowView) → listed_with v (length (sent W H)) row ≡ listed_at W H (Publishes v row)
same_listed W H v None = refl
same_listed W H v (Some row) = refl

pub published_made : (W : World) (H : List Happened) (w : WhoData) (old new : Seat) (l m : LedgerView) (row : Option RowView) (out : Option Published)
    → IsPart W H (who_of w) old l
    → ((g : Given) (E : List Entry) → old.stands g E → row ≡ pop_answer E)
    → ((g : Given) (E : List Entry) → old.stands g E → new.mark ≡ reserved old.lead (pop_answer E) old.mark)
    → ((g : Given) (E : List Entry) → old.stands g E → new.stands g (Pop (pop_answer E) ∷ E))
    → m.table ≡ l.table → ((g : Given) (E : List Entry) → old.stands g E → m.frames ≡ l.frames ++ frames_with g.output row)
    → m.published ≡ l.published ++ listed_with (who_of w) (length l.frames) row → out ≡ option_map (published_as (who_of w) (length l.frames)) row
    → IsAct W H (who_of w) (asked.Do (who_of w) event.Publish) new m (reply.Published w out)
published_made W H w old new l m row out part gives marks stands table frames published listing =
    let v : Who = who_of w in
    let g : Given = given_in W H v in
    let E : List Entry = life_of H v in
    let gave : row ≡ pop_answer E = gives g E part.come.stands in
    let same : new.mark ≡ reserved (lead_of W v) (pop_answer E) (mark_of W H v) =
    marks g E part.come.stands ∙ ap (λ (n : ℕ). reserved n (pop_answer E) old.mark) part.one.lead ∙ ap (reserved (lead_of W v) (pop_answer E)) part.come.mark in
    record {
      happened = Publishes v (pop_answer E);
      step = record { event = event.Do v event.Publish; read = refl; may = tt; made = refl };
      own = is_itself v;
      come = come_publishes W H v (pop_answer E) new (stands g E part.come.stands) same;
      keeps =
          more_kept W H (Publishes v (pop_answer E)) l m part.keeps table
          (frames g E part.come.stands ∙ ap (λ (r : Option RowView). l.frames ++ frames_with (output_of W v) r) gave ∙ ap (λ (xs : List (List ℕ)). l.frames ++ xs) (same_frames W H v (pop_answer E)))
          (published ∙ ap (λ (n : ℕ). l.published ++ listed_with v n row) (ap length part.keeps.frames)
          ∙ ap (λ (r : Option RowView). l.published ++ listed_with v (length (sent W H)) r) gave
          ∙ ap (λ (xs : List Published). l.published ++ xs) (same_listed W H v (pop_answer E)));
      told =
          ap (reply.Published w) (listing ∙ ap (λ (n : ℕ). option_map (published_as v n) row) (ap length part.keeps.frames)
          ∙ ap (λ (r : Option RowView). option_map (published_as v (length (sent W H))) r) gave)
          ∙ ap (λ (x : WhoData). reply.Published x (option_map (published_as v (length (sent W H))) (pop_answer E))) (sym (name_back w));
    }

-- ---- stops

pub ended_made : (W : World) (H : List Happened) (w : WhoData) (at : StopAt) (old new : Seat) (l : LedgerView) (said : Reply) {S : Type 0} (stored : S → Stored)
    (StopsAs : Stop → S → S → Type 0) (before after : S) → IsPart W H (who_of w) old l → old.mark ≡ stored before → new.mark ≡ stored after
    → HasStopped stored StopsAs old.stands at old.lead before after → new.mark.start < 2 ^ 32 → new.stands (given_of old.kind new.mark.start new.mark.floor new.mark.counts 0) []
    → said ≡ reply.Stopped w new.mark.start new.mark.floor → IsAct W H (who_of w) (asked_to_stop (who_of w) at) new l said
ended_made W H w at old new l said stored StopsAs before after part was is stopped fits stands tells =
    let v : Who = who_of w in
    let waits = stopped.waits (given_in W H v) (life_of H v) part.come.stands in
    let same : new.mark ≡ begun_by W H v at =
    is ∙ stopped.mark ∙ (λ i. with_next_start (left_by at (part.one.lead i) (waits.0 i) (waits.1 i) ((sym was ∙ part.come.mark) i))) in
    record {
      happened = Ends v (begun_by W H v at);
      step = stop_step W H v at (subst (λ (s : Stored). s.start < 2 ^ 32) same fits);
      own = is_itself v;
      come =
          come_ends W H v (begun_by W H v at) new
          (subst (λ (s : Stored). new.stands (given_by W v s) []) same (subst (λ (kind : CoreKind). new.stands (given_of kind new.mark.start new.mark.floor new.mark.counts 0) []) part.one.kind stands)) same;
      keeps = quiet W H (Ends v (begun_by W H v at)) l part.keeps refl refl;
      told =
          tells ∙ ap (λ (s : Stored). reply.Stopped w s.start s.floor) same
          ∙ ap (λ (x : WhoData). reply.Stopped x (begun_by W H v at).start (begun_by W H v at).floor) (sym (name_back w));
    }

-- ---- sends

pub sent_made : (W : World) (H : List Happened) (v : Who) (what : Asked) (bytes : List ℕ) (seat : Seat) (l m : LedgerView) (result : Result Reply Fault)
    → what ≡ asked.Send bytes → IsPart W H v seat l → IfOk result (λ (reply : Reply). IsSend W H bytes m reply)
    → IfOk result (λ (reply : Reply). IsAct W H v what seat m reply)
sent_made W H v what bytes seat l m (Err fault) is part sends = tt
sent_made W H v what bytes seat l m (Ok reply) is part sends = record {
  happened = Sends bytes;
  step = subst (λ (a : Asked). IsStepOf W H a (Sends bytes)) (sym is) sends.step;
  own = refl;
  come = record { stands = part.come.stands; mark = part.come.mark };
  keeps = sends.keeps;
  told = sends.told;
}
