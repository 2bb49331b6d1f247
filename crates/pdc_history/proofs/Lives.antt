-- Lives are lives, and what is published are their rows.
use Rattle.std.proofs.Common.{[], ◌++◌, ◌∙◌, ◌∷◌, ◌≡◌, ap, Bool, cond, false, filter, List, map, None, Option, refl, Some, subst, sym, true, ℕ}
use Rattle.pdc_history.proofs.Names.{AllByRecursion, Arrival, Arrive, begins_at, begun_with, Comes, CoreKind, ended, Ends, Entry, filter-append, first_mark, Given, given_by, given_in, given_of, Happened, is_same, IsHistory, IsLifeOf, IsMade, IsRun, kind_of, life_of, LifeLaws, LivesAreLives, map-append, OfMerger, OfNode, opened_with, past_lives, PastLife, Pop, pop_answer, Publishes, raised, rows_of_one, RowView, rules_of, Says, since, Stored, Tick, tick_answer, Ticks, Who, with_entry, World}
use Rattle.pdc_history.proofs.{Lists.{appended}, Made.{comes_is, publishes_is, ticks_is}, Moments.{same_who}}

-- a new life, and one step more
none_yet : (kind : CoreKind) (mark : Stored) → IsLifeOf kind (given_of kind mark.start mark.floor mark.counts 0) []
none_yet (OfNode settings) mark = record { given = refl; life = tt }
none_yet (OfMerger settings) mark = record { given = refl; life = tt }

heard : (kind : CoreKind) (g : Given) (E : List Entry) (s : ℕ) (bytes : List ℕ) (arrival : Arrival) → Says kind s bytes arrival → IsLifeOf kind g E
    → IsLifeOf kind g (Arrive s bytes arrival (rules_of kind g E s arrival) ∷ E)
heard kind g E s bytes arrival says life = record { given = life.given; life = (says, refl, life.life) }

ticked : (kind : CoreKind) (g : Given) (E : List Entry) (now : ℕ) (counts : List ℕ) → IsLifeOf kind g E → IsLifeOf kind g (Tick now counts (tick_answer g E now counts) ∷ E)
ticked kind g E now counts life = record { given = life.given; life = (refl, life.life) }

popped_one : (kind : CoreKind) (g : Given) (E : List Entry) (row : Option RowView) → row ≡ pop_answer E → IsLifeOf kind g E → IsLifeOf kind g (Pop row ∷ E)
popped_one kind g E row q life = record { given = life.given; life = (q, life.life) }

-- the entry of one core leaves the lives of the others
entry_of : (kind : CoreKind) (g : Given) (E : List Entry) (b : Bool) (e : Entry) → (b ≡ true → IsLifeOf kind g (e ∷ E)) → IsLifeOf kind g E → IsLifeOf kind g (with_entry (cond b (Some e) None) E)
entry_of kind g E true e k life = k refl
entry_of kind g E false e k life = life

begin_of : (W : World) (H : List Happened) (who : Who) (b : Bool) (mark : Stored) → IsLifeOf (kind_of W who) (given_in W H who) (life_of H who)
    → IsLifeOf (kind_of W who) (given_by W who (begun_with (cond b (Some mark) None) (opened_with W H who))) (since (cond b (Some mark) None) (life_of H who))
begin_of W H who true mark life = none_yet (kind_of W who) mark
begin_of W H who false mark life = life

come_of : (W : World) (H : List Happened) (who v : Who) (e : Entry) → v ≡ who → IsMade W H (Comes v e) → IsLifeOf (kind_of W who) (given_in W H who) (life_of H who) → IsLifeOf (kind_of W who) (given_in W H who) (e ∷ life_of H who)
come_of W H who v e same made life =
    let come = comes_is W H who e (subst (λ (w : Who). IsMade W H (Comes w e)) same made) in
    subst (λ (x : Entry). IsLifeOf (kind_of W who) (given_in W H who) (x ∷ life_of H who)) (sym come.is)
    (heard (kind_of W who) (given_in W H who) (life_of H who) come.stream come.bytes come.arrival come.may.says life)

pub tick_of : (W : World) (H : List Happened) (who v : Who) (e : Entry) → v ≡ who → IsMade W H (Ticks v e) → IsLifeOf (kind_of W who) (given_in W H who) (life_of H who) → IsLifeOf (kind_of W who) (given_in W H who) (e ∷ life_of H who)
tick_of W H who v e same made life =
    let t = ticks_is W H who e (subst (λ (w : Who). IsMade W H (Ticks w e)) same made) in
    subst (λ (x : Entry). IsLifeOf (kind_of W who) (given_in W H who) (x ∷ life_of H who)) (sym t.is)
    (ticked (kind_of W who) (given_in W H who) (life_of H who) t.now (raised W H who).counts life)

publish_of : (W : World) (H : List Happened) (who v : Who) (row : Option RowView) → v ≡ who → IsMade W H (Publishes v row) → IsLifeOf (kind_of W who) (given_in W H who) (life_of H who) → IsLifeOf (kind_of W who) (given_in W H who) (Pop row ∷ life_of H who)
publish_of W H who v row same made life =
    popped_one (kind_of W who) (given_in W H who) (life_of H who) row (publishes_is W H who row (subst (λ (w : Who). IsMade W H (Publishes w row)) same made)) life

one_more : (W : World) (H : List Happened) (who : Who) (h : Happened) → IsMade W H h → IsLifeOf (kind_of W who) (given_in W H who) (life_of H who) → IsLifeOf (kind_of W who) (given_in W (h ∷ H) who) (life_of (h ∷ H) who)
one_more W H who (Comes v e) made life =
    entry_of (kind_of W who) (given_in W H who) (life_of H who) (is_same v who) e (λ same. come_of W H who v e (same_who v who same) made life) life
one_more W H who (Ticks v e) made life =
    entry_of (kind_of W who) (given_in W H who) (life_of H who) (is_same v who) e (λ same. tick_of W H who v e (same_who v who same) made life) life
one_more W H who (Publishes v row) made life =
    entry_of (kind_of W who) (given_in W H who) (life_of H who) (is_same v who) (Pop row) (λ same. publish_of W H who v row (same_who v who same) made life) life
one_more W H who (Ends v mark) made life = begin_of W H who (is_same v who) mark life
one_more W H who h made life = life

pub life_is_life : (W : World) (H : List Happened) (who : Who) → IsHistory W H → IsLifeOf (kind_of W who) (given_in W H who) (life_of H who)
life_is_life W [] who is = none_yet (kind_of W who) (first_mark W who)
life_is_life W (h ∷ H) who is = one_more W H who h is.0 (life_is_life W H who is.1)

-- those that ended
ended_is : (kind : CoreKind) (b : Option Stored) (past : PastLife) → IsLifeOf kind past.given past.life → AllByRecursion (λ (p : PastLife). IsLifeOf kind p.given p.life) (ended b past)
ended_is kind None past life = tt
ended_is kind (Some mark) past life = (life, tt)

past_are_lives : (W : World) (H : List Happened) (who : Who) → IsHistory W H → AllByRecursion (λ (p : PastLife). IsLifeOf (kind_of W who) p.given p.life) (past_lives W H who)
past_are_lives W [] who is = tt
past_are_lives W (h ∷ H) who is =
    appended (λ (p : PastLife). IsLifeOf (kind_of W who) p.given p.life)
    (ended (begins_at who h) (record { given = given_in W H who; life = life_of H who })) (past_lives W H who)
    (ended_is (kind_of W who) (begins_at who h) (record { given = given_in W H who; life = life_of H who }) (life_is_life W H who is.1)) (past_are_lives W H who is.1)

pub lives_are_lives : LivesAreLives
lives_are_lives W H who is = record { present = life_is_life W H who is; past = past_are_lives W H who is }

-- lives are runs
pub run_in : LifeLaws → (W : World) (H : List Happened) (who : Who) → IsHistory W H → IsRun (given_in W H who) (life_of H who)
run_in L W H who is = L.runs (kind_of W who) (given_in W H who) (life_of H who) (life_is_life W H who is)

-- a row that is published is popped in a run
pub popped_run : LifeLaws → (W : World) (H : List Happened) (who : Who) (row : RowView) → IsHistory W H → IsMade W H (Publishes who (Some row)) → IsRun (given_in W H who) (Pop (Some row) ∷ life_of H who)
popped_run L W H who row is made =
    L.runs (kind_of W who) (given_in W H who) (Pop (Some row) ∷ life_of H who)
    (popped_one (kind_of W who) (given_in W H who) (life_of H who) (Some row) (publishes_is W H who (Some row) made) (life_is_life W H who is))

-- ---- what is published

-- those of one core, of a row behind others
pub of_one_append : (who : Who) (rows more : List (Who × RowView)) → rows_of_one who (rows ++ more) ≡ rows_of_one who rows ++ rows_of_one who more
of_one_append who rows more =
    ap (map (λ (r : Who × RowView). r.1)) (filter-append (λ (r : Who × RowView). is_same r.0 who) rows more)
    ∙ map-append (λ (r : Who × RowView). r.1) (filter (λ (r : Who × RowView). is_same r.0 who) rows) (filter (λ (r : Who × RowView). is_same r.0 who) more)
