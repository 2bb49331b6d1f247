-- What each kind of thing that happened was made from.
use Rattle.std.proofs.Common.{◌∙◌, ◌≡◌, Bool, cond, false, List, None, Option, refl, Some, subst, sym, true, ℕ}
use Rattle.pdc_history.specs.Event.{Send}
use Rattle.pdc_history.proofs.Names.{Answer, answered, Arrival, Arrive, Bring, Comes, Do, Entry, entry_at, Event, given_in, Happened, happens, is_same, IsMade, kind_of, life_of, MayCome, MayHappen, MaySend, none-some, Pop, pop_answer, Publish, Publishes, raised, RowView, rules_of, same_Some, Sends, Stop, Tick, TickAnswer, TickAt, Ticks, ToTick, Who, World}
use Rattle.pdc_history.proofs.Moments.{same_who}

-- ---- a send

sends_of : (W : World) (H : List Happened) (bytes : List ℕ) (event : Event) → MayHappen W H event → Sends bytes ≡ happens W H event → MaySend W H bytes
sends_of W H bytes (Send other) may q = let same : other ≡ bytes = cc in subst (MaySend W H) same may
sends_of W H bytes (Do v Stop) may q = cc
sends_of W H bytes event may q = cc

pub sends_is : (W : World) (H : List Happened) (bytes : List ℕ) → IsMade W H (Sends bytes) → MaySend W H bytes
sends_is W H bytes made = sends_of W H bytes made.event made.may made.made

-- ---- what came

pub record HasCome (W : World) (H : List Happened) (who : Who) (e : Entry) : Type 0 where
  pub stream : ℕ
  pub bytes : List ℕ
  pub arrival : Arrival
  pub may : MayCome W H who stream bytes arrival
  pub is : e ≡ Arrive stream bytes arrival (rules_of (kind_of W who) (given_in W H who) (life_of H who) stream arrival)

comes_here : (W : World) (H : List Happened) (who v : Who) (e : Entry) (s : ℕ) (bytes : List ℕ) (arrival : Arrival) → MayCome W H v s bytes arrival → v ≡ who
    → e ≡ Arrive s bytes arrival (rules_of (kind_of W v) (given_in W H v) (life_of H v) s arrival) → HasCome W H who e
comes_here W H who v e s bytes arrival may same q = record {
  stream = s;
  bytes = bytes;
  arrival = arrival;
  may = subst (λ (w : Who). MayCome W H w s bytes arrival) same may;
  is = subst (λ (w : Who). e ≡ Arrive s bytes arrival (rules_of (kind_of W w) (given_in W H w) (life_of H w) s arrival)) same q;
}

comes_of : (W : World) (H : List Happened) (who : Who) (e : Entry) (event : Event) → MayHappen W H event → Comes who e ≡ happens W H event → HasCome W H who e
comes_of W H who e (Bring v s bytes arrival) may q =
    let same : v ≡ who = cc in
    let is : e ≡ Arrive s bytes arrival (rules_of (kind_of W v) (given_in W H v) (life_of H v) s arrival) = cc in
    comes_here W H who v e s bytes arrival may same is
comes_of W H who e (Do v Stop) may q = cc
comes_of W H who e event may q = cc

pub comes_is : (W : World) (H : List Happened) (who : Who) (e : Entry) → IsMade W H (Comes who e) → HasCome W H who e
comes_is W H who e made = comes_of W H who e made.event made.may made.made

-- ---- a tick

abbrev pub tick_at : World → List Happened → Who → ℕ → Entry
tick_at W H who now = answered (rules_of (kind_of W who)) (given_in W H who) (life_of H who) (ToTick now (raised W H who).counts)

pub record HasTicked (W : World) (H : List Happened) (who : Who) (e : Entry) : Type 0 where
  pub now : ℕ
  pub is : e ≡ tick_at W H who now

ticks_of : (W : World) (H : List Happened) (who : Who) (e : Entry) (event : Event) → Ticks who e ≡ happens W H event → HasTicked W H who e
ticks_of W H who e (Do v (TickAt now)) q =
    let same : v ≡ who = cc in
    let is : e ≡ tick_at W H v now = cc in
    record { now = now; is = subst (λ (w : Who). e ≡ tick_at W H w now) same is }
ticks_of W H who e event q = cc

pub ticks_is : (W : World) (H : List Happened) (who : Who) (e : Entry) → IsMade W H (Ticks who e) → HasTicked W H who e
ticks_is W H who e made = ticks_of W H who e made.event made.made

-- ---- a publish

publishes_of : (W : World) (H : List Happened) (who : Who) (row : Option RowView) (event : Event) → Publishes who row ≡ happens W H event → row ≡ pop_answer (life_of H who)
publishes_of W H who row (Do v Publish) q =
    let same : v ≡ who = cc in
    let is : row ≡ pop_answer (life_of H v) = cc in
    subst (λ (w : Who). row ≡ pop_answer (life_of H w)) same is
publishes_of W H who row event q = cc

pub publishes_is : (W : World) (H : List Happened) (who : Who) (row : Option RowView) → IsMade W H (Publishes who row) → row ≡ pop_answer (life_of H who)
publishes_is W H who row made = publishes_of W H who row made.event made.made

-- ---- an entry that is an arrival came, and one that is a tick ticked

pub cond_none : {A : Type 0} (b : Bool) (x y : A) → cond b (Some x) None ≡ Some y → (b ≡ true) × (x ≡ y)
cond_none true x y q = (refl, same_Some x y q)
cond_none false x y q = absurd (none-some y q)

pub record ComesHere (W : World) (H : List Happened) (h : Happened) (who : Who) (e : Entry) : Type 0 where
  pub is : h ≡ Comes who e
  pub come : HasCome W H who e

pub arrival_comes : (W : World) (H : List Happened) (h : Happened) (who : Who) (s : ℕ) (bytes : List ℕ) (arrival : Arrival) (answer : Answer) → IsMade W H h
    → entry_at who h ≡ Some (Arrive s bytes arrival answer) → ComesHere W H h who (Arrive s bytes arrival answer)
arrival_comes W H (Comes v x) who s bytes arrival answer made q =
    let r = cond_none (is_same v who) x (Arrive s bytes arrival answer) q in
    let same : v ≡ who = same_who v who r.0 in
    let is : Comes v x ≡ Comes who (Arrive s bytes arrival answer) = λ i. Comes (same i) (r.1 i) in
    record { is = is; come = comes_is W H who (Arrive s bytes arrival answer) (subst (IsMade W H) is made) }
arrival_comes W H (Ticks v x) who s bytes arrival answer made q =
    let r = cond_none (is_same v who) x (Arrive s bytes arrival answer) q in
    let t = ticks_is W H v x made in
    let e : Arrive s bytes arrival answer ≡ tick_at W H v t.now = sym r.1 ∙ t.is in
    cc
arrival_comes W H (Publishes v row) who s bytes arrival answer made q = let r = cond_none (is_same v who) (Pop row) (Arrive s bytes arrival answer) q in let e : Pop row ≡ Arrive s bytes arrival answer = r.1 in cc
arrival_comes W H h who s bytes arrival answer made q = absurd (none-some (Arrive s bytes arrival answer) q)

pub tick_ticks : (W : World) (H : List Happened) (h : Happened) (who : Who) (now : ℕ) (counts : List ℕ) (answer : TickAnswer) → IsMade W H h
    → entry_at who h ≡ Some (Tick now counts answer) → h ≡ Ticks who (Tick now counts answer)
tick_ticks W H (Ticks v x) who now counts answer made q =
    let r = cond_none (is_same v who) x (Tick now counts answer) q in
    λ i. Ticks (same_who v who r.0 i) (r.1 i)
tick_ticks W H (Comes v x) who now counts answer made q =
    let r = cond_none (is_same v who) x (Tick now counts answer) q in
    let t = comes_is W H v x made in
    let e : Tick now counts answer ≡ Arrive t.stream t.bytes t.arrival (rules_of (kind_of W v) (given_in W H v) (life_of H v) t.stream t.arrival) = sym r.1 ∙ t.is in
    cc
tick_ticks W H (Publishes v row) who now counts answer made q = let r = cond_none (is_same v who) (Pop row) (Tick now counts answer) q in let e : Pop row ≡ Tick now counts answer = r.1 in cc
tick_ticks W H h who now counts answer made q = absurd (none-some (Tick now counts answer) q)
