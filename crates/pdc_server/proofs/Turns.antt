-- How a turn ends, from what its steps ensure.
use Rattle.std.proofs.Common.{◌≡◌, ◌≤◌, ℕ, List, [], ◌∷◌, Option, length, take, refl, sym, subst, inl, inr, arith, length-take}
use Rattle.pdc_frame.specs.Stream.{Held}
use Rattle.pdc_session.specs.Session.{AreFew, HasAnswered}
use Rattle.pdc_session.specs.declared.subscription.Subscription.{Subscription}
use Rattle.pdc_session.specs.declared.serving.Serving.{Serving}
use Rattle.pdc_server.specs.declared.limits.TheConstants.{MOST_HEARD, PIECE_LEN}
use Rattle.std.specs.Prelude.{Result, Ok, Err, IfErr, IsErrAnd, OnErr, OnOk, Some, None, true}
use Rattle.pdc_session.specs.Session.{SessionView}
use Rattle.pdc_server.specs.Turn.{Dated, HasEnded, HasHeard, HasMade, HasWritten, IsMade, IsUnheard, IsUnwritten, Standing}
use Rattle.pdc_server.specs.declared.ended.Ended.{Ended}
use Rattle.pdc_server.specs.declared.stamp.Stamp.{Stamp}
use Rattle.pdc_server.specs.declared.ended.Ended.TheVariants.{EndOfStream, Session, Device, NoMemory, Closed}

few_frames : (frames : List (List ℕ)) (bytes pending : ℕ) → AreFew frames bytes pending → bytes ≤ PIECE_LEN → length frames ≤ MOST_HEARD
few_frames [] bytes pending few le = omega arith
few_frames (f ∷ fs) bytes pending few le = omega (arith, few)

-- what ends in a piece of a turn are few frames
pub few_heard : {id : ℕ} {serving : Serving} {piece : List ℕ} {held : Held} {told : Subscription} {out : List ℕ} {later : Held} {after : Subscription} {grown : List ℕ} (h : HasAnswered id serving piece held told out later after grown)
    → length piece ≤ PIECE_LEN → length h.frames ≤ MOST_HEARD
few_heard {piece = piece} h le = few_frames h.frames (length piece) _ h.hears.few le

-- the first bytes of a piece of a turn
pub few_bytes : (n m : ℕ) (bytes : List ℕ) → n ≤ m → m ≡ PIECE_LEN → length (take n bytes) ≤ PIECE_LEN
few_bytes n m bytes le same = omega (arith, length-take n bytes)

pub where_ok : {A E P Q : Type 0} (answer : Result A E) → (P → Q) → OnOk answer P → OnOk answer Q
where_ok (Ok a) f p = f p
where_ok (Err e) f p = tt

pub where_err : {A E : Type 0} {P Q : E → Type 0} (answer : Result A E) → ((e : E) → P e → Q e) → IfErr answer P → IfErr answer Q
where_err (Ok a) f p = tt
where_err (Err e) f p = f e p

-- what holds of each error that the answer is
pub of_each : {A E : Type 0} (P : E → Type 0) (answer : Result A E) → OnErr answer ((e : E) → answer ≡ Err e → P e) → IfErr answer P
of_each P (Ok a) h = tt
of_each P (Err e) h = h e refl

pub of_err : {A E : Type 0} (P : E → Type 0) (answer : Result A E) (e : E) → IsErrAnd answer (λ x. x ≡ e) → P e → IfErr answer P
of_err P (Ok a) e is p = tt
of_err P (Err x) e is p = subst P (sym is) p

-- A piece that is not answered to its end is what is to be written.
made : (ended : Ended) (dated : Dated) (id : ℕ) (piece : List ℕ) (before later : Standing) (bytes : List ℕ) → later.place ≡ before.place
    → IsUnheard ended dated id piece before.session later.session [] bytes → IsMade (Some ended) dated id piece before later bytes
made EndOfStream dated id piece before later bytes got unheard = (got, unheard)
made (Session fault) dated id piece before later bytes got unheard = (got, unheard)
made Device dated id piece before later bytes got unheard = (got, unheard)
made NoMemory dated id piece before later bytes got unheard = (got, inl unheard)
made Closed dated id piece before later bytes got unheard = (got, unheard)

pub unheard_made : (ended : Ended) (dated : Dated) (id : ℕ) (items held : List ℕ) (n : ℕ) (before later : Standing) (out bytes : List ℕ) → held ≡ items → out ≡ []
    → later.place ≡ before.place → IsUnheard ended dated id (take n held) before.session later.session out bytes → IsMade (Some ended) dated id (take n items) before later bytes
unheard_made ended dated id items held n before later out bytes is none got unheard =
    made ended dated id (take n items) before later bytes got
    (subst (λ (xs : List ℕ). IsUnheard ended dated id (take n xs) before.session later.session [] bytes) is
    (subst (λ (xs : List ℕ). IsUnheard ended dated id (take n held) before.session later.session xs bytes) none unheard))

pub heard_alone : (dated : Dated) (stamp : Option Stamp) (id : ℕ) (items held : List ℕ) (n : ℕ) (session later : SessionView) (out replies : List ℕ) → held ≡ items → out ≡ []
    → HasHeard dated stamp id (take n held) session later out replies → HasHeard dated stamp id (take n items) session later [] replies
heard_alone dated stamp id items held n session later out replies is none heard =
    subst (λ (xs : List ℕ). HasHeard dated stamp id (take n xs) session later [] replies) is
    (subst (λ (xs : List ℕ). HasHeard dated stamp id (take n held) session later xs replies) none heard)

pub lacking_made : (ended : Ended) (dated : Dated) (stamp : Option Stamp) (id : ℕ) (piece : List ℕ) (before later : Standing) (replies bytes : List ℕ) → ended ≡ NoMemory → later.session.told.on ≡ true
    → later.place ≡ before.place → bytes ≡ replies → HasHeard dated stamp id piece before.session later.session [] replies → IsMade (Some ended) dated id piece before later bytes
lacking_made ended dated stamp id piece before later replies bytes is on got same heard =
    subst (λ (e : Ended). IsMade (Some e) dated id piece before later bytes) (sym is)
    (got, inr ((stamp, subst (λ (xs : List ℕ). HasHeard dated stamp id piece before.session later.session [] xs) (sym same) heard), on))

-- Whatever it is, something is to be written.
pub some_made : {U : Type 0} (answer : Result U Ended) (dated : Dated) (id : ℕ) (piece : List ℕ) (before later : Standing) (bytes : List ℕ) → OnOk answer (IsMade None dated id piece before later bytes)
    → IfErr answer (λ ended. IsMade (Some ended) dated id piece before later bytes) → (ended : Option Ended) × IsMade ended dated id piece before later bytes
some_made (Ok u) dated id piece before later bytes ok err = (None, ok)
some_made (Err e) dated id piece before later bytes ok err = (Some e, err)

pub ended_unwritten : {S : Type 0} (remaining contents : S → Option (List ℕ)) (dated : Dated) (id : ℕ) (before later : Standing) (line now : S) (why : Ended) (ended : Option Ended)
    (m : HasMade remaining ended dated id before later line) → IsUnwritten why (contents m.read) (contents now) m.made → HasEnded remaining contents dated id before later line now why
ended_unwritten remaining contents dated id before later line now EndOfStream ended m why = absurd why
ended_unwritten remaining contents dated id before later line now (Session fault) ended m why = absurd why
ended_unwritten remaining contents dated id before later line now Device ended m why = inr (ended, m)
ended_unwritten remaining contents dated id before later line now NoMemory ended m why = absurd why
ended_unwritten remaining contents dated id before later line now Closed ended m why = (ended, m, why.0, why.1, why.2)

pub ended_written : {S : Type 0} (remaining contents : S → Option (List ℕ)) (dated : Dated) (id : ℕ) (before later : Standing) (line now : S) (ended : Ended)
    → HasWritten remaining contents (Some ended) dated id before later line now → HasEnded remaining contents dated id before later line now ended
ended_written remaining contents dated id before later line now EndOfStream h = absurd h.0.is_made.1
ended_written remaining contents dated id before later line now (Session fault) h = h
ended_written remaining contents dated id before later line now Device h = absurd h.0.is_made.1
ended_written remaining contents dated id before later line now NoMemory h = h
ended_written remaining contents dated id before later line now Closed h = absurd h.0.is_made.1
