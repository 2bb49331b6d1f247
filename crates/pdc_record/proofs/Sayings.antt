-- What the body of an entry says is told by its kind and its bytes.
use Rattle.std.proofs.Common.{◌≡◌, ℕ, ◌+◌, ◌^◌, ◌<◌, ◌≤◌, Bool, true, false, Option, Some, None, List, [], ◌∷◌, ◌++◌, length, refl, sym, ap, ◌∙◌, append_assoc, arith, length-append}
use Rattle.std.specs.Int.{w32, w64, to_be_bytes}
use Rattle.pdc_life.specs.declared.outcome.Outcome.{Outcome}
use Rattle.pdc_life.specs.declared.outcome.Outcome.TheVariants.{Taken, Candidate, Known, Refused}
use Rattle.pdc_life.specs.pdc_row.declared.limits.TheConstants.{MAX_PMUS}
use Rattle.pdc_life.specs.Causes.{number_of}
use Rattle.pdc_life.specs.declared.outcome.TheConstants.{CAUSES}
use Rattle.pdc_life.proofs.Causes.{told_apart, within}
use Rattle.pdc_record.specs.Answers.{answer_number}
use Rattle.pdc_record.specs.Told.{Tick, Told, Began, Arrived, Unanswered, Ticked, FoundNone, Popped, Laid, Missing, NoFrame}
use Rattle.pdc_record.specs.Bodies.{AreWords, FitsTick, FitsWidths, IsTold, body_of, change_number, flags_of, kind_number, outcome_of, rest_of, words_of}
use Rattle.pdc_record.proofs.Numbers.{same_word, same_long, same_wide, same_byte, same_words, length-words_of}
use Rattle.pdc_record.proofs.Beginnings.{same_start, length-began}

pub answer_below : (o : Outcome) → answer_number o < 3 + CAUSES
answer_below Taken = omega arith
answer_below Candidate = omega arith
answer_below Known = omega arith
answer_below (Refused r) = omega (arith, within r)

-- an answer is known by its number
answer_known : (a b : Outcome) → answer_number a ≡ answer_number b → a ≡ b
answer_known (Refused r) (Refused s) e =
    let number : number_of r ≡ number_of s = omega (arith, e) in
    ap Refused (told_apart r s number)
answer_known Taken Taken e = refl
answer_known Candidate Candidate e = refl
answer_known Known Known e = refl
answer_known a b e = absurd (omega (arith, e))

-- and so is a tick's change
change_known : (c d : Option ℕ) (a b : Bool) → flags_of c a ≡ flags_of d b → change_number c ≡ change_number d → (c ≡ d) × (a ≡ b)
change_known None None false false e n = (refl, refl)
change_known None None true true e n = (refl, refl)
change_known (Some x) (Some y) false false e n = (ap Some n, refl)
change_known (Some x) (Some y) true true e n = (ap Some n, refl)
change_known None None false true e n = absurd (omega (arith, e))
change_known None None true false e n = absurd (omega (arith, e))
change_known (Some x) (Some y) false true e n = absurd (omega (arith, e))
change_known (Some x) (Some y) true false e n = absurd (omega (arith, e))
change_known None (Some y) false false e n = absurd (omega (arith, e))
change_known None (Some y) false true e n = absurd (omega (arith, e))
change_known None (Some y) true false e n = absurd (omega (arith, e))
change_known None (Some y) true true e n = absurd (omega (arith, e))
change_known (Some x) None false false e n = absurd (omega (arith, e))
change_known (Some x) None false true e n = absurd (omega (arith, e))
change_known (Some x) None true false e n = absurd (omega (arith, e))
change_known (Some x) None true true e n = absurd (omega (arith, e))

-- the fields of a tick one behind another
spelled : ℕ → List ℕ → ℕ → ℕ → ℕ → List ℕ → List ℕ
spelled now counts closed flags change rest = to_be_bytes w64 now ++ (words_of counts ++ (to_be_bytes w32 closed ++ (flags ∷ (to_be_bytes w32 change ++ rest))))

chain : (t : Tick) → body_of (Ticked t) ≡ spelled t.now t.counts t.closed (flags_of t.change t.used_up) (change_number t.change) []
unfolding spelled
chain t = ap (λ (xs : List ℕ). to_be_bytes w64 t.now ++ xs) (append_assoc (words_of t.counts) (outcome_of t) [])

same_tick : (t u : Tick) → FitsTick t → FitsTick u → body_of (Ticked t) ≡ body_of (Ticked u) → t ≡ u
unfolding spelled
same_tick t u h k e =
    let now = same_wide t.now u.now _ _ h.now k.now (sym (chain t) ∙ e ∙ chain u) in
    let counts = same_words MAX_PMUS t.counts u.counts _ _ h.counts k.counts now.1 in
    let closed = same_long t.closed u.closed _ _ h.closed k.closed counts.1 in
    let flags = same_byte (flags_of t.change t.used_up) (flags_of u.change u.used_up) _ _ closed.1 in
    let change = same_long (change_number t.change) (change_number u.change) [] [] h.change k.change flags.1 in
    let known = change_known t.change u.change t.used_up u.used_up flags.0 change.0 in
    let whole : ◌≡◌ {A = Tick} (record { now = t.now; counts = t.counts; closed = t.closed; change = t.change; used_up = t.used_up }) u = rw (now.0, counts.0, closed.0, known.0, known.1) refl in
    whole

same_popped : (i j : ℕ) (f g : Option (List ℕ)) → i < 2 ^ 64 → j < 2 ^ 64 → body_of (Popped i f) ≡ body_of (Popped j g) → Popped i f ≡ Popped j g
same_popped i j None None h k e = ap (λ (n : ℕ). Popped n None) (same_wide i j (0 ∷ []) (0 ∷ []) h k e).0
same_popped i j (Some x) (Some y) h k e =
    let instant = same_wide i j (1 ∷ x) (1 ∷ y) h k e in
    ap (λ (n : ℕ). Popped n (Some x)) instant.0 ∙ ap (λ (xs : List ℕ). Popped j (Some xs)) (same_byte 1 1 x y instant.1).1
same_popped i j None (Some y) h k e = absurd (omega (arith, (same_byte 0 1 [] y (same_wide i j (0 ∷ []) (1 ∷ y) h k e).1).0))
same_popped i j (Some x) None h k e = absurd (omega (arith, (same_byte 1 0 x [] (same_wide i j (1 ∷ x) (0 ∷ []) h k e).1).0))

-- one kind and one body, one saying
pub same_told : (t u : Told) → FitsWidths t → FitsWidths u → kind_number t ≡ kind_number u → body_of t ≡ body_of u → t ≡ u
same_told (Began s) (Began t) h k n e = ap Began (same_start s t h k e)
same_told (Arrived a o d) (Arrived b p f) h k n e =
    let stream = same_word a b (answer_number o ∷ d) (answer_number p ∷ f) h k e in
    let answer = same_byte (answer_number o) (answer_number p) d f stream.1 in
    ap (λ (n : ℕ). Arrived n o d) stream.0 ∙ ap (λ (x : Outcome). Arrived b x d) (answer_known o p answer.0) ∙ ap (λ (xs : List ℕ). Arrived b p xs) answer.1
same_told (Unanswered a d) (Unanswered b f) h k n e =
    let stream = same_word a b d f h k e in
    ap (λ (n : ℕ). Unanswered n d) stream.0 ∙ ap (λ (xs : List ℕ). Unanswered b xs) stream.1
same_told (Ticked t) (Ticked u) h k n e = ap Ticked (same_tick t u h k e)
same_told FoundNone FoundNone h k n e = refl
same_told (Popped i f) (Popped j g) h k n e = same_popped i j f g h k e
same_told (Laid d) (Laid f) h k n e = ap Laid e
same_told (Missing a) (Missing b) h k n e = ap Missing (same_wide a b [] [] h k e).0
same_told (NoFrame a o m d) (NoFrame b p l f) h k n e =
    let stream = same_word a b (answer_number o ∷ (to_be_bytes w32 m ++ d)) (answer_number p ∷ (to_be_bytes w32 l ++ f)) h.0 k.0 e in
    let answer = same_byte (answer_number o) (answer_number p) (to_be_bytes w32 m ++ d) (to_be_bytes w32 l ++ f) stream.1 in
    let len = same_long m l d f h.1 k.1 answer.1 in
    ap (λ (n : ℕ). NoFrame n o m d) stream.0 ∙ ap (λ (x : Outcome). NoFrame b x m d) (answer_known o p answer.0) ∙ ap (λ (n : ℕ). NoFrame b p n d) len.0 ∙ ap (λ (xs : List ℕ). NoFrame b p l xs) len.1
same_told t u h k n e = absurd (omega (arith, n))

pub one_told : (kind : ℕ) (body : List ℕ) (t u : Told) → IsTold kind body t → IsTold kind body u → t ≡ u
one_told kind body t u h k = same_told t u h.fits k.fits (h.kind_is ∙ sym k.kind_is) (sym h.spelled ∙ k.spelled)

length-ticked : (t : Tick) → FitsTick t → length (body_of (Ticked t)) ≡ 49
unfolding spelled
length-ticked t h =
    let counts : length (words_of t.counts) ≡ 32 = omega (arith, length-words_of t.counts, h.counts.size) in
    omega (arith, ap length (chain t), length-append (words_of t.counts) (to_be_bytes w32 t.closed ++ (flags_of t.change t.used_up ∷ (to_be_bytes w32 (change_number t.change) ++ []))), counts)

-- a body is longer than its rest by so much at most
pub length-body : (t : Told) → FitsWidths t → length (body_of t) ≤ 65 + length (rest_of t)
length-body (Began s) h = omega (arith, length-began s h)
length-body (Arrived a o d) h = omega arith
length-body (Unanswered a d) h = omega arith
length-body (Ticked t) h = omega (arith, length-ticked t h)
length-body FoundNone h = omega arith
length-body (Popped i None) h = omega arith
length-body (Popped i (Some x)) h = omega arith
length-body (Laid d) h = omega arith
length-body (Missing a) h = omega arith
length-body (NoFrame a o m d) h = omega arith

-- a body of another length is that of no tick
no_ticked : (body : List ℕ) → ((t : Tick) → FitsTick t → body ≡ body_of (Ticked t) → ⊥) → (t : Told) → IsTold 3 body t → ⊥
no_ticked body h (Ticked t) told = h t told.fits told.spelled
no_ticked body h t told = absurd (omega (arith, told.kind_is))

pub ticked_sized : (body : List ℕ) → (length body ≡ 49 → ⊥) → (t : Told) → IsTold 3 body t → ⊥
ticked_sized body other = no_ticked body (λ t fits e. other (ap length e ∙ length-ticked t fits))

-- and neither is one whose FLAGS and CHANGE say nothing
pub ticked_other : (body b1 b2 b3 b4 b5 : List ℕ) (now closed flags change : ℕ) (counts : List ℕ) → now < 2 ^ 64 → closed < 2 ^ 32 → change < 2 ^ 32 → AreWords MAX_PMUS counts
    → ((number : Option ℕ) (used_up : Bool) → flags ≡ flags_of number used_up → change ≡ change_number number → ⊥)
    → body ≡ to_be_bytes w64 now ++ b1 → b1 ≡ words_of counts ++ b2 → b2 ≡ to_be_bytes w32 closed ++ b3 → b3 ≡ flags ∷ b4 → b4 ≡ to_be_bytes w32 change ++ b5 → (t : Told) → IsTold 3 body t → ⊥
unfolding spelled
ticked_other body b1 b2 b3 b4 b5 now closed flags change counts now_fits closed_fits change_fits counts_fit none e1 e2 e3 e4 e5 = no_ticked body (λ t h e.
    let first = same_wide now t.now b1 _ now_fits h.now (sym e1 ∙ e ∙ chain t) in
    let second = same_words MAX_PMUS counts t.counts b2 _ counts_fit h.counts (sym e2 ∙ first.1) in
    let third = same_long closed t.closed b3 _ closed_fits h.closed (sym e3 ∙ second.1) in
    let fourth = same_byte flags (flags_of t.change t.used_up) b4 _ (sym e4 ∙ third.1) in
    let fifth = same_long change (change_number t.change) b5 [] change_fits h.change (sym e5 ∙ fourth.1) in
    none t.change t.used_up fourth.0 fifth.0)
