-- The second deadline above a moment.
use Rattle.std.proofs.Common.{◌≡◌, sym, subst, ℕ, ◌+◌, ◌-◌, ◌≤◌, ◌<◌, IsTrue, leb, arith}
use Rattle.std.proofs.lemmas.Bool.Decides.{nat_tests}
use Rattle.pdc_ticking.specs.Deadlines.{IsNextDeadline, deadline_of}
use Rattle.pdc_ticking.specs.Waiting.{IsEarly}

-- no deadline that is the next above a moment lies above another that is
not_above : (first span parts moment one other : ℕ) → IsNextDeadline first span parts moment one → IsNextDeadline first span parts moment other → one ≤ other
not_above first span parts moment one other is_one is_other =
    let later : moment < deadline_of first span parts is_other.number = subst (λ (d : ℕ). moment < d) is_other.is is_other.later in
    subst (λ (d : ℕ). one ≤ d) (sym is_other.is) (is_one.least is_other.number later)

-- what is no later than the second deadline is early
pub up_to_second : (first span parts moment given next after : ℕ) → IsNextDeadline first span parts moment next → IsNextDeadline first span parts next after
    → moment < given → given ≤ after → IsEarly first span parts moment given
up_to_second first span parts moment given next after is_next is_after above near = record {
  above = above;
  near = λ n a is_n is_a.
      let same : n ≡ next = omega (arith, not_above first span parts moment n next is_n is_next, not_above first span parts moment next n is_next is_n) in
      let is_a' : IsNextDeadline first span parts next a = subst (λ (m : ℕ). IsNextDeadline first span parts m a) same is_a in
      omega (arith, near, not_above first span parts next after a is_after is_a');
}

pub early_by_test : (first span parts moment given wait more : ℕ) → IsNextDeadline first span parts moment (moment + wait)
    → IsNextDeadline first span parts (moment + wait) (moment + wait + more) → moment < given → wait < given - moment
    → (IsTrue (leb (given - (moment + wait)) more) → IsEarly first span parts moment given)
    × (IsEarly first span parts moment given → IsTrue (leb (given - (moment + wait)) more))
early_by_test first span parts moment given wait more is_next is_after above beyond = (
  (λ test.
      let within : given - (moment + wait) ≤ more = grind (arith, nat_tests, test) in
      up_to_second first span parts moment given (moment + wait) (moment + wait + more) is_next is_after above (omega (arith, within, beyond))),
  (λ early.
      let within : given ≤ moment + wait + more = early.near (moment + wait) (moment + wait + more) is_next is_after in
      let gap : given - (moment + wait) ≤ more = omega (arith, within) in
      grind (arith, nat_tests, gap)),
)
