-- How long it is until the first deadline above a moment.
use Rattle.std.proofs.Common.{◌≡◌, sym, subst, ap, ◌∙◌, ℕ, ◌+◌, ◌-◌, ◌*◌, ◌/◌, ◌%◌, ◌≤◌, ◌<◌, arith}
use Rattle.std.proofs.Math.Nat.{add-mul-div_right, div-mul-le_self, lt_of_mul-lt-mul_right, mul-le-mul_right}
use Rattle.std.proofs.lemmas.Nat.{div-add-mod', div-mul-add, le-div, mod_below}
use Rattle.pdc_ticking.specs.Deadlines.{IsNextDeadline, deadline_of}

-- a later number has no earlier deadline
not_earlier : (first span parts less more : ℕ) → 1 ≤ parts → less ≤ more → deadline_of first span parts less ≤ deadline_of first span parts more
not_earlier first span parts less more some le =
    let low = (less * span + (parts - 1)) / parts in
    let scaled : less * span ≤ more * span = mul-le-mul_right span le in
    let under : low * parts ≤ less * span + (parts - 1) = div-mul-le_self (less * span + (parts - 1)) parts in
    let quotient : low ≤ (more * span + (parts - 1)) / parts = le-div low (more * span + (parts - 1)) parts some (omega (arith, scaled, under)) in
    omega (arith, quotient)

pub before_first : (first span parts moment : ℕ) → 1 ≤ parts → moment < first → IsNextDeadline first span parts moment (moment + (first - moment))
before_first first span parts moment some lt =
    let same : 0 * span + (parts - 1) ≡ 0 * parts + (parts - 1) = omega arith in
    let none : (0 * span + (parts - 1)) / parts ≡ 0 = ap (λ (n : ℕ). n / parts) same ∙ div-mul-add 0 parts (parts - 1) (omega (arith, some)) in
    let is : moment + (first - moment) ≡ deadline_of first span parts 0 = omega (arith, none, lt) in
    record {
      number = 0;
      is = is;
      later = omega (arith, lt);
      least = λ n above. omega (arith, lt);
    }

pub behind_first : (first span parts moment : ℕ) → 1 ≤ span → 1 ≤ parts → first ≤ moment
    → IsNextDeadline first span parts moment (moment + (span - (moment - first) * parts % span + (parts - 1)) / parts)
behind_first first span parts moment wide some le =
    let gone = moment - first in
    let number = gone * parts / span in
    let over = gone * parts % span in
    let left = span - over + (parts - 1) in
    let whole : number * span + over ≡ gone * parts = div-add-mod' (gone * parts) span in
    let small : over < span = mod_below (gone * parts) span wide in
    let next : (number + 1) * span ≡ number * span + span = omega arith in
    let reached : (number + 1) * span + (parts - 1) ≡ left + gone * parts = omega (arith, whole, small, next) in
    let due : ((number + 1) * span + (parts - 1)) / parts ≡ left / parts + gone = ap (λ (n : ℕ). n / parts) reached ∙ add-mul-div_right left gone some in
    let at_least : 1 ≤ left / parts = le-div 1 left parts some (omega (arith, small)) in
    let is : moment + left / parts ≡ deadline_of first span parts (number + 1) = omega (arith, due, le) in
    let least : (n : ℕ) → moment < deadline_of first span parts n → moment + left / parts ≤ deadline_of first span parts n =
    λ n above.
    let due_n = (n * span + (parts - 1)) / parts in
    let more : gone + 1 ≤ due_n = omega (arith, above, le) in
    let scaled : (gone + 1) * parts ≤ due_n * parts = mul-le-mul_right parts more in
    let under : due_n * parts ≤ n * span + (parts - 1) = div-mul-le_self (n * span + (parts - 1)) parts in
    let one_more : (gone + 1) * parts ≡ gone * parts + parts = omega arith in
    let beyond : number * span < n * span = omega (arith, scaled, under, one_more, whole, some) in
    let below : number < n = lt_of_mul-lt-mul_right span beyond in
    let above_number : number + 1 ≤ n = omega (arith, below) in
    subst (λ (d : ℕ). d ≤ deadline_of first span parts n) (sym is) (not_earlier first span parts (number + 1) n some above_number) in
    record {
      number = number + 1;
      is = is;
      later = omega (arith, at_least);
      least = least;
    }

-- the same of numbers that are these
pub behind_first_by : (first span parts moment gone scale width size : ℕ) → gone ≡ moment - first → scale ≡ parts → width ≡ span → size ≡ parts → 1 ≤ span → 1 ≤ parts → first ≤ moment
    → IsNextDeadline first span parts moment (moment + (span - gone * scale % width + (size - 1)) / size)
behind_first_by first span parts moment gone scale width size is_gone is_scale is_width is_size wide some le =
    let bare = behind_first first span parts moment wide some le in
    subst (λ (n : ℕ). IsNextDeadline first span parts moment (moment + (span - gone * scale % width + (n - 1)) / n)) (sym is_size)
    (subst (λ (n : ℕ). IsNextDeadline first span parts moment (moment + (span - gone * scale % n + (parts - 1)) / parts)) (sym is_width)
    (subst (λ (n : ℕ). IsNextDeadline first span parts moment (moment + (span - gone * n % span + (parts - 1)) / parts)) (sym is_scale)
    (subst (λ (n : ℕ). IsNextDeadline first span parts moment (moment + (span - n * parts % span + (parts - 1)) / parts)) (sym is_gone) bare)))
