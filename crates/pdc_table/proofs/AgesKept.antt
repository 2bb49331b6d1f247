-- Ages that are kept as the counts of ticks at which they were 0.
use Rattle.std.proofs.Common.{◌≡◌, ℕ, ◌+◌, ◌-◌, ◌<◌, ◌≤◌, ◌^◌, List, [], ◌∷◌, length, get_or, set, map, refl, ap, ◌∙◌, append-nil, arith, inl, inr, zero, suc}
use Rattle.std.specs.List.{All, refill}
use Rattle.std.proofs.lemmas.Bool.{cases_eq}
use Rattle.std.proofs.lemmas.Grind.{get_or-set_at}
use Rattle.std.proofs.lemmas.List.{drop_all, get_or-set_other, length-map, length-set, take_all}
use Rattle.pdc_table.specs.AgesView.{ages_at, earlier}
use Rattle.pdc_table.specs.RingRows.{older}

-- each of these counts has been reached
abbrev pub AreReached : (ticks : ℕ) → List ℕ → Type 0
AreReached ticks since = All (λ n. n ≤ ticks) since

first_reached : (ticks n : ℕ) (ns : List ℕ) → AreReached ticks (n ∷ ns) → n ≤ ticks
first_reached ticks n ns a = a 0 0 (omega arith)

rest_reached : (ticks n : ℕ) (ns : List ℕ) → AreReached ticks (n ∷ ns) → AreReached ticks ns
rest_reached ticks n ns a k d l = a (suc k) d (omega arith)

pub later_reached : (ticks : ℕ) (since : List ℕ) → AreReached ticks since → AreReached (ticks + 1) since
later_reached ticks since a k d l = omega (arith, a k d l)

pub earlier_reached : (ticks : ℕ) (since : List ℕ) → AreReached ticks since → AreReached ticks (map earlier since)
earlier_reached ticks [] a k d l = absurd (omega arith)
earlier_reached ticks (n ∷ ns) a zero d l = omega (arith, first_reached ticks n ns a)
earlier_reached ticks (n ∷ ns) a (suc k) d l = earlier_reached ticks ns (rest_reached ticks n ns a) k d (omega arith)

pub set_reached : (ticks at : ℕ) (since : List ℕ) → AreReached ticks since → AreReached ticks (set since at ticks)
set_reached ticks at since a k d l = elim (cases_eq k at) [
  | inl e ↦ omega (arith, get_or-set_at since at k ticks d e (omega (arith, length-set since at ticks)))
  | inr n ↦ omega (arith, get_or-set_other since at k ticks d n, a k d (omega (arith, length-set since at ticks)))
]

-- the age at a place
pub age_at : (ticks at : ℕ) (since : List ℕ) → at < length since → get_or (ages_at ticks since) at 0 ≡ ticks - get_or since at 0
age_at ticks at [] l = absurd (omega arith)
age_at ticks zero (n ∷ ns) l = refl
age_at ticks (suc k) (n ∷ ns) l = age_at ticks k ns (omega arith)

pub begun : (ticks at : ℕ) (since : List ℕ) → ages_at ticks (set since at ticks) ≡ set (ages_at ticks since) at 0
begun ticks at [] = refl
begun ticks zero (n ∷ ns) = let none : ticks - ticks ≡ 0 = omega arith in ap (λ a. a ∷ ages_at ticks ns) none
begun ticks (suc k) (n ∷ ns) = ap (λ rest. (ticks - n) ∷ rest) (begun ticks k ns)

older_once : (ticks n : ℕ) → n ≤ ticks → ticks < 2 ^ 64 - 1 → (ticks + 1) - n ≡ older (ticks - n)
older_once ticks n a h = omega arith

-- one more tick is counted
pub a_tick_later : (ticks : ℕ) (since : List ℕ) → ticks < 2 ^ 64 - 1 → AreReached ticks since → ages_at (ticks + 1) since ≡ map older (ages_at ticks since)
a_tick_later ticks [] h a = refl
a_tick_later ticks (n ∷ ns) h a = rw (older_once ticks n (first_reached ticks n ns a) h, a_tick_later ticks ns h (rest_reached ticks n ns a)) refl

older_back : (ticks n : ℕ) → n ≤ ticks → ticks ≡ 2 ^ 64 - 1 → ticks - earlier n ≡ older (ticks - n)
older_back ticks n a h = omega arith

-- or each age was 0 a tick earlier
pub a_tick_earlier : (ticks : ℕ) (since : List ℕ) → ticks ≡ 2 ^ 64 - 1 → AreReached ticks since → ages_at ticks (map earlier since) ≡ map older (ages_at ticks since)
a_tick_earlier ticks [] h a = refl
a_tick_earlier ticks (n ∷ ns) h a = rw (older_back ticks n (first_reached ticks n ns a) h, a_tick_earlier ticks ns h (rest_reached ticks n ns a)) refl

-- each of these counts is moved back, where they were lent
pub moved_back : (since lent new : List ℕ) → lent ≡ since → new ≡ map earlier lent → refill (length since) since new ≡ map earlier since
moved_back since lent new e h =
    let len : length (map earlier since) ≡ length since = length-map since earlier in
    let same : new ≡ map earlier since = h ∙ ap (map earlier) e in
    ap (refill (length since) since) same
    ∙ rw (drop_all (length (map earlier since)) since (omega (arith, len)), append-nil (map earlier since)) (take_all (length since) (map earlier since) (omega (arith, len)))
