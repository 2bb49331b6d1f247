-- When what two nodes published of one instant agrees.
use Rattle.std.specs.Prelude.{◌≡◌, ℕ, List, Bool, ◌+◌, ◌-◌, ◌^◌, min, All, true, false}
use Rattle.pdc_watch.specs.declared.present.PresentBlock.{PresentBlock}
use Rattle.pdc_watch.specs.declared.agreement.Agreement.{Agreement}

-- Of one PMU under one count, they have the same words.
abbrev pub Agrees : PresentBlock → PresentBlock → Type 0
Agrees first second = first.source ≡ second.source → first.count ≡ second.count → first.words.items ≡ second.words.items

-- Each present block of the one agrees with each of the other.
abbrev pub AllAgree : List PresentBlock → List PresentBlock → Type 0
AllAgree first second = All (λ a. All (λ b. Agrees a b) second) first

-- one more, up to the greatest number
abbrev pub one_more : ℕ → ℕ
one_more n = min (n + 1) (2 ^ 64 - 1)

-- The counts with one more instant, which was equal or different.
abbrev pub counted : Agreement → Bool → Agreement
counted counts true = record { equal = one_more counts.equal; different = counts.different }
counted counts false = record { equal = counts.equal; different = one_more counts.different }
