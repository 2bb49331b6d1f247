-- The tag of an instant, from the first one in its second.
use Rattle.std.proofs.Common.{◌≡◌, ℕ, ◌+◌, ◌-◌, ◌*◌, ◌/◌, ◌%◌, ◌<◌, ◌≤◌, arith, sym, ap, ◌∙◌}
use Rattle.std.proofs.lemmas.Nat.{div-mul-add, mod-mul-add}
use Rattle.pdc_frame.specs.Nearest.{nearest_of}
use Rattle.pdc_frame.specs.Tag.{tag_of}

pub tag_of-in : (i time_base rate soc first : ℕ) → first ≡ soc * rate → first ≤ i → i - first < rate →
    (soc, nearest_of ((i - first) * time_base) rate) ≡ tag_of i time_base rate
unfolding tag_of
tag_of-in i time_base rate soc first place low below =
    let slot = i - first in
    let whole : i ≡ soc * rate + slot = omega (arith, place, low) in
    let second : soc ≡ i / rate = sym (ap (λ n. n / rate) whole ∙ div-mul-add soc rate slot below) in
    let part : slot ≡ i % rate = sym (ap (λ n. n % rate) whole ∙ mod-mul-add soc rate slot below) in
    ap (λ k. (soc, nearest_of (k * time_base) rate)) part ∙ ap (λ s. (s, nearest_of (i % rate * time_base) rate)) second

-- where the counts from slot to slot are a whole number, each slot is a count
pub nearest_of-whole : (time_base rate slot step : ℕ) → 0 < rate → step * rate ≡ time_base → slot * step ≡ nearest_of (slot * time_base) rate
unfolding nearest_of
nearest_of-whole time_base rate slot step some whole =
    let many : slot * (step * rate) ≡ slot * time_base = ap (λ n. slot * n) whole in
    let twice : 2 * (slot * time_base) + rate ≡ (slot * step) * (2 * rate) + rate = omega (arith, many) in
    sym (ap (λ n. n / (2 * rate)) twice ∙ div-mul-add (slot * step) (2 * rate) rate (omega arith))
