-- Marks of which the test says that they are equal.
use Rattle.std.proofs.Common.{◌≡◌, ◌&&◌, Bool, true, false, eqb, refl, sym}
use Rattle.std.proofs.lemmas.Bool.{eqb-true}
use Rattle.std.specs.Cmp.Lexicographic.{pointwise, same_text}
use Rattle.pdc_any_mark.specs.declared.any_mark.AnyMark.{AnyMark}
use Rattle.pdc_any_mark.specs.AnyMark.{slot_of}

parts : (a b : Bool) → true ≡ (a && b) → (true ≡ a) × (true ≡ b)
parts true b e = (refl, e)
parts false b e = absurd cc

pub same_slot : (a b : AnyMark) (rest : Bool)
    → true ≡ (eqb a.id b.id && (eqb a.rate b.rate && ((eqb a.stored.start b.stored.start && (eqb a.stored.floor b.stored.floor && pointwise eqb a.stored.counts b.stored.counts)) && rest)))
    → slot_of a ≡ slot_of b
same_slot a b rest e =
    let one = parts (eqb a.id b.id) (eqb a.rate b.rate && ((eqb a.stored.start b.stored.start && (eqb a.stored.floor b.stored.floor && pointwise eqb a.stored.counts b.stored.counts)) && rest)) e in
    let two = parts (eqb a.rate b.rate) ((eqb a.stored.start b.stored.start && (eqb a.stored.floor b.stored.floor && pointwise eqb a.stored.counts b.stored.counts)) && rest) one.1 in
    let three = parts (eqb a.stored.start b.stored.start && (eqb a.stored.floor b.stored.floor && pointwise eqb a.stored.counts b.stored.counts)) rest two.1 in
    let four = parts (eqb a.stored.start b.stored.start) (eqb a.stored.floor b.stored.floor && pointwise eqb a.stored.counts b.stored.counts) three.0 in
    let five = parts (eqb a.stored.floor b.stored.floor) (pointwise eqb a.stored.counts b.stored.counts) four.1 in
    let id : a.id ≡ b.id = eqb-true a.id b.id (sym one.0) in
    let rate : a.rate ≡ b.rate = eqb-true a.rate b.rate (sym two.0) in
    let start : a.stored.start ≡ b.stored.start = eqb-true a.stored.start b.stored.start (sym four.0) in
    let floor : a.stored.floor ≡ b.stored.floor = eqb-true a.stored.floor b.stored.floor (sym five.0) in
    let counts : a.stored.counts ≡ b.stored.counts = same_text a.stored.counts b.stored.counts five.1 in
    λ i. record { id = id i; rate = rate i; stored = record { start = start i; floor = floor i; counts = counts i } }
