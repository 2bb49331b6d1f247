-- As many counts wait as a mark has.
use Rattle.std.proofs.Common.{◌++◌, ◌-◌, ◌∙◌, ◌≡◌, ◌≤◌, arith, length, length-append, List, map, replicate, ℕ}
use Rattle.pdc_history.proofs.Names.{cleared_count, Entry, Given, given_in, greatest_count, held_section, kind_of, length-map, length-range_with_len, length-replicate, life_of, range_with_len, WaitingIsWhole}
use Rattle.pdc_history.proofs.Senders.{few_columns}
use Rattle.pdc_history.proofs.laws.waiting_is_whole.Goals as goal

whole : (n : ℕ) (f : ℕ → ℕ) → n ≤ 16 → length (map f (range_with_len 0 n) ++ replicate (16 - n) 0) ≡ 16
whole n f h =
    length-append (map f (range_with_len 0 n)) (replicate (16 - n) 0)
    ∙ omega (arith, h, length-map (range_with_len 0 n) f, length-range_with_len 0 n, length-replicate {A = ℕ} (16 - n) 0)

waiting_is_whole : WaitingIsWhole
waiting_is_whole W H who =
    let g : Given = given_in W H who in
    let E : List Entry = life_of H who in
    whole g.columns (λ c. greatest_count (cleared_count g E c) (held_section g E c)) (few_columns (kind_of W who))

pub returns : goal.returns
returns c W H who = waiting_is_whole W H who
