-- What the totals of a run are beside its receivers.
use Rattle.std.specs.Prelude.{◌≡◌, ℕ, map, sum, vec_len}
use Rattle.pdc_threads.specs.declared.totals.Totals.{Totals}

-- the sums of what the receivers counted
abbrev pub AreSums : Totals → Type 0
AreSums totals = (totals.taken ≡ sum (map (λ c. c.taken) totals.receivers.items)) × (totals.refused ≡ sum (map (λ c. c.refused) totals.receivers.items))

-- with an entry for each of so many streams
abbrev pub HaveEach : (streams : ℕ) → Totals → Type 0
HaveEach streams totals = vec_len totals.receivers ≡ streams
