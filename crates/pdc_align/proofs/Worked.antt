-- What an alignment keeps of a life of a node, worked out. What arrives is given as read.
use Rattle.std.specs.Prelude.{◌≡◌, ℕ, ◌+◌, true, false, List, [], ◌∷◌, replicate, map, Option, None, Some, refl}
use Rattle.std.proofs.Common.{arith}
use Rattle.pdc_arrival.specs.pdc_cfg.declared.shape.Shape.{Shape}
use Rattle.pdc_arrival.specs.pdc_cfg.Section.{SectionFields}
use Rattle.pdc_arrival.specs.pdc_row.declared.output.Output.{Output}
use Rattle.pdc_arrival.specs.pdc_row.declared.output.Nominal.TheVariants.{Hz50}
use Rattle.pdc_arrival.specs.pdc_life.declared.timing.WaitKind.TheVariants.{Relative}
use Rattle.pdc_arrival.specs.pdc_life.Answer.{ReadStep, ToArrive, ToTick, life_from}
use Rattle.pdc_arrival.specs.pdc_life.Arrival.{Layout}
use Rattle.pdc_arrival.specs.pdc_life.Given.{Given}
use Rattle.pdc_arrival.specs.pdc_life.Life.{Entry}
use Rattle.pdc_arrival.specs.pdc_life.Node.{node_answer}
use Rattle.pdc_align.specs.Align.{ColumnState, State, align_of}
use Rattle.pdc_align.specs.Calls.{after_tick_of, told_at, waiting_in}

abbrev shape : Shape
shape = record { phasors = 0; analogs = 0; digitals = 0; phasors_fit = omega arith; analogs_fit = omega arith; digitals_fit = omega arith }

-- the section of a PMU under this count; its bytes are looked at only where two have one count
abbrev section : (source count : ℕ) → SectionFields
section source count = record { bytes = source ∷ count ∷ []; shape = shape; source = source; count = count; polar = false }

abbrev output : Output
output = record {
  id = record { value = 201; low = omega arith; high = omega arith };
  rate = 50;
  nominal = Hz50;
  time_base = 1000000;
  rate_low = omega arith;
  rate_high = omega arith;
  time_base_low = omega arith;
  time_base_high = omega arith;
}

-- two PMUs; the opening count of the first is 1
abbrev given : Given
given = record {
  output = output;
  wait = 2;
  wait_kind = Relative;
  window = 8;
  ahead = 32;
  columns = 2;
  lanes = 1;
  start = 1;
  floor = 100;
  counts = 1 ∷ replicate 15 0;
  opening = 100;
}

abbrev layout : (p count : ℕ) → ReadStep
layout p count = ToArrive p [] (Layout None ((p, section (11 + p) count) ∷ []))

-- a tick at 101 that clears these counts
abbrev tick : (first second : ℕ) → ReadStep
tick first second = ToTick 101 (first ∷ second ∷ replicate 14 0)

abbrev after : List ReadStep → List Entry
after steps = life_from node_answer given [] steps

abbrev columns_after : List ReadStep → List ColumnState
columns_after steps = (align_of given (after steps)).columns

abbrev column : (opening cleared : ℕ) → (held in_force : Option SectionFields) → ColumnState
column opening cleared held in_force = record { opening = opening; cleared = cleared; held = held; in_force = in_force }

-- at the start
nothing_is_kept : columns_after [] ≡ column 1 1 None None ∷ column 0 0 None None ∷ []
nothing_is_kept = refl

-- Counts 2 and 0 come. A tick that clears count 1 adopts the second alone; one that clears count 2 adopts the first.
held_back : columns_after (layout 0 2 ∷ layout 1 0 ∷ tick 1 0 ∷ []) ≡ column 1 1 (Some (section 11 2)) None ∷ column 0 0 (Some (section 12 0)) (Some (section 12 0)) ∷ []
held_back = refl

adopted_then : columns_after (layout 0 2 ∷ layout 1 0 ∷ tick 1 0 ∷ tick 2 0 ∷ [])
    ≡ column 1 2 (Some (section 11 2)) (Some (section 11 2)) ∷ column 0 0 (Some (section 12 0)) (Some (section 12 0)) ∷ []
adopted_then = refl

-- Count 0 of the first is below its opening count, and is not held; what was cleared stays so.
below_opening : columns_after (layout 0 0 ∷ tick 7 0 ∷ tick 3 0 ∷ []) ≡ column 1 7 None None ∷ column 0 0 None None ∷ []
below_opening = refl

-- Two ticks adopted.
two_changes : (align_of given (after (layout 0 2 ∷ layout 1 0 ∷ tick 1 0 ∷ tick 2 0 ∷ []))).change ≡ 2
two_changes = refl

-- What waits to be stored: the held count of the first, and nothing of the second.
counts_that_wait : waiting_in (align_of given (after (layout 0 2 ∷ layout 1 0 ∷ []))) ≡ 2 ∷ 0 ∷ replicate 14 0
counts_that_wait = refl

-- What a tick tells: the first change number, and that no number is left.
a_tick_tells : told_at (align_of given (after (layout 1 0 ∷ []))) 101 (replicate 16 0) ≡ record { closed = 0; change = Some 1; used_up = false }
a_tick_tells = refl

abbrev last_number : State
last_number = record (align_of given (after (layout 1 0 ∷ []))) { change = 4294967295 }

no_number_is_left : told_at last_number 101 (replicate 16 0) ≡ record { closed = 0; change = None; used_up = true }
no_number_is_left = refl

it_waits : map (λ (c : ColumnState). c.in_force) (after_tick_of last_number 101 (replicate 16 0)).columns ≡ None ∷ None ∷ []
it_waits = refl
