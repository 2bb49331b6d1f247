-- What a put of a ring answers, and what it makes of the content.
use Rattle.std.proofs.Common.{◌≡◌, ℕ, ◌<◌, Bool, true, false, not, if◌then◌else◌, List, refl, sym, ◌∙◌, ap}
use Rattle.std.proofs.lemmas.Bool.{lt-leb}
use Rattle.pdc_open_row.specs.pdc_row.CellView.{CellView}
use Rattle.pdc_table.specs.Content.{Content, lane_of}
use Rattle.pdc_table.specs.Placing.{row_at}
use Rattle.pdc_table.specs.Steps.{after_put, after_take, first_cause, is_near_all, put_answer}
use Rattle.pdc_open_row.specs.Taking.{answer_at, is_taken}
use Rattle.pdc_open_row.specs.Views.{OpenRowView}
use Rattle.pdc_open_row.specs.declared.outcome.PutOutcome.TheVariants.{OutOfWindow}

pub put_far : (c : Content) (stream instant : ℕ) (cells : List (ℕ × CellView)) → c.last < instant → is_near_all c instant ≡ false → OutOfWindow ≡ put_answer c stream instant cells
put_far c stream instant cells h e =
    sym (ap (λ b. first_cause b (not (is_near_all c instant)) (answer_at (row_at instant c.open_rows) stream (lane_of c stream) cells)) (lt-leb instant c.last h)
    ∙ ap (λ b. first_cause false (not b) (answer_at (row_at instant c.open_rows) stream (lane_of c stream) cells)) e)

pub put_near : (c : Content) (stream instant : ℕ) (cells : List (ℕ × CellView)) → c.last < instant → is_near_all c instant ≡ true → put_answer c stream instant cells ≡ answer_at (row_at instant c.open_rows) stream (lane_of c stream) cells
put_near c stream instant cells h e =
    ap (λ b. first_cause b (not (is_near_all c instant)) (answer_at (row_at instant c.open_rows) stream (lane_of c stream) cells)) (lt-leb instant c.last h)
    ∙ ap (λ b. first_cause false (not b) (answer_at (row_at instant c.open_rows) stream (lane_of c stream) cells)) e

pub far_content : (c : Content) (stream instant : ℕ) (cells : List (ℕ × CellView)) → OutOfWindow ≡ put_answer c stream instant cells → c ≡ after_put c stream instant cells
far_content c stream instant cells e = ap (λ a. if is_taken a then after_take c stream instant cells else c) e

pub put_content : (b : Bool) (c : Content) (rows : List OpenRowView) → record c { open_rows = if b then rows else c.open_rows } ≡ (if b then record c { open_rows = rows } else c)
put_content true c rows = refl
put_content false c rows = refl
