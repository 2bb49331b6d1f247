-- What a reader of the streams sees: the settings, and the frames that were ever sent.
use Rattle.std.specs.Prelude.{List, ℕ}
use Rattle.pdc_row.specs.declared.output.Output.{Output}
use Rattle.pdc_life.specs.{CoreKind.{output_under}, declared.given.Settings.{Settings}, declared.merging.MergerSettings.{MergerSettings}, Reading.{Stream}}
use Rattle.pdc_history.specs.{History.{IsHistory}, World.{Happened, kind_among, sent, Who, World}}

pub record Seen : Type 0 where
  pub a : Settings
  pub b : Settings
  pub m : MergerSettings
  pub frames : List (List ℕ)

-- what is seen of a history
abbrev pub seen_in : World → List Happened → Seen
seen_in W H = record { a = W.a.settings; b = W.b.settings; m = W.m.settings; frames = sent W H }

-- it holds of what is seen of each history
abbrev pub OfHistories : (Seen → Type 0) → Type 0
OfHistories P = (W : World) (H : List Happened) → IsHistory W H → P (seen_in W H)

-- how an owner publishes, and the stream that it does
abbrev pub output_in : Seen → Who → Output
output_in seen who = output_under (kind_among seen.a seen.b seen.m who)

abbrev pub stream_in : Seen → Who → Stream
stream_in seen who = record { id = (output_in seen who).id.value; time_base = (output_in seen who).time_base; rate = (output_in seen who).rate }
