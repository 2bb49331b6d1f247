-- What is known of the frames that cores send.
use Rattle.std.specs.Prelude.{◌+◌, ◌≡◌, length}
use Rattle.pdc_frame.specs.Frame.{Fields, spelling_of}
use Rattle.pdc_life.specs.{Frames.{LayoutsOfLivesAreFrames}, Laws.{LivesAreRuns}}
use Rattle.pdc_history.specs.{Genuine.{PublishedWereSent}, Lives.{LivesAreLives}, Pmus.{PmusSendTheirOwn}}

pub record FramesAreKnown : Type 0 where
  pub len : (f : Fields) → length (spelling_of f) ≡ length f.payload + 16
  pub lives : LivesAreLives
  pub runs : LivesAreRuns
  pub layouts : LayoutsOfLivesAreFrames
  pub own : PmusSendTheirOwn
  pub published : PublishedWereSent
