-- All that a reader of the streams may rest on.
use Rattle.std.specs.Prelude.{List}
use Rattle.pdc_history.specs.{Genuine.{FramesAgree, HasGenuineFrames}, Pmus.{PmusSendOneBody, PmusSendOneSection}, Seen.{Seen}, World.{A, B, M}}
use Rattle.pdc_history.specs.declared.reply.Published.{Published}
use Rattle.pdc_world.specs.{Agree.{PublishedAgree}, Frames.{LayoutsAreOne}, Published.{InstantsRise, RowsAreSentData}}

pub record Headline (seen : Seen) (rows : List Published) : Type 0 where
  pub rise : InstantsRise rows
  pub sent : RowsAreSentData seen rows
  pub body : PmusSendOneBody seen
  pub section : PmusSendOneSection seen
  pub layouts : LayoutsAreOne seen
  pub first_node : HasGenuineFrames seen A
  pub second_node : HasGenuineFrames seen B
  pub merger : HasGenuineFrames seen M
  pub agree : FramesAgree seen
  pub published : PublishedAgree seen rows
