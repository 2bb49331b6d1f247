-- What command and header frames carry (IEEE C37.118.2-2011, 6.6 with table 15, and 6.5). Both are written with
-- version 2, time quality 0 and count 0.
use Rattle.std.specs.Prelude.{◌≡◌, ◌≢◌, ℕ, List, length}
use Rattle.std.specs.Int.{w16, to_be_bytes}
use Rattle.pdc_frame.specs.declared.frame.Kind.TheVariants.{CommandFrame, HeaderFrame}
use Rattle.pdc_words.specs.Bytes.{word_at}
use Rattle.pdc_frame.specs.Frame.{Fields}
use Rattle.pdc_frame.specs.declared.command.Command.{Command}
use Rattle.pdc_frame.specs.declared.command.Command.TheVariants.{DataOff, DataOn, SendHeader, SendCfg1, SendCfg2, SendCfg3}
use Rattle.pdc_frame.specs.declared.command_fault.CommandFault.{CommandFault}
use Rattle.pdc_frame.specs.declared.command_fault.CommandFault.TheVariants.{WrongKind, Cut, UnknownCommand}

-- CMD: data off is 1, send CFG-2 is 5
abbrev pub code_of : Command → ℕ
code_of DataOff = 1
code_of DataOn = 2
code_of SendHeader = 3
code_of SendCfg1 = 4
code_of SendCfg2 = 5
code_of SendCfg3 = 6

-- the fields are those of a frame that carries this command: the payload is CMD
pub record IsCommand (f : Fields) (command : Command) : Type 0 where
  pub kind : f.kind ≡ CommandFrame
  pub payload : f.payload ≡ to_be_bytes w16 (code_of command)

-- or this text: the payload is the text
pub record IsHeader (f : Fields) (text : List ℕ) : Type 0 where
  pub kind : f.kind ≡ HeaderFrame
  pub payload : f.payload ≡ text

-- Why a frame carries no command: the first cause that holds.
abbrev pub IsFirstFault : Fields → CommandFault → Type 0
IsFirstFault f WrongKind = f.kind ≢ CommandFrame
IsFirstFault f Cut = (f.kind ≡ CommandFrame) × (length f.payload ≢ 2)
IsFirstFault f UnknownCommand = (f.kind ≡ CommandFrame) × (length f.payload ≡ 2) × ((command : Command) → word_at f.payload 0 ≢ code_of command)

-- Why it carries no text: it is of another kind.
abbrev pub IsHeaderFault : Fields → CommandFault → Type 0
IsHeaderFault f WrongKind = f.kind ≢ HeaderFrame
IsHeaderFault f fault = ⊥

-- the fields of the frame that tells a stream this command
abbrev pub command_fields : ℕ → ℕ → Command → Fields
command_fields id soc command = record {
  kind = CommandFrame;
  version = 2;
  id = id;
  soc = soc;
  quality = 0;
  frac = 0;
  payload = to_be_bytes w16 (code_of command);
}

-- the fields of the header frame of a stream with this text
abbrev pub header_fields : ℕ → ℕ → List ℕ → Fields
header_fields id soc text = record {
  kind = HeaderFrame;
  version = 2;
  id = id;
  soc = soc;
  quality = 0;
  frac = 0;
  payload = text;
}
