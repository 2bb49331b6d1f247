-- A frame carries one command or has one fault, and the same of header texts.
use Rattle.std.proofs.Common.{◌≡◌, ℕ, ◌^◌, ◌<◌, List, length, refl, sym, ap, ◌∙◌, arith}
use Rattle.pdc_words.specs.Bytes.{word_at}
use Rattle.pdc_frame.specs.Frame.{Fields}
use Rattle.pdc_words.specs.Parts.{WordsAreTheirBytes}
use Rattle.pdc_frame.specs.declared.command.Command.{Command}
use Rattle.pdc_frame.specs.declared.command.Command.TheVariants.{DataOff, DataOn, SendHeader, SendCfg1, SendCfg2, SendCfg3}
use Rattle.pdc_frame.specs.declared.command_fault.CommandFault.{CommandFault}
use Rattle.pdc_frame.specs.declared.command_fault.CommandFault.TheVariants.{WrongKind, Cut, UnknownCommand}
use Rattle.pdc_frame.specs.Command.{code_of, IsCommand, IsFirstFault, IsHeader, IsHeaderFault}

-- a command is known by its number
code_of-injective : (a b : Command) → code_of a ≡ code_of b → a ≡ b
code_of-injective DataOff DataOff e = refl
code_of-injective DataOn DataOn e = refl
code_of-injective SendHeader SendHeader e = refl
code_of-injective SendCfg1 SendCfg1 e = refl
code_of-injective SendCfg2 SendCfg2 e = refl
code_of-injective SendCfg3 SendCfg3 e = refl
code_of-injective a b e = absurd (omega arith)

code-small : (a : Command) → code_of a < 2 ^ 16
code-small DataOff = omega arith
code-small DataOn = omega arith
code-small SendHeader = omega arith
code-small SendCfg1 = omega arith
code-small SendCfg2 = omega arith
code-small SendCfg3 = omega arith

-- the number that stands in the payload
code_in : (words : WordsAreTheirBytes) (f : Fields) (command : Command) → IsCommand f command → word_at f.payload 0 ≡ code_of command
code_in words f command h = ap (λ (t : List ℕ). word_at t 0) h.payload ∙ words.word (code_of command) (code-small command)

pub one_command : (words : WordsAreTheirBytes) (f : Fields) (a b : Command) → IsCommand f a → IsCommand f b → a ≡ b
one_command words f a b ha hb = code_of-injective a b (sym (code_in words f a ha) ∙ code_in words f b hb)

pub one_fault : (f : Fields) (a b : CommandFault) → IsFirstFault f a → IsFirstFault f b → a ≡ b
one_fault f WrongKind WrongKind h k = refl
one_fault f WrongKind Cut h k = absurd (h k.0)
one_fault f WrongKind UnknownCommand h k = absurd (h k.0)
one_fault f Cut WrongKind h k = absurd (k h.0)
one_fault f Cut Cut h k = refl
one_fault f Cut UnknownCommand h k = absurd (h.1 k.1)
one_fault f UnknownCommand WrongKind h k = absurd (k h.0)
one_fault f UnknownCommand Cut h k = absurd (k.1 h.1)
one_fault f UnknownCommand UnknownCommand h k = refl

pub no_fault : (words : WordsAreTheirBytes) (f : Fields) (command : Command) (fault : CommandFault) → IsCommand f command → IsFirstFault f fault → ⊥
no_fault words f command WrongKind h k = k h.kind
no_fault words f command Cut h k = k.1 (ap length h.payload)
no_fault words f command UnknownCommand h k = k.2 command (code_in words f command h)

pub one_text : (f : Fields) (a b : List ℕ) → IsHeader f a → IsHeader f b → a ≡ b
one_text f a b ha hb = sym ha.payload ∙ hb.payload

pub one_header_fault : (f : Fields) (a b : CommandFault) → IsHeaderFault f a → IsHeaderFault f b → a ≡ b
one_header_fault f WrongKind WrongKind h k = refl
one_header_fault f WrongKind Cut h k = absurd k
one_header_fault f WrongKind UnknownCommand h k = absurd k
one_header_fault f Cut b h k = absurd h
one_header_fault f UnknownCommand b h k = absurd h

pub no_header_fault : (f : Fields) (text : List ℕ) (fault : CommandFault) → IsHeader f text → IsHeaderFault f fault → ⊥
no_header_fault f text WrongKind h k = k h.kind
no_header_fault f text Cut h k = k
no_header_fault f text UnknownCommand h k = k
