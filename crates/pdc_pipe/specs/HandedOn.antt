-- What the sender hands on.
use Rattle.std.specs.Prelude.{◌≡◌, ℕ, List, [], ◌∷◌, ◌++◌}
use Rattle.pdc_pipe.specs.declared.message.Message.{Message}
use Rattle.pdc_pipe.specs.declared.message.Message.TheVariants.{End}
use Rattle.pdc_pipe.specs.declared.senders.Ended.{Ended}
use Rattle.pdc_pipe.specs.declared.senders.Ended.TheVariants.{AtEndMark, SinkFault}
use Rattle.pdc_ports.specs.Failures.{HasRisen}
use Rattle.pdc_pipe.specs.Sequence.{bytes_of}

-- the end mark stands last
abbrev pub EndsThere : List Message → Type 0
EndsThere taken = (body : List Message) × (taken ≡ body ++ End ∷ [])

-- What the sink took are the first of the frames of the list; all of them, up to the end mark, where the sender ended there.
pub record HasHandedOn (Took : List (List ℕ) → Type 0) (listed : List Message) (ended : Ended) : Type 0 where
  pub given : List (List ℕ)
  pub rest : List (List ℕ)
  pub took : Took given
  pub first : bytes_of listed ≡ given ++ rest
  pub whole : ended ≡ AtEndMark → (rest ≡ []) × EndsThere listed

-- Where the sender ended by the sink's fault, the sink's failures rose from the one number to the other.
abbrev pub HasSinkCause : (ended : Ended) (before after : ℕ) → Type 0
HasSinkCause ended before after = ended ≡ SinkFault → HasRisen before after
