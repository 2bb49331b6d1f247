-- How a client finds a frame in what it reads.
use Rattle.std.specs.Prelude.{◌≡◌, ◌⊎◌, ◌<◌, ℕ, List, [], ◌∷◌, ◌++◌, length, Option, Result, OnOk, IsErrOf}
use Rattle.std.specs.List.{All}
use Rattle.std.specs.Io.KnownBytes.{Consumes, IsAtEnd}
use Rattle.pdc_frame.specs.Frame.{Fields, IsFrame}
use Rattle.pdc_frame.specs.Stream.{Held, HasTaken, IsBad}
use Rattle.pdc_frame.specs.declared.frame.Kind.{Kind}
use Rattle.pdc_frame.specs.declared.step.Step.TheVariants.{Whole}
use Rattle.pdc_session.specs.declared.client_fault.ClientFault.{ClientFault}
use Rattle.pdc_session.specs.declared.client_fault.ClientFault.TheVariants.{BadStream, NoAnswer, NoMemory}
use Rattle.pdc_session.specs.declared.search.TheConstants.{MAX_FRAMES}

-- From one state of a framer to another these frames came, whatever stream came before. The bytes that were unread and those that
-- were read since, of a reader whose bytes are known, are the bytes of these frames and of what is pending, and those unread now.
pub record Follows (held : Held) (unread : List ℕ) (remaining : Option (List ℕ)) (frames : List (List ℕ)) (later : Held) (left : List ℕ) (rest : Option (List ℕ)) : Type 0 where
  pub taken : List ℕ
  pub read : List ℕ
  pub stream : (stream : List ℕ) (before : List (List ℕ)) → HasTaken stream before held → HasTaken (stream ++ taken) (before ++ frames) later
  pub whole : unread ++ read ≡ taken ++ left
  pub came : Consumes remaining rest read

-- the bytes are a frame of this stream and kind
abbrev pub IsWanted : (id : ℕ) → Kind → List ℕ → Type 0
IsWanted id kind bytes = (f : Fields) × IsFrame bytes f × (f.id ≡ id) × (f.kind ≡ kind)

-- or a frame of another stream or kind
abbrev pub IsOther : (id : ℕ) → Kind → List ℕ → Type 0
IsOther id kind bytes = (f : Fields) × IsFrame bytes f × (f.id ≡ id → f.kind ≡ kind → ⊥)

-- So many frames came, and all are others.
pub record PassesOver (id : ℕ) (kind : Kind) (count : ℕ) (held : Held) (unread : List ℕ) (remaining : Option (List ℕ)) (later : Held) (left : List ℕ) (rest : Option (List ℕ)) : Type 0 where
  pub others : List (List ℕ)
  pub counted : length others ≡ count
  pub passed : All (λ bytes. IsOther id kind bytes) others
  pub follows : Follows held unread remaining others later left rest

-- The next frame of this stream and kind is held: all that came before it, fewer than a call looks through, are others.
pub record Finds (id : ℕ) (kind : Kind) (held : Held) (unread : List ℕ) (remaining : Option (List ℕ)) (later : Held) (left : List ℕ) (rest : Option (List ℕ)) : Type 0 where
  pub others : List (List ℕ)
  pub few : length others < MAX_FRAMES
  pub passed : All (λ bytes. IsOther id kind bytes) others
  pub wanted : IsWanted id kind later.bytes
  pub whole : later.step ≡ Whole
  pub follows : Follows held unread remaining (others ++ later.bytes ∷ []) later left rest

-- Why none is: the reads of a call are used up, no byte is left to read, or as many frames came as a call looks through.
abbrev pub IsUnanswered : (id : ℕ) → Kind → Held → (unread : List ℕ) → (remaining : Option (List ℕ)) → (later : Held) → (left : List ℕ) → (rest : Option (List ℕ)) → (reads_left : ℕ) → Type 0
IsUnanswered id kind held unread remaining later left rest reads_left =
    (reads_left ≡ 0) ⊎ (IsAtEnd rest ⊎ PassesOver id kind MAX_FRAMES held unread remaining later left rest)

-- What a call that looks for a frame answers: memory is wanted for a frame that was found alone.
pub record Searches {T : Type 0} (id : ℕ) (kind : Kind) (held : Held) (unread : List ℕ) (remaining : Option (List ℕ)) (later : Held) (left : List ℕ) (rest : Option (List ℕ)) (reads_left : ℕ) (answer : Result T ClientFault) : Type 0 where
  pub found : OnOk answer (Finds id kind held unread remaining later left rest)
  pub memory : IsErrOf answer NoMemory → Finds id kind held unread remaining later left rest
  pub bad : IsErrOf answer BadStream → IsBad later.step
  pub no_answer : IsErrOf answer NoAnswer → IsUnanswered id kind held unread remaining later left rest reads_left
