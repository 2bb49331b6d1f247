-- Lines of a script of events, and what each asks of a world.
use Rattle.std.specs.Prelude.{◌≡◌, refl, ℕ, Bool, true, false, if◌then◌else◌, List, [], ◌∷◌, Option, None, Some, option_map, codes}
use Rattle.std.specs.Option.{option_and_then}
use Rattle.std.specs.Result.{result_ok}
use Rattle.std.specs.Str.{bytes_eq}
use Rattle.hex.specs.Hex.{decode_of, decode_pairs}
use Rattle.pdc_history.specs.Asked.{Asked, Do, Junk, Send, To}
use Rattle.pdc_history.specs.Event.{Act, OfPublish, OfStart, OfTick, Publish, Stop, StopDuring, TickAt}
use Rattle.pdc_history.specs.World.{Who, A, B, M}
use Rattle.pdc_play.specs.Number.{number_of}
use Rattle.pdc_play.specs.Word.{cut}

-- the bytes that a word of hexadecimal writes: one at least, with digits in either case
abbrev pub bytes_of : List ℕ → Option (List ℕ)
bytes_of [] = None
bytes_of (digit ∷ digits) = result_ok (decode_of (digit ∷ digits))

-- the core that a word names
abbrev pub core_of : List ℕ → Option Who
core_of word =
    if bytes_eq word (codes "A") then Some A
    else if bytes_eq word (codes "B") then Some B
    else if bytes_eq word (codes "M") then Some M
    else None

-- whether a store is done in which a core stops
abbrev pub landing_of : List ℕ → Option Bool
landing_of word =
    if bytes_eq word (codes "landed") then Some true
    else if bytes_eq word (codes "lost") then Some false
    else None

-- a line of two words: `send HEX`, `publish A`, `stop A`
abbrev pub asked_of_two : (verb word : List ℕ) → Option Asked
asked_of_two verb word =
    if bytes_eq verb (codes "send") then option_map Send (bytes_of word)
    else if bytes_eq verb (codes "publish") then option_map (λ who. Do who Publish) (core_of word)
    else if bytes_eq verb (codes "stop") then option_map (λ who. Do who Stop) (core_of word)
    else None

-- what a core does by a line of three words: `tick A 57478860000`, `stopin A landed`, `stoptick A lost`, `stopstart A landed`
abbrev pub act_of_core : (verb word : List ℕ) → Option Act
act_of_core verb word =
    if bytes_eq verb (codes "tick") then option_map TickAt (number_of word)
    else if bytes_eq verb (codes "stopin") then option_map (StopDuring OfPublish) (landing_of word)
    else if bytes_eq verb (codes "stoptick") then option_map (StopDuring OfTick) (landing_of word)
    else if bytes_eq verb (codes "stopstart") then option_map (StopDuring OfStart) (landing_of word)
    else None

-- what it is asked by one, without bytes: that, or `to A 0`
abbrev pub asked_of_core : (verb : List ℕ) → Who → (word : List ℕ) → Option Asked
asked_of_core verb who word =
    if bytes_eq verb (codes "to") then option_map (To who) (number_of word)
    else option_map (Do who) (act_of_core verb word)

-- the same, or `junk A HEX`
abbrev pub asked_of_three : (verb : List ℕ) → Who → (word : List ℕ) → Option Asked
asked_of_three verb who word =
    if bytes_eq verb (codes "junk") then option_map (Junk who) (bytes_of word)
    else asked_of_core verb who word

-- the second word, and a third where there is one
abbrev pub asked_behind : (verb word : List ℕ) → (last : Option (List ℕ)) → Option Asked
asked_behind verb word None = asked_of_two verb word
asked_behind verb word (Some last) = option_and_then (λ who. asked_of_three verb who last) (core_of word)

-- what a line asks; none where it is no event
abbrev pub asked_of_line : List ℕ → Option Asked
asked_of_line line = option_and_then (λ rest. asked_behind (cut line).word (cut rest).word (cut rest).rest) (cut line).rest

-- Worked: a line of each form.
pub sends : asked_of_line (codes "send AA0f") ≡ Some (Send (170 ∷ 15 ∷ []))
unfolding decode_pairs
sends = refl

pub brings : asked_of_line (codes "to A 3") ≡ Some (To A 3)
brings = refl

pub brings_junk : asked_of_line (codes "junk M 00") ≡ Some (Junk M (0 ∷ []))
unfolding decode_pairs
brings_junk = refl

pub ticks : asked_of_line (codes "tick B 57478860000") ≡ Some (Do B (TickAt 57478860000))
ticks = refl

pub publishes : asked_of_line (codes "publish A") ≡ Some (Do A Publish)
publishes = refl

pub stops : asked_of_line (codes "stop A") ≡ Some (Do A Stop)
stops = refl

pub stops_in : asked_of_line (codes "stopin A landed") ≡ Some (Do A (StopDuring OfPublish true))
stops_in = refl

pub stops_in_tick : asked_of_line (codes "stoptick A lost") ≡ Some (Do A (StopDuring OfTick false))
stops_in_tick = refl

pub stops_at_start : asked_of_line (codes "stopstart B landed") ≡ Some (Do B (StopDuring OfStart true))
stops_at_start = refl

-- Worked: two spaces, a space at the end, no byte, half a byte, a word too many, a core that is none.
pub two_spaces : asked_of_line (codes "to  A 3") ≡ None
two_spaces = refl

pub space_at_end : asked_of_line (codes "stop A ") ≡ None
space_at_end = refl

pub no_byte : asked_of_line (codes "send ") ≡ None
no_byte = refl

pub half_a_byte : asked_of_line (codes "send AA0") ≡ None
unfolding decode_pairs
half_a_byte = refl

pub word_too_many : asked_of_line (codes "tick A 1 2") ≡ None
word_too_many = refl

pub no_core : asked_of_line (codes "stop C") ≡ None
no_core = refl
