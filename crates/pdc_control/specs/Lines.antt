-- What is said at the socket of a run. One line is asked, and ended by a line feed: `stop`, `status` or `status json`. What is answered
-- begins with a line of one word, and ends where the connection does: `done`, with what was asked for behind it, or `refused` or `failed`, with the reason
-- behind it. A run answers `stop` once it has ended.
use Rattle.std.specs.Prelude.{◌≡◌, refl, ℕ, ◌++◌, List, [], ◌∷◌, Option, Some, None, codes, if◌then◌else◌}
use Rattle.std.specs.Str.{bytes_eq}
use Rattle.pdc_control.specs.declared.request.Form.TheVariants.{Lines, Json}
use Rattle.pdc_control.specs.declared.request.Request.{Request}
use Rattle.pdc_control.specs.declared.request.Request.TheVariants.{Stop, Status}
use Rattle.pdc_control.specs.declared.answer.Head.{Head}
use Rattle.pdc_control.specs.declared.answer.Head.TheVariants.{Done, Refused, Failed}

-- the code of a line feed
abbrev pub LINE_FEED : ℕ
LINE_FEED = 10

-- a word as a line
abbrev pub as_line : List ℕ → List ℕ
as_line word = word ++ LINE_FEED ∷ []

-- what is asked by these bytes
abbrev pub asked_by : List ℕ → Option Request
asked_by bytes =
    if bytes_eq bytes (as_line (codes "stop")) then Some Stop
    else if bytes_eq bytes (as_line (codes "status")) then Some (Status Lines)
    else if bytes_eq bytes (as_line (codes "status json")) then Some (Status Json)
    else None

-- the line of a request
abbrev pub line_of : Request → List ℕ
line_of Stop = as_line (codes "stop")
line_of (Status Lines) = as_line (codes "status")
line_of (Status Json) = as_line (codes "status json")

-- the line that an answer begins with
abbrev pub head_of : Head → List ℕ
head_of Done = as_line (codes "done")
head_of Refused = as_line (codes "refused")
head_of Failed = as_line (codes "failed")

-- Worked: each line asks what it is the line of; a word without its line feed, and another case, ask nothing.
pub of_stop : asked_by (line_of Stop) ≡ Some Stop
of_stop = refl

pub of_status : asked_by (line_of (Status Lines)) ≡ Some (Status Lines)
of_status = refl

pub of_json : asked_by (line_of (Status Json)) ≡ Some (Status Json)
of_json = refl

pub of_no_line : asked_by (codes "stop") ≡ None
of_no_line = refl

pub of_case : asked_by (as_line (codes "Stop")) ≡ None
of_case = refl

pub of_more : asked_by (as_line (codes "status  json")) ≡ None
of_more = refl
