-- What was put is what was taken and then what the channel holds, and the end mark stands last where the channel is closed.
-- One pass at most may put, and it has the list of what was put. The same for takes.
use Rattle.std.specs.Prelude.{◌≡◌, ℕ, Bool, true, List, ◌++◌}
use mathlib.Core.Option.{some}
use lib.ListN.{get_elem?}
use Rattle.pdc_pipe.specs.declared.message.Message.{Message}
use Rattle.pdc_pipe.specs.declared.pipe.Log.{Log}
use Rattle.pdc_pipe.specs.Sequence.{IsClosedBy}

abbrev pub log : Bool → Bool → Bool → List Message → List Message → Log
log a b c put taken = record { puts = a; takes = b; closed = c; put = put; taken = taken }

abbrev pub Fits : ℕ → ℕ → Bool → List Message → List Message → ℕ → Log → Type 0
Fits writer reader closed put taken port v = (v.puts ≡ true → (port ≡ writer) × (v.put ≡ put) × (v.closed ≡ closed)) × (v.takes ≡ true → (port ≡ reader) × (v.taken ≡ taken))

abbrev pub Piped : List Message → List Log → Type 0
Piped items views = (writer : ℕ) × (reader : ℕ) × (closed : Bool) × (put : List Message) × (taken : List Message) × (put ≡ taken ++ items) × IsClosedBy closed put
    × ((port : ℕ) (v : Log) → get_elem? views port ≡ some v → Fits writer reader closed put taken port v)
