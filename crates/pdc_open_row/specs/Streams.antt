-- The streams of a row.
use Rattle.std.specs.Prelude.{ℕ, ◌==◌, if◌then◌else◌}

-- With one lane each stream writes its own column; with two there are two streams, and each writes its lane.
abbrev pub stream_count : (columns lanes : ℕ) → ℕ
stream_count columns lanes = if lanes == 1 then columns else 2
