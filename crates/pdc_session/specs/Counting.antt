-- A connection that counts.
use Rattle.std.specs.Prelude.{ℕ}
use Rattle.pdc_session.specs.declared.counting.Counting.{Counting}

-- the reader and writer in it
abbrev pub inner_of : {S : Type 0} → Counting S → S
inner_of connection = connection.inner

-- how often it was read
abbrev pub reads_of : {S : Type 0} → Counting S → ℕ
reads_of connection = connection.reads

-- how often a read or a write of it failed
abbrev pub faults_of : {S : Type 0} → Counting S → ℕ
faults_of connection = connection.faults
