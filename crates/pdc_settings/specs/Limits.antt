-- The limits of what is said of the network, and what holds where a key is left out.
use Rattle.std.specs.Prelude.{ℕ}

-- the most destinations of a frame beside the loopback
abbrev pub MAX_OUTPUTS : ℕ
MAX_OUTPUTS = 8

-- the greatest number of hops of a frame to a group of receivers, and the usual one
abbrev pub MAX_TTL : ℕ
MAX_TTL = 255

abbrev pub TTL : ℕ
TTL = 1

-- the largest buffer of a port that can be asked for, in bytes, and the usual one
abbrev pub MAX_RECEIVE_BUFFER : ℕ
MAX_RECEIVE_BUFFER = 1073741824

abbrev pub RECEIVE_BUFFER : ℕ
RECEIVE_BUFFER = 4194304

-- the most consumers that are served at once, and how many usually are
abbrev pub MAX_SESSIONS : ℕ
MAX_SESSIONS = 64

abbrev pub SESSIONS : ℕ
SESSIONS = 8
