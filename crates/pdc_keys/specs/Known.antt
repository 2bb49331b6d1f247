-- The names of the keys that are read, of each table of a settings text.
use Rattle.std.specs.Prelude.{ℕ, List, [], ◌∷◌, codes}

-- at the top, of a node and of the merger
abbrev pub top_keys : List (List ℕ)
top_keys =
    codes "id" ∷ codes "rate" ∷ codes "nominal" ∷ codes "time_base" ∷ codes "wait" ∷ codes "wait_kind" ∷ codes "window" ∷ codes "ahead" ∷ codes "lead"
    ∷ codes "layout_every" ∷ codes "out_port" ∷ codes "session_port" ∷ codes "tick" ∷ codes "tick_ms" ∷ codes "address" ∷ codes "outputs" ∷ codes "ttl"
    ∷ codes "receive_buffer" ∷ codes "sessions" ∷ codes "metrics_port" ∷ codes "node" ∷ codes "pmu" ∷ []

-- of a PMU of a node
abbrev pub pmu_keys : List (List ℕ)
pmu_keys = codes "stream" ∷ codes "source" ∷ codes "time_base" ∷ codes "port" ∷ codes "tcp" ∷ codes "commands" ∷ codes "from" ∷ codes "most_count" ∷ []

-- of a node of the merger, and of a PMU there
abbrev pub merged_node_keys : List (List ℕ)
merged_node_keys = codes "id" ∷ codes "time_base" ∷ codes "port" ∷ codes "tcp" ∷ codes "commands" ∷ codes "from" ∷ codes "most_count" ∷ []

abbrev pub merged_pmu_keys : List (List ℕ)
merged_pmu_keys = codes "source" ∷ []
