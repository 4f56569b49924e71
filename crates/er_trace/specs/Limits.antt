-- Limits of what comes of a trace, which crates name that know nothing of each other.
use Rattle.std.specs.Prelude.{ℕ}

-- the most races that are listed
abbrev pub most_races : ℕ
most_races = 262144

-- the most shards
abbrev pub most_shards : ℕ
most_shards = 64
