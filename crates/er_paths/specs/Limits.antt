-- A limit that both the naming of records and the clocks keep.
use Rattle.std.specs.Prelude.{ℕ}

-- how many actions there may be: as many lists of predecessors
abbrev pub most_actions : ℕ
most_actions = 32768
