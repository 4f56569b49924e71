-- What version 1 orders, each version orders. Lists of records stand newest first, lists of
-- accesses oldest first.
use Rattle.std.specs.Prelude.{◌≡◌, ℕ, true, not, List, filter}
use Rattle.er_trace.specs.declared.record.Record.{Record}
use Rattle.er_trace.specs.declared.version.Version.{Version}
use Rattle.er_trace.specs.declared.version.Version.TheVariants.{One}
use Rattle.er_history.specs.History.{Action, told}
use Rattle.er_history.specs.Rules.{rules}
use Rattle.er_history.specs.Edges.{edge, path}
use Rattle.er_history.specs.Laws.{Among}
use Rattle.er_access.specs.Kept.{Kept}
use Rattle.er_races.specs.Races.{races_by}

-- An edge of version 1 remains in each version.
abbrev pub EdgesRemain : Type 0
EdgesRemain = (v : Version) (h : List Record) (a b : Action)
    → Among a (told h).actions → Among b (told h).actions
    → edge (rules One) (path (rules One) h) a b ≡ true
    → edge (rules v) (path (rules v) h) a b ≡ true

-- So does a path.
abbrev pub PathsRemain : Type 0
PathsRemain = (v : Version) (h : List Record) (i j : ℕ)
    → path (rules One) h i j ≡ true → path (rules v) h i j ≡ true

-- the pairs of accesses between whose actions the version has no path
abbrev pub unordered_in : Version → List Record → List (Kept × Kept) → List (Kept × Kept)
unordered_in v h pairs = filter (λ p. not (path (rules v) h p.0.action p.1.action)) pairs

-- Among any kept accesses, the races of a version are those of version 1 that it leaves unordered.
abbrev pub RacesAreOfVersionOne : Type 0
RacesAreOfVersionOne = (v : Version) (h : List Record) (accesses : List Kept)
    → races_by (path (rules v) h) accesses
    ≡ unordered_in v h (races_by (path (rules One) h) accesses)
