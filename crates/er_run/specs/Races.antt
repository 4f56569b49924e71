-- Kept accesses, candidates, races, classes and groups. Lists of records stand newest first, all
-- others oldest first.
use Rattle.std.specs.Prelude.{◌+◌, List, [], ◌∷◌, Option, Some}
use Rattle.er_trace.specs.declared.record.Record.{Record}
use Rattle.er_trace.specs.declared.version.Version.{Version}
use Rattle.er_trace.specs.declared.record.Record.TheVariants.{Access}
use Rattle.er_history.specs.History.{Action, Entry, told}
use Rattle.er_history.specs.Rules.{rules}
use Rattle.er_history.specs.Edges.{path}
use Rattle.er_access.specs.Kept.{Kept, access_of, with_access, candidates_of}
use Rattle.er_races.specs.Races.{races_by}
use Rattle.er_cover.specs.declared.class.Class.{Class}
use Rattle.er_cover.specs.Classes.{classes_of}
use Rattle.er_cover.specs.Groups.{groups_of}

-- the access of an entry; the record at place k stands in line k + 2
abbrev pub access_in : Entry → List Kept
access_in entry = by entry.action entry.read
  where
    by : Option Action → Record → List Kept
    by (Some a) (Access m l) = access_of (entry.place + 2) a.number m l ∷ []
    by _ _ = []

-- without those that repeat the action, the location and the mode of an earlier one
abbrev pub without_repeats : List Kept → List Kept → List Kept
without_repeats [] old = old
without_repeats (x ∷ xs) old = with_access x old

abbrev pub kept_of : List Entry → List Kept
kept_of [] = []
kept_of (entry ∷ older) = without_repeats (access_in entry) (kept_of older)

abbrev pub kept : List Record → List Kept
kept h = kept_of (told h).entries

-- the candidate pairs of distinct accesses
abbrev pub candidates : List Record → List (Kept × Kept)
candidates h = candidates_of (kept h)

-- the candidates whose first action has no path to the second
abbrev pub races : Version → List Record → List (Kept × Kept)
races v h = races_by (path (rules v) h) (kept h)

-- the classes of the races
abbrev pub classes : Version → List Record → List Class
classes v h = classes_of (path (rules v) h) (kept h)

-- the classes that no other covers, in the order of their representatives
abbrev pub groups : Version → List Record → List Class
groups v h = groups_of (path (rules v) h) (kept h)
