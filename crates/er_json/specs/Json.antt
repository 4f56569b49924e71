-- A report and a refusal as one line of JSON. An object's keys stand in the order of their bytes.
-- The numbers of races and groups begin at 1; the places in lists begin at 0.
use Rattle.std.specs.Prelude.{ℕ, ◌+◌, List, ◌++◌, map, codes}
use Rattle.std.specs.List.{zip}
use Rattle.serde_json.specs.Data.{Data, number, unsigned, string, array, object, item, no_items, member, no_members}
use Rattle.serde_json.specs.View.{items_of}
use Rattle.serde_json.specs.Written.{compact_text}
use Rattle.er_text.specs.Cause.{cause_name}
use Rattle.er_text.specs.declared.causes.Cause.{Cause}
use Rattle.er_trace.specs.Spelling.{mode_word, loc_spelling}
use Rattle.er_trace.specs.Trace.{line}
use Rattle.er_paths.specs.Paths.{joins}
use Rattle.er_access.specs.Kept.{Kept}
use Rattle.er_races.specs.Races.{races_by}
use Rattle.er_cover.specs.Groups.{Grouping, grouping_of}
use Rattle.er_report.specs.declared.counts.Counts.{Counts}
use Rattle.er_report.specs.Report.{counts}

-- the compact text of a value, and an LF
abbrev pub json_line : Data → List ℕ
json_line value = line (compact_text value)

-- a whole number, two of them, and the values of some members
abbrev pub whole : ℕ → Data
whole n = number (unsigned n)

abbrev pub two : ℕ → ℕ → Data
two m n = array (item (whole m) (item (whole n) no_items))

abbrev pub values_of : {A : Type 0} → (A → Data) → List A → Data
values_of value_of xs = array (items_of (map value_of xs))

-- `{"refused":{"cause":CAUSE,"line":LINE}}`
abbrev pub refusal_value : ℕ → Cause → Data
refusal_value n c = object (
    member (codes "refused") (object (
    member (codes "cause") (string (cause_name c))
    (member (codes "line") (whole n)
    no_members)))
    no_members)

unfoldable pub refusal : ℕ → Cause → List ℕ
refusal n c = json_line (refusal_value n c)

-- a race, and the place of the group that it names
abbrev pub race_value : (Kept × Kept) × ℕ → Data
race_value ((a, b), g) = object (
    member (codes "actions") (two a.action b.action)
    (member (codes "group") (whole (g + 1))
    (member (codes "lines") (two a.line b.line)
    (member (codes "location") (string (loc_spelling a.loc))
    (member (codes "modes") (string (mode_word a.mode ++ mode_word b.mode))
    no_members)))))

-- the place of a group's representative, and its size
abbrev pub group_value : ℕ × ℕ → Data
group_value (k, size) =
    object (member (codes "race") (whole (k + 1)) (member (codes "size") (whole size) no_members))

-- the report of these races, groups and counts
abbrev pub value_of : List (Kept × Kept) → Grouping → Counts → Data
value_of races groups c = object (
    member (codes "accesses") (whole c.accesses)
    (member (codes "actions") (whole c.actions)
    (member (codes "chains") (whole c.chains)
    (member (codes "groups") (values_of group_value (zip groups.representatives groups.sizes))
    (member (codes "links") (whole c.links)
    (member (codes "pairs") (whole c.pairs)
    (member (codes "races") (values_of race_value (zip races groups.names))
    (member (codes "version") (whole 1)
    no_members))))))))

-- the report of actions with these predecessors, and of the kept accesses
abbrev pub report_value : List (List ℕ) → List Kept → Data
report_value lists accesses =
    value_of (races_by (joins lists) accesses) (grouping_of (joins lists) accesses)
    (counts lists accesses)

unfoldable pub report : List (List ℕ) → List Kept → List ℕ
report lists accesses = json_line (report_value lists accesses)
