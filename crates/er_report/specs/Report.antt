-- The text of a report, of a summary, and of a refusal. Lists of predecessors stand newest first,
-- all others oldest first.
-- Its numbers of races and groups begin at 1; the places in lists begin at 0.
use Rattle.std.specs.Prelude.{ℕ, ◌+◌, List, [], ◌∷◌, ◌++◌, length, codes}
use Rattle.std.specs.List.{zip}
use Rattle.er_text.specs.Cause.{cause_name}
use Rattle.er_text.specs.declared.causes.Cause.{Cause}
use Rattle.er_trace.specs.Items.{Word, Number}
use Rattle.er_trace.specs.Spelling.{mode_word, loc_items}
use Rattle.er_trace.specs.Trace.{line}
use Rattle.er_paths.specs.Paths.{joins}
use Rattle.er_paths.specs.links.Chains.{chains}
use Rattle.er_paths.specs.links.Links.{link_count}
use Rattle.er_access.specs.Kept.{Kept, candidates_of}
use Rattle.er_races.specs.Races.{races_by}
use Rattle.er_cover.specs.Groups.{Grouping, grouping_of, groups_of}
pub use Rattle.er_syntax.specs.Lines.{item_line, lines_from, count_line}
use Rattle.er_report.specs.declared.counts.Counts.{Counts}

-- `race K LINE LINE MODES ACTION ACTION LOC`
abbrev pub race_line : ℕ → Kept × Kept → List ℕ
race_line k (a, b) = item_line (
    Word (codes "race") ∷ Number k ∷ Number a.line ∷ Number b.line
    ∷ Word (mode_word a.mode ++ mode_word b.mode) ∷ Number a.action ∷ Number b.action
    ∷ loc_items a.loc)

-- `cover K G`, for the group at place g
abbrev pub cover_line : ℕ → ℕ → List ℕ
cover_line k g = item_line (Word (codes "cover") ∷ Number k ∷ Number (g + 1) ∷ [])

-- `group G K SIZE`, for the representative at place k
abbrev pub group_line : ℕ → ℕ × ℕ → List ℕ
group_line g (k, size) =
    item_line (Word (codes "group") ∷ Number g ∷ Number (k + 1) ∷ Number size ∷ [])

abbrev pub race_lines : List (Kept × Kept) → List ℕ
race_lines races = lines_from race_line 1 races

abbrev pub cover_lines : Grouping → List ℕ
cover_lines groups = lines_from cover_line 1 groups.names

abbrev pub group_lines : Grouping → List ℕ
group_lines groups = lines_from group_line 1 (zip groups.representatives groups.sizes)

-- `report 1`
abbrev pub opening_line : List ℕ
opening_line = count_line (codes "report") 1

-- the lines behind those of the groups
abbrev pub closing_lines : Counts → List ℕ
closing_lines c = count_line (codes "actions") c.actions ++ count_line (codes "accesses") c.accesses
    ++ count_line (codes "pairs") c.pairs ++ count_line (codes "races") c.races
    ++ count_line (codes "groups") c.groups ++ count_line (codes "chains") c.chains
    ++ count_line (codes "links") c.links ++ line (codes "end")

-- the report of these races, groups and counts
abbrev pub report_of : List (Kept × Kept) → Grouping → Counts → List ℕ
report_of races groups c =
    opening_line ++ race_lines races ++ cover_lines groups ++ group_lines groups ++ closing_lines c

-- the counts of actions with these predecessors, and of the kept accesses
abbrev pub counts : List (List ℕ) → List Kept → Counts
counts lists accesses = record {
  actions = length lists;
  accesses = length accesses;
  pairs = length (candidates_of accesses);
  races = length (races_by (joins lists) accesses);
  groups = length (groups_of (joins lists) accesses);
  chains = length (chains lists);
  links = link_count lists;
}

-- the report of actions with these predecessors, and of the kept accesses
abbrev pub report : List (List ℕ) → List Kept → List ℕ
report lists accesses =
    report_of (races_by (joins lists) accesses) (grouping_of (joins lists) accesses)
    (counts lists accesses)

-- `generated N`, then what a report says of these groups and counts
abbrev pub summary_of : ℕ → Grouping → Counts → List ℕ
summary_of n groups c = count_line (codes "generated") n ++ group_lines groups ++ closing_lines c

-- the summary of n, of actions with these predecessors, and of the kept accesses
abbrev pub summary : ℕ → List (List ℕ) → List Kept → List ℕ
summary n lists accesses = summary_of n (grouping_of (joins lists) accesses) (counts lists accesses)

-- `refused LINE CAUSE`
abbrev pub refusal : ℕ → Cause → List ℕ
refusal n c = item_line (Word (codes "refused") ∷ Number n ∷ Word (cause_name c) ∷ [])
