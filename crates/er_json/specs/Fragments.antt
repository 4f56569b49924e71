-- The fragments in which a line is written, for private clauses. That they make the line is proved
-- (`proofs/LineLemmas.antt`).
use Rattle.std.specs.Prelude.{ℕ, List, ◌++◌, nat_lt, decimal, codes}
use Rattle.std.specs.List.{zip}
use Rattle.serde_json.specs.Data.{Data}
use Rattle.serde_json.specs.Written.{comma_if, compact_text}
use Rattle.er_access.specs.Kept.{Kept}
use Rattle.er_cover.specs.Groups.{Grouping}
use Rattle.er_syntax.specs.Lines.{lines_from}
use Rattle.er_report.specs.declared.counts.Counts.{Counts}
use Rattle.er_json.specs.Json.{race_value, group_value}

-- a member of an array, by its number from 1
abbrev pub item_text : ℕ → Data → List ℕ
item_text k value = comma_if (nat_lt 1 k) ++ compact_text value

unfoldable pub group_item : ℕ → ℕ × ℕ → List ℕ
group_item k group = item_text k (group_value group)

unfoldable pub race_item : ℕ → (Kept × Kept) × ℕ → List ℕ
race_item k race = item_text k (race_value race)

abbrev pub group_items : Grouping → List ℕ
group_items groups = lines_from group_item 1 (zip groups.representatives groups.sizes)

abbrev pub race_items : List (Kept × Kept) → Grouping → List ℕ
race_items races groups = lines_from race_item 1 (zip races groups.names)

unfoldable pub before_groups : Counts → List ℕ
before_groups c =
    codes "{\"accesses\":" ++ (decimal c.accesses
    ++ (codes ",\"actions\":" ++ (decimal c.actions
    ++ (codes ",\"chains\":" ++ (decimal c.chains
    ++ codes ",\"groups\":[")))))

unfoldable pub before_races : Counts → List ℕ
before_races c = codes "],\"links\":"
    ++ (decimal c.links ++ (codes ",\"pairs\":" ++ (decimal c.pairs ++ codes ",\"races\":[")))

unfoldable pub after_races : List ℕ
after_races = codes "],\"version\":1}\n"

-- the line of these races, groups and counts
abbrev pub fragments_of : List (Kept × Kept) → Grouping → Counts → List ℕ
fragments_of races groups c = before_groups c ++ group_items groups ++ before_races c
    ++ race_items races groups ++ after_races
