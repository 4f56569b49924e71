-- What the clocks tell of the counts and of the report.
use Rattle.std.proofs.Common.{◌≡◌, ℕ, Bool, List, Some, All, length, refl, sym, ap, ◌∙◌}
use Rattle.std.proofs.Math.Path.{fun_ext}
use Rattle.std.proofs.lemmas.List.FromFn.{length-range_with_len}
use Rattle.std.proofs.lemmas.List.{length-map}
use Rattle.std.specs.List.{slice_get, range_with_len}
use Rattle.er_paths.specs.Paths.{joins}
use Rattle.er_paths.specs.links.Chains.{chains}
use Rattle.er_paths.specs.links.Links.{link_count}
use Rattle.er_paths.proofs.links.Links.{length-links, links_have_the_paths}
use Rattle.er_clocks.specs.Clock.{StandsFor}
use Rattle.er_access.specs.Kept.{Kept, candidates_of}
use Rattle.er_races.specs.declared.race.Race.{Race}
use Rattle.er_races.specs.Races.{races_by, races_of, ArePairs, IsWithin}
use Rattle.er_races.proofs.RaceLemmas.{numbers_are_pairs, numbers_within}
use Rattle.er_cover.specs.Classes.{classes_by_race, class_of}
use Rattle.er_cover.specs.Groups.{Grouping, grouping_of, groups_of, name_of, names_by, representative, size_of}
use Rattle.er_report.specs.declared.counts.Counts.{Counts}
use Rattle.er_report.specs.Report.{counts, report, report_of, summary, summary_of}

-- the paths over the kept links are those over each list that the clocks stand for
pub paths_told : (kept lists : List (List ℕ)) → StandsFor kept lists → joins kept ≡ joins lists
paths_told kept lists stands = ap joins stands.are_links ∙ fun_ext (λ i. fun_ext (λ j. links_have_the_paths lists i j))

pub actions_told : (kept lists : List (List ℕ)) → StandsFor kept lists → length kept ≡ length lists
actions_told kept lists stands = ap length stands.are_links ∙ length-links lists

-- the numbers of the races are those of the pairs
pub are_pairs : (joined : ℕ → ℕ → Bool) (accesses : List Kept) (found : List Race) → found ≡ races_of joined accesses → ArePairs accesses found (races_by joined accesses)
are_pairs joined accesses found are = rw are (numbers_are_pairs joined accesses)

pub are_within : (joined : ℕ → ℕ → Bool) (accesses : List Kept) (found : List Race) → found ≡ races_of joined accesses → All (IsWithin accesses) found
are_within joined accesses found are = rw are (numbers_within joined accesses)

as_many : (accesses : List Kept) (found : List Race) (pairs : List (Kept × Kept)) → ArePairs accesses found pairs → length found ≡ length pairs
as_many accesses found pairs are =
    let first = λ (r : Race). slice_get accesses r.first in
    let given = λ (p : Kept × Kept). Some p.0 in
    sym (length-map found first) ∙ ap length are.0 ∙ length-map pairs given

pub races_counted : (joined : ℕ → ℕ → Bool) (accesses : List Kept) (found : List Race) → found ≡ races_of joined accesses → length found ≡ length (races_by joined accesses)
races_counted joined accesses found are = as_many accesses found (races_by joined accesses) (are_pairs joined accesses found are)

pub groups_counted : (joined : ℕ → ℕ → Bool) (accesses : List Kept) (groups : Grouping) → groups ≡ grouping_of joined accesses → length groups.representatives ≡ length (groups_of joined accesses)
groups_counted joined accesses groups is = ap (λ (g : Grouping). length g.representatives) is ∙ length-map (groups_of joined accesses) (representative (classes_by_race joined accesses))

-- each race names a group
pub names_counted : (joined : ℕ → ℕ → Bool) (accesses : List Kept) (found : List Race) (groups : Grouping) → found ≡ races_of joined accesses → groups ≡ grouping_of joined accesses → length groups.names ≡ length found
names_counted joined accesses found groups are is =
    ap (λ (g : Grouping). length g.names) is ∙ length-map (classes_by_race joined accesses) (name_of joined (groups_of joined accesses)) ∙ length-map (races_by joined accesses) class_of ∙ sym (races_counted joined accesses found are)

pub counts_are : (lists : List (List ℕ)) (accesses : List Kept) (a b c d e f g : ℕ) → a ≡ length lists → b ≡ length accesses → c ≡ length (candidates_of accesses)
    → d ≡ length (races_by (joins lists) accesses) → e ≡ length (groups_of (joins lists) accesses) → f ≡ length (chains lists) → g ≡ link_count lists
    → record { actions = a; accesses = b; pairs = c; races = d; groups = e; chains = f; links = g } ≡ counts lists accesses
counts_are lists accesses a b c d e f g actions kept pairs races groups chained linked = rw (actions, kept, pairs, races, groups, chained, linked) refl

-- as many sizes as groups
pub sizes_counted : (joined : ℕ → ℕ → Bool) (accesses : List Kept) (groups : Grouping) → groups ≡ grouping_of joined accesses → length groups.sizes ≡ length groups.representatives
sizes_counted joined accesses groups is =
    let count = length (groups_of joined accesses) in
    let sized = size_of (names_by joined (classes_by_race joined accesses)) in
    ap (λ (g : Grouping). length g.sizes) is ∙ length-map (range_with_len 0 count) sized ∙ length-range_with_len 0 count ∙ sym (groups_counted joined accesses groups is)

-- the report of what is told, whatever list the clocks stand for
pub report_told : (kept lists : List (List ℕ)) (accesses : List Kept) (groups : Grouping) (c : Counts) → StandsFor kept lists → groups ≡ grouping_of (joins kept) accesses → c ≡ counts lists accesses
    → report_of (races_by (joins kept) accesses) groups c ≡ report lists accesses
report_told kept lists accesses groups c stands is counted = rw (is, counted, paths_told kept lists stands) refl

-- and the summary
pub summary_told : (n : ℕ) (kept lists : List (List ℕ)) (accesses : List Kept) (groups : Grouping) (c : Counts) → StandsFor kept lists → groups ≡ grouping_of (joins kept) accesses → c ≡ counts lists accesses
    → summary_of n groups c ≡ summary n lists accesses
summary_told n kept lists accesses groups c stands is counted = rw (is, counted, paths_told kept lists stands) refl
