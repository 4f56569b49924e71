use Rattle.std.proofs.Common.{◌≡◌, ◌∙◌, sym}
use Rattle.er_paths.specs.Paths.{joins}
use Rattle.er_races.specs.Races.{races_of}
use Rattle.er_cover.specs.Groups.{grouping_of}
use Rattle.er_report.proofs.CountLemmas.{actions_told, counts_are, groups_counted, names_counted, paths_told, races_counted}
use Rattle.er_report.proofs.counts.count_all.Goals as goal

pub returns-clause-counts : goal.returns-clause-counts
returns-clause-counts c = λ lists stands.
    let table = c.args.table.now in
    let paths = paths_told c.args.clocks.now lists stands in
    let races : c.args.races.now ≡ races_of (joins lists) table = rw paths at c.requires.races in
    let groups : c.args.groups.now ≡ grouping_of (joins lists) table = rw paths at c.requires.groups in
    counts_are lists table _ _ _ _ _ _ _ (c.len.ensures ∙ actions_told c.args.clocks.now lists stands) c.len-2.ensures.count c.pairs.ensures (races_counted (joins lists) table c.args.races.now races)
    (c.count.ensures.count ∙ groups_counted (joins lists) table c.args.groups.now groups) (c.chain_count.ensures lists stands) (c.link_count.ensures lists stands)

pub returns-clause-few : goal.returns-clause-few
returns-clause-few c =
    let named = names_counted (joins c.args.clocks.now) c.args.table.now c.args.races.now c.args.groups.now c.requires.races c.requires.groups in
    rw (sym named) c.count.ensures.few
