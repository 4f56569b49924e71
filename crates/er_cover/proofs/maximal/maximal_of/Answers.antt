use Rattle.std.proofs.Common.{length}
use Rattle.er_paths.specs.Paths.{joins}
use Rattle.er_cover.proofs.GroupLemmas.{sorted_known, sorted_distinct, sorted_bound, chosen_maximal, chosen_set}
use Rattle.er_cover.proofs.maximal.maximal_of.Goals as goal

pub pass-requires-clause-known : goal.pass-requires-clause-known
pass-requires-clause-known c = sorted_known (length c.args.clocks.now) c.args.classes.now c.in_ok-sorted.sorted.items c.as_slice.result.now c.in_ok-sorted.ensures.same c.as_slice.ensures.value c.requires.known

pub pass-requires-clause-distinct : goal.pass-requires-clause-distinct
pass-requires-clause-distinct c = sorted_distinct c.args.classes.now c.in_ok-sorted.sorted.items c.as_slice.result.now c.in_ok-sorted.ensures.same c.as_slice.ensures.value c.requires.distinct

pub returns-in_err-found-clause-bound : goal.returns-in_err-found-clause-bound
returns-in_err-found-clause-bound c = sorted_bound (joins c.args.clocks.now) c.args.classes.now c.in_ok-sorted.sorted.items c.as_slice.result.now _ _ c.in_ok-sorted.ensures.same c.in_ok-sorted.ensures.len c.as_slice.ensures.value c.pass.ensures.bound

pub returns-in_err-found_set-clause-bound : goal.returns-in_err-found_set-clause-bound
returns-in_err-found_set-clause-bound c = sorted_bound (joins c.args.clocks.now) c.args.classes.now c.in_ok-sorted.sorted.items c.as_slice.result.now _ _ c.in_ok-sorted.ensures.same c.in_ok-sorted.ensures.len c.as_slice.ensures.value c.pass.ensures.bound

pub returns-in_err-kept-clause-bound : goal.returns-in_err-kept-clause-bound
returns-in_err-kept-clause-bound c = sorted_bound (joins c.args.clocks.now) c.args.classes.now c.in_ok-sorted.sorted.items c.as_slice.result.now _ _ c.in_ok-sorted.ensures.same c.in_ok-sorted.ensures.len c.as_slice.ensures.value c.pass.ensures.bound

pub returns-in_err-groups-clause-bound : goal.returns-in_err-groups-clause-bound
returns-in_err-groups-clause-bound c = sorted_bound (joins c.args.clocks.now) c.args.classes.now c.in_ok-sorted.sorted.items c.as_slice.result.now _ _ c.in_ok-sorted.ensures.same c.in_ok-sorted.ensures.len c.as_slice.ensures.value c.pass.ensures.bound

pub returns-clause-bound : goal.returns-clause-bound
returns-clause-bound c = sorted_bound (joins c.args.clocks.now) c.args.classes.now c.in_ok-sorted.sorted.items c.as_slice.result.now _ _ c.in_ok-sorted.ensures.same c.in_ok-sorted.ensures.len c.as_slice.ensures.value c.pass.ensures.bound

pub returns-clause-maximal : goal.returns-clause-maximal
returns-clause-maximal c = chosen_set (joins c.args.clocks.now) c.args.classes.now c.in_ok-kept.kept.items c.as_slice-3.result.now c.in_ok-groups.groups.keys c.requires.distinct (chosen_maximal (joins c.args.clocks.now) c.args.classes.now c.in_ok-sorted.sorted.items c.as_slice.result.now c.in_ok-found.found.items c.as_slice-2.result.now c.in_ok-found_set.found_set.keys c.in_ok-kept.kept.items c.in_ok-sorted.ensures.same c.as_slice.ensures.value c.in_ok-found.ensures.maximal c.as_slice-2.ensures.value c.in_ok-found_set.ensures c.in_ok-kept.ensures) c.as_slice-3.ensures.value c.in_ok-groups.ensures
