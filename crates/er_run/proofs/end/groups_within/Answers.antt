use Rattle.std.proofs.Common.{arith}
use Rattle.er_run.proofs.JudgedLemmas.{begun, few_found, found_by_clocks, grouped, tested, over_classes}
use Rattle.er_run.proofs.end.groups_within.Goals as goal

pub group_shards-requires-clause-known : goal.group_shards-requires-clause-known
group_shards-requires-clause-known g c κs within =
    let some = c.requires.some in
    begun c.args.session.now c.clocks.result.now some.list c.clocks.ensures some.stands

pub group_shards-requires-clause-races : goal.group_shards-requires-clause-races
group_shards-requires-clause-races g c κs within =
    let some = c.requires.some in
    found_by_clocks c.args.session.now c.clocks.result.now some.list c.args.races.now c.clocks.ensures some.stands (c.requires.listed some.list some.stands)

pub group_shards-requires-clause-few : goal.group_shards-requires-clause-few
group_shards-requires-clause-few g c κs within =
    let some = c.requires.some in
    few_found c.args.session.now.graph.version c.args.races.now some.list (c.requires.listed some.list some.stands)

pub returns-in-Ok-clause-grouped : goal.returns-in-Ok-clause-grouped
returns-in-Ok-clause-grouped g c = λ h stands.
    grouped c.args.session.now c.clocks.result.now h c.in-Ok.groups c.clocks.ensures stands c.in-Ok.ensures.groups c.in-Ok.ensures.few

pub returns-in-Ok-clause-tested : goal.returns-in-Ok-clause-tested
returns-in-Ok-clause-tested g c = λ h stands.
    (c.group_shards.ensures.rises, tested c.args.session.now c.clocks.result.now h c.args.tests.now c.group_shards.new.tests c.clocks.ensures stands c.group_shards.ensures.bound)

pub returns-in-Err-TooManyClasses-clause-refused : goal.returns-in-Err-TooManyClasses-clause-refused
returns-in-Err-TooManyClasses-clause-refused g c = λ h stands.
    let count = stands.count in
    let many = c.group_shards.ensures.many (rw c.in-Err-TooManyClasses.field-0-is at c.in-Err-TooManyClasses.is) in
    (omega (arith, count, c.next_line.ensures), over_classes c.args.session.now c.clocks.result.now h c.args.races.now c.clocks.ensures stands (c.requires.listed h stands) many)
