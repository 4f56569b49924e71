use Rattle.std.proofs.Common.{arith}
use Rattle.er_run.proofs.JudgedLemmas.{begun, listed, over_races}
use Rattle.er_run.proofs.end.races_within.Goals as goal

pub list_shards-requires-clause-known : goal.list_shards-requires-clause-known
list_shards-requires-clause-known g c κs within = begun c.args.session.now c.clocks.result.now c.requires.some.list c.clocks.ensures c.requires.some.stands

pub returns-in-Ok-clause-listed : goal.returns-in-Ok-clause-listed
returns-in-Ok-clause-listed g c = λ h stands.
    listed c.args.session.now c.clocks.result.now h c.in-Ok.races.items c.pairs.result c.clocks.ensures stands c.pairs.ensures c.if-pairs-gt-MOST_PAIRS.false c.in-Ok.ensures.races c.in-Ok.ensures.few

pub returns-in-Err-TooManyRaces-clause-refused : goal.returns-in-Err-TooManyRaces-clause-refused
returns-in-Err-TooManyRaces-clause-refused g c = λ h stands other.
    let count = stands.count in
    let many = c.list_shards.ensures.many (rw c.in-Err-TooManyRaces.field-0-is at c.in-Err-TooManyRaces.is) in
    (omega (arith, count, c.next_line-line.ensures), over_races c.args.session.now c.clocks.result.now h c.pairs.result other c.clocks.ensures stands c.pairs.ensures c.if-pairs-gt-MOST_PAIRS.false many)
