use Rattle.std.proofs.Common.{◌≡◌, ◌<◌, length, arith}
use Rattle.std.proofs.lemmas.Grind.{common_steps}
use Rattle.er_text.proofs.NameLaws.{no_long_name, no_name_at, reads_all, name_word}
use Rattle.er_text.proofs.names.read_name.Goals as goal

pub returns-then-count-eq-MOST_NAME-clause-exact : goal.returns-then-count-eq-MOST_NAME-clause-exact
returns-then-count-eq-MOST_NAME-clause-exact c =
    let some : 0 < length c.loop-rest.rest.now = grind (arith, common_steps, c.is_empty.ensures) in
    λ name is e. no_long_name c.args.word.now c.loop-rest.count c.loop-rest.rest.now name c.loop-rest.invariant.0 c.if-count-eq-MOST_NAME.true some is e

pub returns-in_default-clause-exact : goal.returns-in_default-clause-exact
returns-in_default-clause-exact c =
    let some : 0 < length c.loop-rest.rest.now = grind (arith, common_steps, c.is_empty.ensures) in
    λ name is e. no_name_at c.args.word.now c.loop-rest.count c.loop-rest.rest.now name c.loop-rest.invariant.0 c.in_default.ensures some is e

pub invariant_of-result : goal.invariant_of-result
invariant_of-result c =
    let end : length c.loop-rest.rest.now ≡ 0 = grind (arith, common_steps, c.is_empty.ensures) in
    reads_all c.args.word.now c.loop-rest.count c.loop-rest.rest.now c.loop-rest.invariant.0 end (omega arith) c.loop-rest.invariant.1

pub returns-clause-read : goal.returns-clause-read
returns-clause-read c = name_word c.args.word.now c.loop-rest.count (invariant_of-result c)
