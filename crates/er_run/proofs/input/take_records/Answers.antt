use Rattle.std.proofs.Common.{◌++◌, reverse, arith}
use Rattle.std.proofs.lemmas.Result.{IfErr-weaker, IfOk-weaker}
use Rattle.er_run.proofs.SessionLemmas.{taken_by, of_its_version, still_in, refused_in, no_memory_in, nothing_taken}
use Rattle.er_run.proofs.input.take_records.Goals as goal

pub take_all-requires-clause-some : goal.take_all-requires-clause-some
take_all-requires-clause-some c = record {
  list = c.requires.list;
  stands = taken_by c.begin.new.session c.in-Some.made c.requires.list c.in-Some.is (c.in-Ok.ensures.taken c.requires.list c.requires.taken);
}

pub take_all-requires-clause-room : goal.take_all-requires-clause-room
take_all-requires-clause-room c =
    let stands = taken_by c.begin.new.session c.in-Some.made c.requires.list c.in-Some.is (c.in-Ok.ensures.taken c.requires.list c.requires.taken) in
    omega (arith, c.requires.few, stands.count)

pub take_all-requires-clause-of_version : goal.take_all-requires-clause-of_version
take_all-requires-clause-of_version c = of_its_version c.begin.new.session c.in-Some.made c.args.given c.args.records.now c.in-Some.is c.in-Ok.ensures.version c.requires.of_version

pub returns-in-Some-clause-taken : goal.returns-in-Some-clause-taken
returns-in-Some-clause-taken c = IfOk-weaker c.take_all.result _ _ (λ done taken earlier stands. taken earlier (taken_by c.begin.new.session c.in-Some.made (reverse earlier) c.in-Some.is (c.in-Ok.ensures.taken (reverse earlier) stands))) c.take_all.ensures.taken

pub returns-in-Some-clause-version : goal.returns-in-Some-clause-version
returns-in-Some-clause-version c = IfOk-weaker c.take_all.result _ _ (λ done taken. still_in c.begin.new.session c.in-Some.made c.take_all.new.self c.args.given c.in-Some.is c.in-Ok.ensures.version c.take_all.ensures.version) c.take_all.ensures.taken

pub returns-in-Some-clause-refused : goal.returns-in-Some-clause-refused
returns-in-Some-clause-refused c = IfErr-weaker c.take_all.result _ _ (λ fault refused earlier stands. refused_in c.begin.new.session c.in-Some.made c.args.given (earlier ++ c.args.records.now) fault c.in-Some.is c.in-Ok.ensures.version (refused earlier (taken_by c.begin.new.session c.in-Some.made (reverse earlier) c.in-Some.is (c.in-Ok.ensures.taken (reverse earlier) stands)))) c.take_all.ensures.refused

pub returns-in-None-clause-taken : goal.returns-in-None-clause-taken
returns-in-None-clause-taken c = λ earlier stands. nothing_taken c.begin.new.session c.args.given earlier c.args.records.now c.in-None.is c.in-Ok.ensures.version c.requires.of_version (c.in-Ok.ensures.taken (reverse earlier) stands)

pub returns-in_default-clause-refused : goal.returns-in_default-clause-refused
returns-in_default-clause-refused c = λ earlier stands. no_memory_in c.args.given (earlier ++ c.args.records.now)
