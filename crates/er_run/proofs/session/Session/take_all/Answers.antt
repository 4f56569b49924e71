use Rattle.std.proofs.Common.{◌∷◌, ◌∙◌, refl, arith}
use Rattle.er_run.proofs.JudgeLemmas.{stands_first, stands_last, stands_more, fault_at}
use Rattle.er_run.proofs.VersionLemmas.{version_at}
use Rattle.er_run.proofs.session.Session.take_all.Goals as goal

pub loop-at-init : goal.loop-at-init
loop-at-init c = record {
  stands = λ earlier. stands_first _ earlier c.args.records.now;
  version = refl;
  some = c.requires.some;
  count = omega arith;
}

pub loop-at-preserved : goal.loop-at-preserved
loop-at-preserved c = record {
  stands = λ earlier stands. stands_more c.take.new.self earlier c.args.records.now c.loop-at.at c.index-records-at.result c.loop-at-test.true c.index-records-at.is (c.in_default.ensures.taken _ (c.loop-at.invariant.stands earlier stands));
  version = c.take.ensures.version ∙ c.loop-at.invariant.version;
  some = record { list = c.index-records-at.result ∷ c.loop-at.invariant.some.list; stands = c.in_default.ensures.taken _ c.loop-at.invariant.some.stands };
  count =
      let old = c.loop-at.invariant.some.stands.count in
      let new = (c.in_default.ensures.taken _ c.loop-at.invariant.some.stands).count in
      omega (arith, old, new);
}

pub returns-in-Err-clause-refused : goal.returns-in-Err-clause-refused
returns-in-Err-clause-refused c = λ earlier stands.
    let here = c.loop-at.invariant.stands earlier stands in
    rw c.loop-at.invariant.version at (fault_at c.loop-at.self earlier c.args.records.now c.loop-at.at c.index-records-at.result c.in-Err.fault c.loop-at-test.true c.index-records-at.is here (c.in-Err.ensures.refused _ here))

pub returns-clause-taken : goal.returns-clause-taken
returns-clause-taken c = λ earlier stands. stands_last c.loop-at.self earlier c.args.records.now c.loop-at.at (omega arith) (c.loop-at.invariant.stands earlier stands)

pub take-requires-clause-of_version : goal.take-requires-clause-of_version
take-requires-clause-of_version c =
    rw c.loop-at.invariant.version (version_at c.args.self.now.graph.version c.args.records.now c.loop-at.at c.index-records-at.result c.requires.of_version c.loop-at-test.true c.index-records-at.is)
