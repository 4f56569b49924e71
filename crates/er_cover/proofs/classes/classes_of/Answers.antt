use Rattle.er_cover.proofs.NumberLemmas.{classes_step, firsts_step}
use Rattle.er_cover.proofs.classes.classes_of.Goals as goal

pub loop-race-preserved : goal.loop-race-preserved
loop-race-preserved c = record {
  classes = classes_step c.args.by_race.now c.loop-race.set.keys c.take_in.new.set.keys c.loop-race.race _ c.loop-race-test.true c.loop-race.invariant.classes c.in_ok-take_in.ensures.classes;
  firsts = firsts_step c.args.by_race.now c.loop-race.set.keys c.loop-race.firsts.items c.take_in.new.firsts.items c.loop-race.race _ c.loop-race-test.true c.loop-race.invariant.classes c.loop-race.invariant.firsts c.in_ok-take_in.ensures.firsts;
}
