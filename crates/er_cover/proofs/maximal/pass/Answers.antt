use Rattle.std.proofs.Common.{◌+◌, length, arith}
use Rattle.std.proofs.lemmas.List.Elements.{recursion_from_All}
use Rattle.er_paths.specs.Paths.{joins}
use Rattle.er_cover.specs.Groups.{maximal_of}
use Rattle.er_cover.specs.Passes.{IsKnown}
use Rattle.er_cover.proofs.ClockLemmas.{orders}
use Rattle.er_cover.proofs.PassLemmas.{found_known, found_small, room_kept, step_cost, step_kept, whole_cost}
use Rattle.er_cover.proofs.maximal.pass.Goals as goal

pub consider-requires-clause-known : goal.consider-requires-clause-known
consider-requires-clause-known c = found_known (length c.args.clocks.now) (joins c.args.clocks.now) c.args.classes.now c.loop-class.found.items c.loop-class.class-index c.requires.known c.loop-class.invariant.found

pub consider-requires-clause-few : goal.consider-requires-clause-few
consider-requires-clause-few c = let few = found_small (joins c.args.clocks.now) c.args.classes.now c.loop-class.found.items c.loop-class.class-index c.loop-class.invariant.found in omega (arith, few, c.requires.few)

pub consider-requires-clause-room : goal.consider-requires-clause-room
consider-requires-clause-room c =
    room_kept (joins c.args.clocks.now) c.args.classes.now c.loop-class.found.items c.loop-class.class-index c.args.tests.now c.loop-class.tests c.loop-class.invariant.found c.loop-class-test.true c.requires.few c.requires.room c.loop-class.invariant.bound

pub returns-in_err-consider-clause-bound : goal.returns-in_err-consider-clause-bound
returns-in_err-consider-clause-bound c =
    whole_cost c.args.tests.now c.consider.new.tests (c.loop-class.class-index + 1) (length c.args.classes.now) (length (maximal_of (joins c.args.clocks.now) c.args.classes.now))
    (step_cost (joins c.args.clocks.now) c.args.classes.now c.loop-class.found.items c.loop-class.class-index c.args.tests.now c.loop-class.tests c.consider.new.tests c.loop-class.invariant.found c.loop-class.invariant.bound c.consider.ensures.bound)
    (omega (arith, c.loop-class-test.true))

pub loop-class-preserved : goal.loop-class-preserved
loop-class-preserved c = record {
  found = step_kept (length c.args.clocks.now) (joins c.args.clocks.now) c.args.classes.now c.loop-class.found.items c.consider.new.found.items c.loop-class.class-index _ (orders c.args.clocks.now) (recursion_from_All (IsKnown (length c.args.clocks.now)) c.args.classes.now c.requires.known) c.requires.rising c.requires.distinct c.loop-class-test.true c.loop-class.invariant.found c.in_ok-consider.ensures.kept;
  heads = c.in_ok-consider.ensures.heads;
  leading = c.in_ok-consider.ensures.leading;
  bound = step_cost (joins c.args.clocks.now) c.args.classes.now c.loop-class.found.items c.loop-class.class-index c.args.tests.now c.loop-class.tests c.consider.new.tests c.loop-class.invariant.found c.loop-class.invariant.bound c.consider.ensures.bound;
  rises = omega (arith, c.loop-class.invariant.rises, c.consider.ensures.rises);
}
