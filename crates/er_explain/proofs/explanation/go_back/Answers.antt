use Rattle.std.proofs.Common.{arith}
use Rattle.er_history.specs.History.{told}
use Rattle.er_history.specs.Rules.{rules}
use Rattle.er_history.specs.Edges.{edges}
use Rattle.er_pieces.specs.steps.Steps.{rule_of}
use Rattle.er_explain.specs.Steps.{all_shown}
use Rattle.er_explain.proofs.StepLemmas.{back_on, back_end, back_never, earlier_begun}
use Rattle.er_explain.proofs.explanation.go_back.Goals as goal

pub returns-in_default-clause-steps : goal.returns-in_default-clause-steps
returns-in_default-clause-steps c = λ h timed path.
    let lists = edges (rules c.args.version) (told h).actions in
    back_never (rule_of (rules c.args.version) h) lists c.args.from c.args.to c.loop-at.at (all_shown c.loop-at.found.items) c.loop-at-test.true (c.in_default.ensures.found lists timed.clocks) (c.loop-at.invariant.back h timed path)

pub note-requires-clause-begun : goal.note-requires-clause-begun
note-requires-clause-begun c = earlier_begun c.args.page.now c.args.to c.loop-at.at (omega (arith, c.loop-at.invariant.few)) c.requires.begun

pub loop-at-preserved : goal.loop-at-preserved
loop-at-preserved c = record {
  back = λ h timed path.
      let lists = edges (rules c.args.version) (told h).actions in
      back_on (rule_of (rules c.args.version) h) lists c.args.from c.args.to c.loop-at.at c.in-Some.source (all_shown c.loop-at.found.items) (all_shown c.note.new.found.items) c.loop-at-test.true (c.in-Some.ensures.found lists timed.clocks)
      (c.in_ok-note.ensures.noted h timed) (c.loop-at.invariant.back h timed path);
  few = omega (arith, c.loop-at.invariant.few, c.in_ok-note.ensures.one, c.in-Some.ensures.earlier);
}

pub returns-clause-steps : goal.returns-clause-steps
returns-clause-steps c = λ h timed path.
    let lists = edges (rules c.args.version) (told h).actions in
    back_end (rule_of (rules c.args.version) h) lists c.args.from c.args.to c.loop-at.at (all_shown c.loop-at.found.items) c.loop-at-test.false (c.loop-at.invariant.back h timed path)
