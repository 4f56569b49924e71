use Rattle.std.proofs.Common.{refl, rules, ◌∙◌}
use Rattle.er_explain.specs.Steps.{shown}
use Rattle.er_explain.specs.Text.{step_line}
use Rattle.er_syntax.proofs.BufferedLemmas.{holds_start}
use Rattle.er_syntax.proofs.SequenceLemmas.{line_held, line_part}
use Rattle.er_explain.proofs.write.put_steps.Goals as goal

pub loop-k-init : goal.loop-k-init
loop-k-init g c = record { came = holds_start _ _; stands = refl }

pub returns-in_err-put_text-clause-part : goal.returns-in_err-put_text-clause-part
returns-in_err-put_text-clause-part g c =
    let part = line_part step_line c.args.steps.now c.loop-k.k (shown c.step-step.result) _ _ _ _ _ c.step-step.ensures c.loop-k.invariant.came c.in_err-put_text.ensures.part in
    search rules

pub loop-k-preserved : goal.loop-k-preserved
loop-k-preserved g c = record {
  came = line_held step_line c.args.steps.now c.loop-k.k (shown c.step-step.result) _ _ _ _ _ _ c.step-step.ensures c.loop-k.invariant.came c.in_ok-put_text.ensures.whole;
  stands = c.in_ok-put_text.ensures.counts.stands ∙ c.loop-k.invariant.stands;
}
