use Rattle.std.proofs.Common.{refl}
use Rattle.std.proofs.lemmas.Result.{IfOk-weaker}
use Rattle.er_trace.specs.Trace.{text}
use Rattle.er_trace.specs.declared.version.Version.TheVariants.{One}
use Rattle.er_gen.specs.Generated.{generated}
use Rattle.er_run.proofs.CompleteLemmas.{answered_or_none}
use Rattle.er_run.proofs.modes.serve_generated.Goals as goal

pub answer-requires : goal.answer-requires
answer-requires g c = IfOk-weaker c.judge_generated-verdict.result _ _ (λ judged for. for.is) c.judge_generated-verdict.ensures.judged

pub returns-clause-served : goal.returns-clause-served
returns-clause-served g c = λ left failed_reads.
    let bytes = text One (generated c.args.number) in
    let is = c.judge_generated-verdict.ensures.verdict in
    let judged = c.judge_generated-verdict.ensures.judged in
    record {
      answered = λ answer. record {
        input = bytes;
        taken = (refl, refl);
        given = c.answer.ensures.answered bytes is answer;
        compared = (c.answer.ensures.counted bytes c.args.meters.now c.judge_generated-verdict.new.meters is judged).0;
        tested = (c.answer.ensures.counted bytes c.args.meters.now c.judge_generated-verdict.new.meters is judged).1;
      };
      cut_short = λ is_fault. record { input = bytes; given = c.answer.ensures.cut_short bytes is is_fault; taken = (refl, refl) };
      complete = λ no_read no_write all held. rw held (answered_or_none _ _ _ _ _ c.answer.result (c.answer.ensures.answered bytes is) (λ w. no_write (c.answer.ensures.writes.rose w)) c.answer.ensures.no_usage c.answer.ensures.no_read_fault);
    }
