use Rattle.std.proofs.Common.{refl, sym, ◌∙◌}
use Rattle.er_run.specs.declared.outcome.Outcome.TheVariants.{ReadFault}
use Rattle.er_run.proofs.CompleteLemmas.{complete, only_memory, spent_decided}
use Rattle.er_run.proofs.RunLemmas.{holds_all, no_failure, no_rise, read_input, served_fault}
use Rattle.er_run.proofs.modes.serve_lines.Goals as goal

pub answer-requires : goal.answer-requires
answer-requires g c = c.in-Ok.ensures.judged.is

pub returns-in-Ok-clause-served : goal.returns-in-Ok-clause-served
returns-in-Ok-clause-served g c =
    let f = g.L.Lines.format in
    let asked = c.args.command in
    let a = c.in-Ok.ensures.accepted in
    record {
      answered = λ answer. record {
        input = a.taken;
        taken = read_input f asked _ _ _ _ c.requires.reads a.gave (spent_decided f asked a.taken _ c.answer.result a.spent);
        given = c.answer.ensures.answered a.taken a.accepted answer;
        compared = (c.answer.ensures.counted a.taken c.args.meters.now c.judge_input.new.meters a.accepted c.in-Ok.ensures.judged).0;
        tested = (c.answer.ensures.counted a.taken c.args.meters.now c.judge_input.new.meters a.accepted c.in-Ok.ensures.judged).1;
      };
      cut_short = λ is.
          let given = c.answer.ensures.cut_short a.taken a.accepted is in
          record { input = a.taken; given = given; taken = read_input f asked _ _ _ _ c.requires.reads a.gave (spent_decided f asked a.taken _ given.outcome a.spent) };
      complete = λ no_read no_write bytes held.
          complete f _ bytes a.taken _ _ _ c.answer.result (sym (holds_all asked _ bytes c.requires.reads held) ∙ a.gave) (λ due is. spent_decided f asked a.taken _ c.answer.result a.spent) (c.answer.ensures.answered a.taken a.accepted) (λ w. no_write (c.answer.ensures.writes.rose w)) c.answer.ensures.no_usage c.answer.ensures.no_read_fault;
    }

pub returns-in-Ok-clause-reads : goal.returns-in-Ok-clause-reads
returns-in-Ok-clause-reads g c = no_failure ReadFault c.answer.result _ _ c.answer.ensures.no_read_fault (c.in-Ok.ensures.reads.stands (λ e. cc))

pub returns-in-Ok-clause-unwritten : goal.returns-in-Ok-clause-unwritten
returns-in-Ok-clause-unwritten g c = λ silent. c.answer.ensures.kept (only_memory c.answer.result silent c.answer.ensures.no_usage c.answer.ensures.no_read_fault)

-- a line is refused, or an allocation failed

pub returns-in-Err-Fault-clause-served : goal.returns-in-Err-Fault-clause-served
returns-in-Err-Fault-clause-served g c =
    let answered = c.answer-in-Err-Fault.ensures in
    served_fault g.L.Lines.format g.met.L.Lines.is_format c.args.command _ _ c.args.meters.now c.judge_input.new.meters c.in-Err-Fault.fault c.answer-in-Err-Fault.result c.requires.reads
    (λ n why is. c.in-Err-Fault.ensures.refused n why (cc)) (λ is. answered.no_memory (cc))
    answered.answered (λ bytes is. answered.counted bytes c.args.meters.now c.judge_input.new.meters is tt) answered.cut_short answered.writes.rose answered.no_usage answered.no_read_fault

pub returns-in-Err-Fault-clause-reads : goal.returns-in-Err-Fault-clause-reads
returns-in-Err-Fault-clause-reads g c = no_failure ReadFault c.answer-in-Err-Fault.result _ _ c.answer-in-Err-Fault.ensures.no_read_fault (c.in-Err-Fault.ensures.reads.stands (λ e. cc))

pub returns-in-Err-Fault-clause-unwritten : goal.returns-in-Err-Fault-clause-unwritten
returns-in-Err-Fault-clause-unwritten g c = λ silent. c.answer-in-Err-Fault.ensures.kept (only_memory c.answer-in-Err-Fault.result silent c.answer-in-Err-Fault.ensures.no_usage c.answer-in-Err-Fault.ensures.no_read_fault)

-- a read failed

pub returns-in-Err-Failed-clause-served : goal.returns-in-Err-Failed-clause-served
returns-in-Err-Failed-clause-served g c = record {
  answered = λ answer. absurd answer;
  cut_short = λ is. absurd (cc);
  complete = λ no_read no_write bytes held. absurd (no_rise c.args.command _ _ c.requires.reads no_read (c.in-Err-Failed.ensures.reads.rose (cc)));
}

pub returns-in-Err-Failed-clause-reads : goal.returns-in-Err-Failed-clause-reads
returns-in-Err-Failed-clause-reads g c =
    let reads = c.in-Err-Failed.ensures.reads in
    record { rose = λ is. reads.rose (cc); once = λ is. reads.once (cc); stands = λ other. absurd (other refl); count = reads.count }
