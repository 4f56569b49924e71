use Rattle.std.proofs.Common.{None, reverse}
use Rattle.er_trace.specs.Trace.{text}
use Rattle.er_trace.specs.declared.version.Version.TheVariants.{One}
use Rattle.er_lines.specs.Text.{text as text_lines}
use Rattle.er_gen.specs.Generated.{generated}
use Rattle.er_run.specs.Session.{IsSessionOf}
use Rattle.er_run.specs.Reading.{IsReading}
use Rattle.er_run.proofs.AcceptLemmas.{refusal_judged}
use Rattle.er_run.proofs.GeneratedLemmas.{few_generated, generated_read}
use Rattle.er_run.proofs.ReadingLemmas.{reportable, verdict_by}
use Rattle.er_run.proofs.VersionLemmas.{generated_of_version}
use Rattle.er_run.proofs.judge.judge_generated.Goals as goal

pub take_trace-requires-clause-room : goal.take_trace-requires-clause-room
take_trace-requires-clause-room g c = rw c.new-generator.ensures (few_generated c.args.number c.requires.most)

pub take_trace-requires-clause-of_version : goal.take_trace-requires-clause-of_version
take_trace-requires-clause-of_version g c = rw c.new-generator.ensures (generated_of_version c.args.number c.requires.most)

pub returns-in-Ok-clause-verdict : goal.returns-in-Ok-clause-verdict
returns-in-Ok-clause-verdict g c =
    let stands : IsSessionOf c.in-Ok.session (reverse (generated c.args.number)) = rw c.new-generator.ensures at c.in-Ok.ensures.stands in
    let read : IsReading text_lines c.in-Ok.session.graph.version (text One (generated c.args.number)) (generated c.args.number) None = rw c.in-Ok.ensures.version (generated_read c.args.number c.requires.most) in
    verdict_by text_lines c.args.command (text One (generated c.args.number)) (generated c.args.number) c.in-Ok.session c.judge_end.result stands read c.judge_end.ensures.version c.judge_end.ensures.accepted c.judge_end.ensures.refused

pub returns-in-Err-clause-verdict : goal.returns-in-Err-clause-verdict
returns-in-Err-clause-verdict g c =
    let judged = rw c.new-generator.ensures at c.in-Err.ensures.refused in
    refusal_judged text_lines c.args.command One (text One (generated c.args.number)) (generated c.args.number) None c.in-Err.fault (generated_read c.args.number c.requires.most) judged

pub judge_end-requires-clause-some : goal.judge_end-requires-clause-some
judge_end-requires-clause-some g c κs within =
    let stands : IsSessionOf c.in-Ok.session (reverse (generated c.args.number)) = rw c.new-generator.ensures at c.in-Ok.ensures.stands in
    let read : IsReading text_lines c.in-Ok.session.graph.version (text One (generated c.args.number)) (generated c.args.number) None = rw c.in-Ok.ensures.version (generated_read c.args.number c.requires.most) in
    reportable text_lines (text One (generated c.args.number)) (generated c.args.number) c.in-Ok.session None stands read
