use Rattle.std.proofs.Common.{◌≡◌, Some, refl, subst, reverse, arith}
use Rattle.std.proofs.lemmas.List.{length-reverse}
use Rattle.er_trace.specs.declared.fault.FeedFault.TheVariants as faults
use Rattle.er_run.specs.Legal.{end_cause_for}
use Rattle.er_run.specs.Accepted.{IsEndFault}
use Rattle.er_run.proofs.AcceptLemmas.{refused_line, refused_end}
use Rattle.er_run.proofs.ReadingLemmas.{as_refused}
use Rattle.er_run.proofs.judge.first_refusal.Goals as goal

pub returns-then-refusal-next_line-clause-refused : goal.returns-then-refusal-next_line-clause-refused
returns-then-refusal-next_line-clause-refused g c = λ n cause is bytes records stands reading.
    let count = stands.count in
    let up_to = c.if-refusal-next_line.true in
    as_refused g.L.Lines.format c.args.command bytes c.args.refusal c.of_line.result n cause c.of_line.ensures is
    (refused_line g.L.Lines.format c.args.command c.args.session.now.graph.version bytes records (Some c.args.refusal) c.args.refusal reading refl stands.legal (λ behind. absurd (omega (arith, behind, up_to, c.next_line.ensures, count, length-reverse records))))

pub returns-in-Err-clause-refused : goal.returns-in-Err-clause-refused
returns-in-Err-clause-refused g c = λ n cause is bytes records stands reading.
    let fault : c.in-Err.fault ≡ faults.Refused n cause = is in
    let limit = subst (IsEndFault (end_cause_for c.args.command c.args.session.now.graph.version (reverse records)) (reverse records)) fault (c.in-Err.ensures.refused (reverse records) stands) in
    let count = stands.count in
    let past = c.if-refusal-next_line.false in
    refused_end g.L.Lines.format c.args.command c.args.session.now.graph.version bytes records (Some c.args.refusal) n cause reading (omega (arith, past, c.next_line.ensures, count, length-reverse records)) stands.legal (omega (arith, limit.0, length-reverse records)) limit.1

pub returns-clause-refused : goal.returns-clause-refused
returns-clause-refused g c = λ n cause is bytes records stands reading.
    let judged = c.in_default.ensures.found (reverse records) stands in
    as_refused g.L.Lines.format c.args.command bytes c.args.refusal c.of_line-2.result n cause c.of_line-2.ensures is
    (refused_line g.L.Lines.format c.args.command c.args.session.now.graph.version bytes records (Some c.args.refusal) c.args.refusal reading refl stands.legal (λ behind. judged.within))
