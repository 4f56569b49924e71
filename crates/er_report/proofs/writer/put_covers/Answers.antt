use Rattle.std.proofs.Common.{◌<◌, length, refl, rules, ◌∙◌}
use Rattle.er_report.specs.Report.{cover_line}
use Rattle.er_syntax.proofs.BufferedLemmas.{holds_start}
use Rattle.er_syntax.proofs.SequenceLemmas.{line_held, line_part}
use Rattle.er_report.proofs.ReportLemmas.{name_at}
use Rattle.er_report.proofs.writer.put_covers.Goals as goal

pub loop-k-init : goal.loop-k-init
loop-k-init g c = record { came = holds_start _ _; stands = refl }

pub returns-in_err-put_text-clause-part : goal.returns-in_err-put_text-clause-part
returns-in_err-put_text-clause-part g c =
    let names = c.args.groups.now.names in
    let within : c.loop-k.k < length names = rw c.requires at c.loop-k-test.true in
    let here = name_at names c.loop-k.k c.names-group.result within c.names-group.ensures in
    let part = line_part cover_line names c.loop-k.k c.names-group.result _ _ _ _ _ here c.loop-k.invariant.came c.in_err-put_text.ensures.part in
    search rules

pub loop-k-preserved : goal.loop-k-preserved
loop-k-preserved g c =
    let names = c.args.groups.now.names in
    let within : c.loop-k.k < length names = rw c.requires at c.loop-k-test.true in
    let here = name_at names c.loop-k.k c.names-group.result within c.names-group.ensures in
    record {
      came = line_held cover_line names c.loop-k.k c.names-group.result _ _ _ _ _ _ here c.loop-k.invariant.came c.in_ok-put_text.ensures.whole;
      stands = c.in_ok-put_text.ensures.counts.stands ∙ c.loop-k.invariant.stands;
    }
