use Rattle.std.proofs.Common.{◌≡◌, rules}
use Rattle.er_paths.specs.Paths.{joins}
use Rattle.er_io.specs.Ends.{Gets, GetsPart}
use Rattle.er_report.specs.Report.{summary, summary_of}
use Rattle.er_report.proofs.CountLemmas.{sizes_counted, summary_told}
use Rattle.er_report.proofs.summary.write_summary.Goals as goal

pub put_summary-requires : goal.put_summary-requires
put_summary-requires g c = sizes_counted (joins c.args.clocks.now) c.args.table.now c.args.groups.now c.requires.groups

pub returns-in_err-put_summary : goal.returns-in_err-put_summary
returns-in_err-put_summary g c = λ lists stands.
    let sink = g.K.Sink.got in
    let table = c.args.table.now in
    let n = c.args.number in
    let told : summary_of n c.args.groups.now c.count_all-counts.result ≡ summary n lists table = summary_told n c.args.clocks.now lists table c.args.groups.now c.count_all-counts.result stands c.requires.groups (c.count_all-counts.ensures.counts lists stands) in
    let part : GetsPart (sink c.args.sink.now) (summary n lists table) (sink c.put_summary.new.sink) = rw told at c.in_err-put_summary.ensures.part in
    record {
      whole = search rules;
      stands = search rules;
      part = search rules;
      cause = search rules;
      raised = search rules;
      count = search rules;
    }

pub returns : goal.returns
returns g c = λ lists stands.
    let sink = g.K.Sink.got in
    let table = c.args.table.now in
    let n = c.args.number in
    let told : summary_of n c.args.groups.now c.count_all-counts.result ≡ summary n lists table = summary_told n c.args.clocks.now lists table c.args.groups.now c.count_all-counts.result stands c.requires.groups (c.count_all-counts.ensures.counts lists stands) in
    let all : Gets (sink c.args.sink.now) (summary n lists table) (sink c.put_summary.new.sink) = rw told at c.in_ok-put_summary.ensures.whole in
    record {
      whole = all;
      stands = search rules;
      part = search rules;
      cause = search rules;
      raised = search rules;
      count = search rules;
    }
