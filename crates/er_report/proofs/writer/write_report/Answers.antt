use Rattle.std.proofs.Common.{◌≡◌, rules}
use Rattle.er_paths.specs.Paths.{joins}
use Rattle.er_io.specs.Ends.{Gets, GetsPart}
use Rattle.er_races.specs.Races.{races_by}
use Rattle.er_report.specs.Report.{report, report_of}
use Rattle.er_report.proofs.CountLemmas.{are_pairs, are_within, names_counted, report_told, sizes_counted}
use Rattle.er_report.proofs.writer.write_report.Goals as goal

pub put_report-requires-clause-within : goal.put_report-requires-clause-within
put_report-requires-clause-within g c = are_within (joins c.args.clocks.now) c.args.table.now c.args.races.now c.requires.races

pub put_report-requires-clause-names : goal.put_report-requires-clause-names
put_report-requires-clause-names g c = names_counted (joins c.args.clocks.now) c.args.table.now c.args.races.now c.args.groups.now c.requires.races c.requires.groups

pub put_report-requires-clause-sizes : goal.put_report-requires-clause-sizes
put_report-requires-clause-sizes g c = sizes_counted (joins c.args.clocks.now) c.args.table.now c.args.groups.now c.requires.groups

pub returns-in_err-put_report : goal.returns-in_err-put_report
returns-in_err-put_report g c = λ lists stands.
    let sink = g.K.Sink.got in
    let joined = joins c.args.clocks.now in
    let table = c.args.table.now in
    let pairs = races_by joined table in
    let told : report_of pairs c.args.groups.now c.count_all-counts.result ≡ report lists table = report_told c.args.clocks.now lists table c.args.groups.now c.count_all-counts.result stands c.requires.groups (c.count_all-counts.ensures.counts lists stands) in
    let part : GetsPart (sink c.args.sink.now) (report lists table) (sink c.put_report.new.sink) = rw told at (c.in_err-put_report.ensures.part pairs (are_pairs joined table c.args.races.now c.requires.races)) in
    record {
      whole = search rules;
      stands = search rules;
      part = search rules;
      cause = search rules;
      raised = search rules;
      count = search rules;
    }

pub returns : goal.returns
returns g c = λ lists stands.
    let sink = g.K.Sink.got in
    let joined = joins c.args.clocks.now in
    let table = c.args.table.now in
    let pairs = races_by joined table in
    let told : report_of pairs c.args.groups.now c.count_all-counts.result ≡ report lists table = report_told c.args.clocks.now lists table c.args.groups.now c.count_all-counts.result stands c.requires.groups (c.count_all-counts.ensures.counts lists stands) in
    let all : Gets (sink c.args.sink.now) (report lists table) (sink c.put_report.new.sink) = rw told at (c.in_ok-put_report.ensures.whole pairs (are_pairs joined table c.args.races.now c.requires.races)) in
    record {
      whole = all;
      stands = search rules;
      part = search rules;
      cause = search rules;
      raised = search rules;
      count = search rules;
    }
