use Rattle.std.proofs.Common.{◌++◌, rules}
use Rattle.std.proofs.lemmas.Result.{on_ok_weaker, on_err_weaker}
use Rattle.er_io.specs.Ends.{GetsPart}
use Rattle.er_syntax.specs.Buffered.{HoldsRest}
use Rattle.er_report.specs.Report.{opening_line, race_lines, cover_lines, group_lines, closing_lines, report_of}
use Rattle.er_syntax.proofs.BufferedLemmas.{all_came, part_came}
use Rattle.er_syntax.proofs.SequenceLemmas.{five_held, second_part, third_part, fourth_part, fifth_part}
use Rattle.er_report.proofs.writer.put_report.Goals as goal

pub returns-in_err-put_races-clause-part : goal.returns-in_err-put_races-clause-part
returns-in_err-put_races-clause-part g c = λ pairs are.
    let sink = g.K.Sink.got in
    let part : GetsPart (sink c.args.sink.now) (report_of pairs c.args.groups.now c.args.counts.now) (sink c.put_races.new.sink) =
    second_part _ _ _ _ _ opening_line (race_lines pairs) (cover_lines c.args.groups.now) (group_lines c.args.groups.now) (closing_lines c.args.counts.now) c.new-buffer.ensures c.in_ok-put_text.ensures.whole (c.in_err-put_races.ensures.part pairs are) in
    search rules

pub returns-in_err-put_covers-clause-part : goal.returns-in_err-put_covers-clause-part
returns-in_err-put_covers-clause-part g c = λ pairs are.
    let sink = g.K.Sink.got in
    let part : GetsPart (sink c.args.sink.now) (report_of pairs c.args.groups.now c.args.counts.now) (sink c.put_covers.new.sink) =
    third_part _ _ _ _ _ _ _ opening_line (race_lines pairs) (cover_lines c.args.groups.now) (group_lines c.args.groups.now) (closing_lines c.args.counts.now) c.new-buffer.ensures c.in_ok-put_text.ensures.whole (c.in_ok-put_races.ensures.whole pairs are) c.in_err-put_covers.ensures.part in
    search rules

pub returns-in_err-put_groups-clause-part : goal.returns-in_err-put_groups-clause-part
returns-in_err-put_groups-clause-part g c = λ pairs are.
    let sink = g.K.Sink.got in
    let part : GetsPart (sink c.args.sink.now) (report_of pairs c.args.groups.now c.args.counts.now) (sink c.put_groups.new.sink) =
    fourth_part _ _ _ _ _ _ _ _ _ opening_line (race_lines pairs) (cover_lines c.args.groups.now) (group_lines c.args.groups.now) (closing_lines c.args.counts.now) c.new-buffer.ensures c.in_ok-put_text.ensures.whole (c.in_ok-put_races.ensures.whole pairs are) c.in_ok-put_covers.ensures.whole c.in_err-put_groups.ensures.part in
    search rules

pub returns-in_err-put_text-2-clause-part : goal.returns-in_err-put_text-2-clause-part
returns-in_err-put_text-2-clause-part g c = λ pairs are.
    let sink = g.K.Sink.got in
    let part : GetsPart (sink c.args.sink.now) (report_of pairs c.args.groups.now c.args.counts.now) (sink c.put_text-2.new.sink) =
    fifth_part _ _ _ _ _ _ _ _ _ _ _ opening_line (race_lines pairs) (cover_lines c.args.groups.now) (group_lines c.args.groups.now) (closing_lines c.args.counts.now) c.new-buffer.ensures c.in_ok-put_text.ensures.whole (c.in_ok-put_races.ensures.whole pairs are) c.in_ok-put_covers.ensures.whole c.in_ok-put_groups.ensures.whole c.in_err-put_text-2.ensures.part in
    search rules

pub returns-clause-whole : goal.returns-clause-whole
returns-clause-whole g c = λ pairs are.
    let sink = g.K.Sink.got in
    let held : HoldsRest (sink c.args.sink.now) (c.new-buffer.result ++ report_of pairs c.args.groups.now c.args.counts.now) (sink c.put_text-2.new.sink) c.put_text-2.new.buffer =
    five_held _ _ _ _ _ _ _ _ _ _ _ _ opening_line (race_lines pairs) (cover_lines c.args.groups.now) (group_lines c.args.groups.now) (closing_lines c.args.counts.now) c.in_ok-put_text.ensures.whole (c.in_ok-put_races.ensures.whole pairs are) c.in_ok-put_covers.ensures.whole c.in_ok-put_groups.ensures.whole c.in_ok-put_text-2.ensures.whole in
    on_ok_weaker c.flush.result (λ more. all_came _ _ _ _ _ _ c.new-buffer.ensures held more) c.flush.ensures.puts.whole

pub returns-clause-part : goal.returns-clause-part
returns-clause-part g c = λ pairs are.
    let sink = g.K.Sink.got in
    let held : HoldsRest (sink c.args.sink.now) (c.new-buffer.result ++ report_of pairs c.args.groups.now c.args.counts.now) (sink c.put_text-2.new.sink) c.put_text-2.new.buffer =
    five_held _ _ _ _ _ _ _ _ _ _ _ _ opening_line (race_lines pairs) (cover_lines c.args.groups.now) (group_lines c.args.groups.now) (closing_lines c.args.counts.now) c.in_ok-put_text.ensures.whole (c.in_ok-put_races.ensures.whole pairs are) c.in_ok-put_covers.ensures.whole c.in_ok-put_groups.ensures.whole c.in_ok-put_text-2.ensures.whole in
    on_err_weaker c.flush.result (λ more. part_came _ _ _ _ _ _ c.new-buffer.ensures held more) c.flush.ensures.puts.part
