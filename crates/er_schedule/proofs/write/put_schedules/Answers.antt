use Rattle.std.proofs.Common.{◌++◌, rules, codes}
use Rattle.std.proofs.lemmas.Result.{on_ok_weaker, on_err_weaker}
use Rattle.er_io.specs.Ends.{GetsPart}
use Rattle.er_syntax.specs.Buffered.{HoldsRest}
use Rattle.er_report.specs.Fragments.{both_at}
use Rattle.er_report.specs.Report.{race_line}
use Rattle.er_syntax.proofs.BufferedLemmas.{all_came, part_came}
use Rattle.er_syntax.proofs.SequenceLemmas.{five_held, second_part, third_part, fourth_part, fifth_part}
use Rattle.er_schedule.specs.Text.{opening_line, order_lines, end_line, schedules_of}
use Rattle.er_schedule.proofs.write.put_schedules.Goals as goal

pub returns-in_err-put_text-2-clause-part : goal.returns-in_err-put_text-2-clause-part
returns-in_err-put_text-2-clause-part g c =
    let sink = g.K.Sink.got in
    let part : GetsPart (sink c.args.sink.now) (schedules_of c.args.race.now.number (both_at c.args.race.now.first c.args.race.now.second c.args.race.now.loc.now) c.args.orders.now) (sink c.put_text-2.new.sink) =
    second_part _ _ _ _ _ opening_line (race_line c.args.race.now.number (both_at c.args.race.now.first c.args.race.now.second c.args.race.now.loc.now)) (order_lines (codes "first") c.args.orders.now.first) (order_lines (codes "second") c.args.orders.now.second) end_line c.new-buffer.ensures c.in_ok-put_text.ensures.whole c.in_err-put_text-2.ensures.part in
    search rules

pub returns-in_err-put_order-clause-part : goal.returns-in_err-put_order-clause-part
returns-in_err-put_order-clause-part g c =
    let sink = g.K.Sink.got in
    let part : GetsPart (sink c.args.sink.now) (schedules_of c.args.race.now.number (both_at c.args.race.now.first c.args.race.now.second c.args.race.now.loc.now) c.args.orders.now) (sink c.put_order.new.sink) =
    third_part _ _ _ _ _ _ _ opening_line (race_line c.args.race.now.number (both_at c.args.race.now.first c.args.race.now.second c.args.race.now.loc.now)) (order_lines (codes "first") c.args.orders.now.first) (order_lines (codes "second") c.args.orders.now.second) end_line c.new-buffer.ensures c.in_ok-put_text.ensures.whole c.in_ok-put_text-2.ensures.whole (rw c.first.ensures at c.in_err-put_order.ensures.part) in
    search rules

pub returns-in_err-put_order-2-clause-part : goal.returns-in_err-put_order-2-clause-part
returns-in_err-put_order-2-clause-part g c =
    let sink = g.K.Sink.got in
    let part : GetsPart (sink c.args.sink.now) (schedules_of c.args.race.now.number (both_at c.args.race.now.first c.args.race.now.second c.args.race.now.loc.now) c.args.orders.now) (sink c.put_order-2.new.sink) =
    fourth_part _ _ _ _ _ _ _ _ _ opening_line (race_line c.args.race.now.number (both_at c.args.race.now.first c.args.race.now.second c.args.race.now.loc.now)) (order_lines (codes "first") c.args.orders.now.first) (order_lines (codes "second") c.args.orders.now.second) end_line c.new-buffer.ensures c.in_ok-put_text.ensures.whole c.in_ok-put_text-2.ensures.whole (rw c.first.ensures at c.in_ok-put_order.ensures.whole) (rw c.second.ensures at c.in_err-put_order-2.ensures.part) in
    search rules

pub returns-in_err-put_text-3-clause-part : goal.returns-in_err-put_text-3-clause-part
returns-in_err-put_text-3-clause-part g c =
    let sink = g.K.Sink.got in
    let part : GetsPart (sink c.args.sink.now) (schedules_of c.args.race.now.number (both_at c.args.race.now.first c.args.race.now.second c.args.race.now.loc.now) c.args.orders.now) (sink c.put_text-3.new.sink) =
    fifth_part _ _ _ _ _ _ _ _ _ _ _ opening_line (race_line c.args.race.now.number (both_at c.args.race.now.first c.args.race.now.second c.args.race.now.loc.now)) (order_lines (codes "first") c.args.orders.now.first) (order_lines (codes "second") c.args.orders.now.second) end_line c.new-buffer.ensures c.in_ok-put_text.ensures.whole c.in_ok-put_text-2.ensures.whole (rw c.first.ensures at c.in_ok-put_order.ensures.whole) (rw c.second.ensures at c.in_ok-put_order-2.ensures.whole) c.in_err-put_text-3.ensures.part in
    search rules

pub returns-clause-whole : goal.returns-clause-whole
returns-clause-whole g c =
    let sink = g.K.Sink.got in
    let held : HoldsRest (sink c.args.sink.now) (c.new-buffer.result ++ schedules_of c.args.race.now.number (both_at c.args.race.now.first c.args.race.now.second c.args.race.now.loc.now) c.args.orders.now) (sink c.put_text-3.new.sink) c.put_text-3.new.buffer =
    five_held _ _ _ _ _ _ _ _ _ _ _ _ opening_line (race_line c.args.race.now.number (both_at c.args.race.now.first c.args.race.now.second c.args.race.now.loc.now)) (order_lines (codes "first") c.args.orders.now.first) (order_lines (codes "second") c.args.orders.now.second) end_line c.in_ok-put_text.ensures.whole c.in_ok-put_text-2.ensures.whole (rw c.first.ensures at c.in_ok-put_order.ensures.whole) (rw c.second.ensures at c.in_ok-put_order-2.ensures.whole) c.in_ok-put_text-3.ensures.whole in
    on_ok_weaker c.flush.result (λ more. all_came _ _ _ _ _ _ c.new-buffer.ensures held more) c.flush.ensures.puts.whole

pub returns-clause-part : goal.returns-clause-part
returns-clause-part g c =
    let sink = g.K.Sink.got in
    let held : HoldsRest (sink c.args.sink.now) (c.new-buffer.result ++ schedules_of c.args.race.now.number (both_at c.args.race.now.first c.args.race.now.second c.args.race.now.loc.now) c.args.orders.now) (sink c.put_text-3.new.sink) c.put_text-3.new.buffer =
    five_held _ _ _ _ _ _ _ _ _ _ _ _ opening_line (race_line c.args.race.now.number (both_at c.args.race.now.first c.args.race.now.second c.args.race.now.loc.now)) (order_lines (codes "first") c.args.orders.now.first) (order_lines (codes "second") c.args.orders.now.second) end_line c.in_ok-put_text.ensures.whole c.in_ok-put_text-2.ensures.whole (rw c.first.ensures at c.in_ok-put_order.ensures.whole) (rw c.second.ensures at c.in_ok-put_order-2.ensures.whole) c.in_ok-put_text-3.ensures.whole in
    on_err_weaker c.flush.result (λ more. part_came _ _ _ _ _ _ c.new-buffer.ensures held more) c.flush.ensures.puts.part
