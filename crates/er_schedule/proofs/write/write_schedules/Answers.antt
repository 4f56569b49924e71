use Rattle.std.proofs.Common.{◌≡◌, ◌-◌, ◌<◌, arith, length, rules}
use Rattle.er_io.specs.Ends.{Gets, GetsPart}
use Rattle.er_races.specs.declared.race.Race.{Race}
use Rattle.er_report.specs.Fragments.{both_at}
use Rattle.er_schedule.specs.Text.{schedules_of, schedule_text}
use Rattle.er_schedule.proofs.TextLemmas.{race_first, race_second, text_told}
use Rattle.er_schedule.proofs.write.write_schedules.Goals as goal

pub access-first-requires : goal.access-first-requires
access-first-requires g c =
    let d : Race = record { first = 0; second = 0 } in
    race_first c.args.table.now c.args.races.now c.args.number c.args.orders.now (c.args.number - 1) d c.requires.orders (omega (arith, c.requires.first, c.requires.within))

pub access-second-requires : goal.access-second-requires
access-second-requires g c =
    let d : Race = record { first = 0; second = 0 } in
    race_second c.args.table.now c.args.races.now c.args.number c.args.orders.now (c.args.number - 1) d c.requires.orders (omega (arith, c.requires.first, c.requires.within))

pub returns-in_err-put_schedules : goal.returns-in_err-put_schedules
returns-in_err-put_schedules g c = λ lists are.
    let sink = g.K.Sink.got in
    let table = c.args.table.now in
    let k = c.args.number in
    let d : Race = record { first = 0; second = 0 } in
    let below : k - 1 < length c.args.races.now = omega (arith, c.requires.first, c.requires.within) in
    let told : schedules_of k (both_at c.access-first.result c.access-second.result c.location.result.now) c.args.orders.now ≡ schedule_text lists table k =
    text_told lists table c.args.races.now k c.args.orders.now d c.access-first.result c.access-second.result c.location.result.now are c.requires.first below c.location.ensures c.access-second.ensures.known c.access-first.ensures.kept c.access-second.ensures.kept in
    let part : GetsPart (sink c.args.sink.now) (schedule_text lists table k) (sink c.put_schedules.new.sink) = rw told at c.in_err-put_schedules.ensures.part in
    record {
      whole = search rules;
      stands = search rules;
      part = search rules;
      cause = search rules;
      raised = search rules;
      count = search rules;
    }

pub returns : goal.returns
returns g c = λ lists are.
    let sink = g.K.Sink.got in
    let table = c.args.table.now in
    let k = c.args.number in
    let d : Race = record { first = 0; second = 0 } in
    let below : k - 1 < length c.args.races.now = omega (arith, c.requires.first, c.requires.within) in
    let told : schedules_of k (both_at c.access-first.result c.access-second.result c.location.result.now) c.args.orders.now ≡ schedule_text lists table k =
    text_told lists table c.args.races.now k c.args.orders.now d c.access-first.result c.access-second.result c.location.result.now are c.requires.first below c.location.ensures c.access-second.ensures.known c.access-first.ensures.kept c.access-second.ensures.kept in
    let all : Gets (sink c.args.sink.now) (schedule_text lists table k) (sink c.put_schedules.new.sink) = rw told at c.in_ok-put_schedules.ensures.whole in
    record {
      whole = all;
      stands = search rules;
      part = search rules;
      cause = search rules;
      raised = search rules;
      count = search rules;
    }
