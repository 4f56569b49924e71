use Rattle.er_io.specs.Ends.{Puts}
use Rattle.er_run.proofs.JudgedLemmas.{some_orders, orders_due}
use Rattle.er_run.proofs.tell.put_orders.Goals as goal

pub write_schedules-requires : goal.write_schedules-requires
write_schedules-requires g c =
    let r = c.requires in
    record {
      first = r.are.has_race.0;
      within = r.are.has_race.1;
      orders = ∣ some_orders c.args.session.now c.args.races.now c.args.race c.args.orders.now r ∣₁;
    }

pub returns : goal.returns
returns g c = λ h stands are.
    orders_due c.args.session.now c.args.races.now c.args.race c.args.orders.now h (λ text. Puts g.K.Sink.got g.K.Sink.faults c.args.sink.now text c.write_schedules.new.sink c.write_schedules.result) stands are c.write_schedules.ensures
