use Rattle.std.proofs.Common.{arith}
use Rattle.er_clocks.proofs.LookUps.{as_seen, begun_seen, rows_in}
use Rattle.er_clocks.proofs.Places.{fit_all}
use Rattle.er_clocks.proofs.clocks.Clocks.fit_row.Goals as goal

pub first_full-requires : goal.first_full-requires
first_full-requires c = record { begun = begun_seen c.self.inside c.args.self.now (as_seen c.self.inside c.args.self.now c.self.invariant c.self.view_is) }

pub returns : goal.returns
returns c =
    let was = c.self.inside in
    let s = as_seen c.self.inside c.args.self.now c.self.invariant c.self.view_is in
    fit_all (rows_in was) c.args.self.now was.numbers.items was.places.items was.chains was.count c.args.row.now c.first_full.result s.clock
    c.first_full.ensures.within (λ d h. c.first_full.ensures.lower d (omega arith) h) c.first_full.ensures.full
