use Rattle.std.proofs.Common.{subst, sym}
use Rattle.er_access.specs.Numbers.{accesses_of}
use Rattle.er_access.specs.Table.{AreInOrder}
use Rattle.er_access.proofs.TableLemmas.{accesses_seen, rows_seen, rows_rise_at}
use Rattle.er_access.proofs.table.Table.rows.Goals as goal

pub returns-clause-rows : goal.returns-clause-rows
returns-clause-rows c =
    rows_seen c.self.inside.keys.keys c.self.inside.places.items c.self.inside.accesses.items c.self.inside.pairs c.args.self.now c.args.k c.index.result.now c.rows.result.now c.self.view_is c.self.invariant c.requires c.index.ensures c.rows.ensures

pub returns-clause-ascending : goal.returns-clause-ascending
returns-clause-ascending c =
    rows_rise_at (accesses_of c.args.self.now) c.args.k c.rows.result.now
    (rows_seen c.self.inside.keys.keys c.self.inside.places.items c.self.inside.accesses.items c.self.inside.pairs c.args.self.now c.args.k c.index.result.now c.rows.result.now c.self.view_is c.self.invariant c.requires c.index.ensures c.rows.ensures)

pub returns-clause-ordered : goal.returns-clause-ordered
returns-clause-ordered c =
    subst AreInOrder (sym (accesses_seen c.self.inside.keys.keys c.self.inside.places.items c.self.inside.accesses.items c.self.inside.pairs c.args.self.now c.self.view_is c.self.invariant)) c.self.invariant.held.ordered
