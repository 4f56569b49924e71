use Rattle.er_access.proofs.TableLemmas.{pairs_seen}
use Rattle.er_access.proofs.table.Table.pairs.Goals as goal

pub returns : goal.returns
returns c = pairs_seen c.self.inside.keys.keys c.self.inside.places.items c.self.inside.accesses.items c.self.inside.pairs c.args.self.now c.self.view_is c.self.invariant
