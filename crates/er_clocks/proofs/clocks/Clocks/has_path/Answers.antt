use Rattle.er_clocks.proofs.LookUps.{as_seen, chain_seen, joined_seen, place_seen}
use Rattle.er_clocks.proofs.clocks.Clocks.has_path.Goals as goal

pub returns : goal.returns
returns c =
    let s = as_seen c.self.inside c.args.self.now c.self.invariant c.self.view_is in
    joined_seen c.args.self.now c.args.i c.args.j c.index.result.now c.index-2.result.now c.own_entry.result c.requires.first
    (place_seen c.self.inside c.args.self.now c.args.i c.index.result.now s c.requires.first c.index.ensures)
    (chain_seen c.self.inside c.args.self.now c.args.i c.index-2.result.now s c.requires.first c.index-2.ensures) c.own_entry.ensures
