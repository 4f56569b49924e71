use Rattle.std.proofs.Common.{◌∙◌, arith}
use Rattle.er_clocks.proofs.AskedLemmas.{laid_at}
use Rattle.er_clocks.proofs.LookUps.{as_seen, chains_seen}
use Rattle.er_clocks.proofs.clocks.Clocks.laid_out.Goals as goal

pub index_mut-requires : goal.index_mut-requires
index_mut-requires c =
    let all = chains_seen c.self.inside c.args.self.now (as_seen c.self.inside c.args.self.now c.self.invariant c.self.view_is) in
    omega (arith, c.target-target.ensures.there, all, c.count-count.ensures, c.in_ok-laid.ensures.long, c.in_ok-laid.laid.ok.0)

pub returns : goal.returns
returns c =
    let target = c.target-target.result in
    let all = chains_seen c.self.inside c.args.self.now (as_seen c.self.inside c.args.self.now c.self.invariant c.self.view_is) in
    let long = c.in_ok-laid.ensures.long ∙ c.count-count.ensures ∙ all in
    laid_at c.args.self.now c.args.j target.chain target.number target.row.now c.in_ok-laid.laid.items long c.target-target.ensures.there
    (λ d h. c.in_ok-laid.ensures.same d (omega (arith, h, all, c.count-count.ensures))) c.target-target.ensures.entries
