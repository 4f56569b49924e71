use Rattle.std.proofs.Common.{ℕ, ◌≡◌, ◌+◌, ◌-◌, List, length, arith}
use Rattle.std.proofs.lemmas.Result.{on_ok_weaker}
use Rattle.er_paths.specs.links.Links.{links_of}
use Rattle.er_clocks.proofs.Again.{newest_repeats}
use Rattle.er_clocks.proofs.Growth.{made_of, stands_again}
use Rattle.er_clocks.proofs.LookUps.{as_seen}
use Rattle.er_clocks.proofs.clocks.Clocks.push_again.Goals as goal

pub put-requires : goal.put-requires
put-requires c =
    let seen = c.args.self.now in
    let n : ℕ = length seen - 1 in
    let made = c.sources_of_newest-sources.ensures in
    let sources = c.sources_of_newest-sources.result in
    let links : List ℕ = links_of seen n in
    let newest : n + 1 ≡ length seen = omega (arith, c.requires.begun) in
    let again = newest_repeats seen n newest in
    record {
      room = c.requires.room;
      links = made.known.0;
      reach = made.known.1;
      made = made_of seen sources.links sources.reach links (made.links links again) (made.reach links again);
    }

pub returns-clause-pushed : goal.returns-clause-pushed
returns-clause-pushed c =
    let s = as_seen c.self.inside c.args.self.now c.self.invariant c.self.view_is in
    on_ok_weaker c.put.result
    (λ put. stands_again c.self.inside c.args.self.now c.put.new.self c.sources_of_newest-sources.result.links s c.requires.begun c.sources_of_newest-sources.ensures.newest put) c.put.ensures.put
