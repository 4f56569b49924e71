use Rattle.std.proofs.Common.{◌∙◌}
use Rattle.std.proofs.Math.Logic.{∥∥₁_map}
use Rattle.er_graph.proofs.AgainLemmas.{newest_begun, none_newest, asked_of_newest}
use Rattle.er_graph.proofs.again.follows_peer.Goals as goal

pub begin_of-requires : goal.begin_of-requires
begin_of-requires c = record {
  begun = ∥∥₁_map c.requires.some (λ is. record { list = is.list; stands = is.stands; begun = newest_begun is.list c.in-Some.newest (c.in-Some.ensures is.list is.stands) });
}

pub returns-in_default : goal.returns-in_default
returns-in_default c = λ h page. none_newest h c.args.rec.now (c.in_default.ensures h page)

pub returns : goal.returns
returns c = λ h page. c.run_peers.ensures h page ∙ asked_of_newest h c.in-Some.newest c.begin_of.result.now c.args.rec.now (c.in-Some.ensures h page) (c.begin_of.ensures h page)
