use Rattle.std.proofs.Common.{◌∙◌}
use Rattle.er_claims.proofs.FoundLemmas.{are_still_found}
use Rattle.er_claims.proofs.claimed.Claimed.make_room.Goals as goal

pub returns-clause-kept : goal.returns-clause-kept
returns-clause-kept c = λ h stands. record {
  tables = c.make_room.ensures.kept h stands.tables;
  fired = c.make_room-2.ensures.kept h stands.fired;
  found = c.make_room-2.ensures.found _ (are_still_found _ _ c.args.self.now.fired (λ k x is. c.make_room.ensures.timeouts k ∙ is) stands.found);
}
