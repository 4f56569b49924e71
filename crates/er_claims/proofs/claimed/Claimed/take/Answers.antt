use Rattle.er_claims.proofs.FoundLemmas.{are_still_found, timer_is_found}
use Rattle.er_claims.proofs.ClaimedLemmas.{timer_fires, timer_listed_fires}
use Rattle.er_claims.proofs.claimed.Claimed.take.Goals as goal

pub returns : goal.returns
returns c = λ h stands now. record {
  tables = c.take.ensures.taken h stands.tables now;
  fired = c.take-2.ensures.fired h c.args.rec.now stands.fired (timer_listed_fires h c.args.rec.now _ _ stands.tables.timeouts c.timer_in-timer.ensures) (timer_fires h c.args.rec.now _ _ stands.tables.timeouts c.timer_in-timer.ensures);
  found = are_still_found _ _ c.take-2.new.self c.take.ensures.kept (c.take-2.ensures.found _ stands.found (timer_is_found _ c.args.rec.now _ c.timer_in-timer.ensures));
}
