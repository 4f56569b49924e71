use Rattle.std.proofs.Common.{subst}
use Rattle.er_claims.specs.Claimed.{HasRank}
use Rattle.er_history.proofs.FirstLemmas.{note_keeps}
use Rattle.er_claims.proofs.ClaimedLemmas.{timeouts_more}
use Rattle.er_claims.proofs.RankLemmas.{ranked_more}
use Rattle.er_claims.proofs.made.note_timeout.Goals as goal

pub returns-clause-set : goal.returns-clause-set
returns-clause-set c = λ h stands now.
    let given = c.timeout_in-pair.ensures.set now.running_action now.action now.event in
    timeouts_more _ _ c.timeout_in-pair.result h c.args.rec.now now.running_action c.note_pair.ensures.found stands given now.runs

pub returns-clause-ranked : goal.returns-clause-ranked
returns-clause-ranked c = λ h stands now.
    let given = c.timeout_in-pair.ensures.set now.running_action now.action now.event in
    let rank = subst (HasRank c.timeout_in-pair.result) c.count.ensures c.timeout_in-pair.ensures.ranked in
    ranked_more _ _ c.timeout_in-pair.result h c.args.rec.now now.running_action _ _ c.note_pair.ensures.found c.note_pair.ensures.longer c.note_pair.ensures.counted
    stands given rank now.runs

pub returns-clause-kept : goal.returns-clause-kept
returns-clause-kept c = note_keeps _ _ c.timeout_in-pair.result c.note_pair.ensures.found
