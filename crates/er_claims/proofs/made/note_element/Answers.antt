use Rattle.er_claims.proofs.ClaimedLemmas.{elements_more}
use Rattle.er_claims.proofs.made.note_element.Goals as goal

pub returns : goal.returns
returns c = λ h stands now.
    let given = c.element_in-pair.ensures.made now.running_action now.action now.event in
    elements_more _ _ c.element_in-pair.result h c.args.rec.now now.running_action c.note_pair.ensures.found stands given now.runs
