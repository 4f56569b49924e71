use Rattle.er_rules.proofs.dispatch.predecessors.hand.Goals as goal

pub returns-in-Wfire-clause-exact : goal.returns-in-Wfire-clause-exact
returns-in-Wfire-clause-exact c = rw c.in-Wfire.is c.hand_at_window.ensures.whole

pub returns-in-Wfire-clause-front : goal.returns-in-Wfire-clause-front
returns-in-Wfire-clause-front c = rw c.in-Wfire.is c.hand_at_window.ensures.part

pub returns-in-Dcl-clause-exact : goal.returns-in-Dcl-clause-exact
returns-in-Dcl-clause-exact c = rw c.in-Dcl.is c.hand_document.ensures.whole

pub returns-in-Dcl-clause-front : goal.returns-in-Dcl-clause-front
returns-in-Dcl-clause-front c = rw c.in-Dcl.is c.hand_document.ensures.part

pub returns-in-Load-clause-exact : goal.returns-in-Load-clause-exact
returns-in-Load-clause-exact c = rw c.in-Load.is c.hand_document-in-Load.ensures.whole

pub returns-in-Load-clause-front : goal.returns-in-Load-clause-front
returns-in-Load-clause-front c = rw c.in-Load.is c.hand_document-in-Load.ensures.part

pub returns-in-Run-clause-exact : goal.returns-in-Run-clause-exact
returns-in-Run-clause-exact c = rw c.in-Run.is c.hand_for_run.ensures.whole

pub returns-in-Run-clause-front : goal.returns-in-Run-clause-front
returns-in-Run-clause-front c = rw c.in-Run.is c.hand_for_run.ensures.part
