use Rattle.er_rules.proofs.parse.due.hand_due.Goals as goal

pub returns-in-Parse-clause-whole : goal.returns-in-Parse-clause-whole
returns-in-Parse-clause-whole c = rw c.in-Parse.is c.hand_step.ensures.whole

pub returns-in-Parse-clause-part : goal.returns-in-Parse-clause-part
returns-in-Parse-clause-part c = rw c.in-Parse.is c.hand_step.ensures.part

pub returns-in-ParseFrame-clause-whole : goal.returns-in-ParseFrame-clause-whole
returns-in-ParseFrame-clause-whole c = rw c.in-ParseFrame.is c.hand_step-in-ParseFrame.ensures.whole

pub returns-in-ParseFrame-clause-part : goal.returns-in-ParseFrame-clause-part
returns-in-ParseFrame-clause-part c = rw c.in-ParseFrame.is c.hand_step-in-ParseFrame.ensures.part
