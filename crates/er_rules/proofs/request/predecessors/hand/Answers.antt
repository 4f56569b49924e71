use Rattle.er_rules.proofs.request.predecessors.hand.Goals as goal

pub returns-in-Reply-clause-exact : goal.returns-in-Reply-clause-exact
returns-in-Reply-clause-exact c = rw c.in-Reply.is c.hand_for_reply.ensures.whole

pub returns-in-Reply-clause-front : goal.returns-in-Reply-clause-front
returns-in-Reply-clause-front c = rw c.in-Reply.is c.hand_for_reply.ensures.part
