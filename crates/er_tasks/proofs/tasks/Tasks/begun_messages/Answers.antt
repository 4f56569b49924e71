use Rattle.er_history.specs.Tasks.{OfMessage}
use Rattle.er_tasks.proofs.tasks.Tasks.begun_messages.Goals as goal

pub returns-clause-numbers : goal.returns-clause-numbers
returns-clause-numbers c = λ h stands. c.tasks.ensures.numbers OfMessage h stands.messages

pub returns-clause-begun : goal.returns-clause-begun
returns-clause-begun c = λ h stands. c.tasks.ensures.begun OfMessage h stands.messages
