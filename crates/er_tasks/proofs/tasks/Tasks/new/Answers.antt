use Rattle.std.proofs.Common.{sym, subst}
use Rattle.er_history.specs.Tasks.{OfMessage, OfAnim, OfJob}
use Rattle.er_tasks.specs.Begun.{AreBegun}
use Rattle.er_tasks.proofs.TaskLemmas.{none_begun}
use Rattle.er_tasks.proofs.tasks.Tasks.new.Goals as goal

pub returns : goal.returns
returns c = record {
  messages = c.new.ensures OfMessage;
  anims = c.new-2.ensures OfAnim;
  jobs = c.new-3.ensures OfJob;
  queued = c.new-4.ensures.queued;
  begun = λ u. subst (AreBegun _ _) (sym (c.new-4.ensures.none u)) (none_begun _ _);
}
