use Rattle.std.proofs.Common.{◌∙◌, sym, ap, ◌++◌}
use Rattle.er_history.specs.LookUps.{jobs_queued}
use Rattle.er_history.specs.Tasks.{OfMessage, OfAnim, OfJob, queued_jobs}
use Rattle.er_tasks.specs.Tasks.{with_task, event_under, number_under}
use Rattle.er_tasks.proofs.TaskLemmas.{job_listed, job_events, still_begun}
use Rattle.er_tasks.proofs.RoomLemmas.{noted_room}
use Rattle.er_tasks.proofs.tasks.Tasks.take.Goals as goal

pub take-message-requires : goal.take-message-requires
take-message-requires c = record { room = noted_room OfMessage c.args.self.now.messages _ _ _ (c.posted_in.ensures, c.message_in.ensures) (c.requires.room (sym c.is_of_task.ensures ∙ c.if-not-is_of_task.false)).messages }

pub take-anim-requires : goal.take-anim-requires
take-anim-requires c = record { room = noted_room OfAnim c.args.self.now.anims _ _ _ (c.asked_in.ensures, c.anim_in.ensures) (c.requires.room (sym c.is_of_task.ensures ∙ c.if-not-is_of_task.false)).anims }

pub take-job-requires : goal.take-job-requires
take-job-requires c = record { room = noted_room OfJob c.args.self.now.jobs _ _ _ (c.queued_in.ensures, c.job_in.ensures) (c.requires.room (sym c.is_of_task.ensures ∙ c.if-not-is_of_task.false)).jobs }

pub returns : goal.returns
returns c = λ h stands now.
    let found = c.take-job.ensures.answers ∙ ap (with_task _) c.job_in.ensures in
    record {
      messages = c.take-message.ensures.taken OfMessage h c.args.rec.now (c.posted_in.ensures, c.message_in.ensures) stands.messages now;
      anims = c.take-anim.ensures.taken OfAnim h c.args.rec.now (c.asked_in.ensures, c.anim_in.ensures) stands.anims now;
      jobs = c.take-job.ensures.taken OfJob h c.args.rec.now (c.queued_in.ensures, c.job_in.ensures) stands.jobs now;
      queued = record {
        events = λ u. c.take.ensures.listed u ∙ (ap (λ l. l ++ event_under u c.take-job.result c.args.now.event) (stands.queued.events u)
            ∙ ap (λ l. jobs_queued h u ++ l) (job_events h c.args.rec.now c.args.now c.take-job.result u now (job_listed h c.args.rec.now _ c.take-job.result u stands.jobs.made found)));
        same = λ u. c.take.ensures.numbers u ∙ (ap (λ l. l ++ number_under u c.take-job.result) (stands.queued.same u)
            ∙ ap (λ l. queued_jobs h u ++ l) (job_listed h c.args.rec.now _ c.take-job.result u stands.jobs.made found));
      };
      begun = c.take.ensures.begun _ _ (λ u. still_begun _ _ _ _ _ c.take-job.ensures.declared c.take-job.ensures.started (stands.begun u)) c.take-job.ensures.found;
    }
