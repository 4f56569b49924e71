use Rattle.std.proofs.Common.{length, refl, ap}
use Rattle.er_trace.specs.declared.record.Record.TheVariants.{Message, Anim, Job, Timer, Tick, Close}
use Rattle.er_trace.specs.declared.version.Version.TheVariants.{Three}
use Rattle.er_history.specs.Kinds.{is_job_within}
use Rattle.er_history.specs.LookUps.{jobs_in}
use Rattle.er_history.specs.Tasks.{OfMessage, OfAnim, OfJob}
use Rattle.er_page.specs.Page.{IsPage}
use Rattle.er_path_rules.specs.timer.Timed.{IsTimed}
use Rattle.er_path_rules.specs.task.Counts.{most_task, queued_count}
use Rattle.er_path_rules.specs.task.Due.{is_job_of}
use Rattle.er_path_rules.specs.task.Parts.{due_for, task_due, task_count, jobs_due, callback_due, callback_count}
use Rattle.er_path_rules.proofs.task.HandLemmas.{whole_as, part_as, message_count, anim_count, job_count}
use Rattle.er_path_rules.proofs.task.predecessors.hand.Goals as goal

pub returns-in-Message-clause-whole : goal.returns-in-Message-clause-whole
returns-in-Message-clause-whole c = rw c.in-Message.is (whole_as (IsTimed Three c.args.page.now c.args.clocks.now) (IsTimed Three c.args.page.now c.args.clocks.now) (callback_due OfMessage c.in-Message.message) (due_for (Message c.in-Message.message)) (callback_count OfMessage c.in-Message.message) (λ h. most_task h (Message c.in-Message.message))
    c.hand_callback.result c.args.out.now.items c.hand_callback.new.out.items (λ h is. is) (λ h is. (λ u. refl, message_count h c.in-Message.message)) c.hand_callback.ensures.whole)

pub returns-in-Message-clause-part : goal.returns-in-Message-clause-part
returns-in-Message-clause-part c = rw c.in-Message.is (part_as (IsTimed Three c.args.page.now c.args.clocks.now) (IsTimed Three c.args.page.now c.args.clocks.now) (callback_due OfMessage c.in-Message.message) (due_for (Message c.in-Message.message)) (callback_count OfMessage c.in-Message.message) (λ h. most_task h (Message c.in-Message.message))
    c.hand_callback.result c.args.out.now.items c.hand_callback.new.out.items (λ h is. is) (λ h is. (λ u. refl, message_count h c.in-Message.message)) c.hand_callback.ensures.part)

pub returns-in-Anim-clause-whole : goal.returns-in-Anim-clause-whole
returns-in-Anim-clause-whole c = rw c.in-Anim.is (whole_as (IsTimed Three c.args.page.now c.args.clocks.now) (IsTimed Three c.args.page.now c.args.clocks.now) (callback_due OfAnim c.in-Anim.anim) (due_for (Anim c.in-Anim.anim)) (callback_count OfAnim c.in-Anim.anim) (λ h. most_task h (Anim c.in-Anim.anim))
    c.hand_callback-in-Anim.result c.args.out.now.items c.hand_callback-in-Anim.new.out.items (λ h is. is) (λ h is. (λ u. refl, anim_count h c.in-Anim.anim)) c.hand_callback-in-Anim.ensures.whole)

pub returns-in-Anim-clause-part : goal.returns-in-Anim-clause-part
returns-in-Anim-clause-part c = rw c.in-Anim.is (part_as (IsTimed Three c.args.page.now c.args.clocks.now) (IsTimed Three c.args.page.now c.args.clocks.now) (callback_due OfAnim c.in-Anim.anim) (due_for (Anim c.in-Anim.anim)) (callback_count OfAnim c.in-Anim.anim) (λ h. most_task h (Anim c.in-Anim.anim))
    c.hand_callback-in-Anim.result c.args.out.now.items c.hand_callback-in-Anim.new.out.items (λ h is. is) (λ h is. (λ u. refl, anim_count h c.in-Anim.anim)) c.hand_callback-in-Anim.ensures.part)

pub returns-in-Job-clause-whole : goal.returns-in-Job-clause-whole
returns-in-Job-clause-whole c = rw c.in-Job.is (whole_as (IsTimed Three c.args.page.now c.args.clocks.now) (IsTimed Three c.args.page.now c.args.clocks.now) (task_due OfJob c.in-Job.job) (due_for (Job c.in-Job.job)) (task_count OfJob c.in-Job.job) (λ h. most_task h (Job c.in-Job.job))
    c.hand_task.result c.args.out.now.items c.hand_task.new.out.items (λ h is. is) (λ h is. (λ u. refl, job_count h c.in-Job.job)) c.hand_task.ensures.whole)

pub returns-in-Job-clause-part : goal.returns-in-Job-clause-part
returns-in-Job-clause-part c = rw c.in-Job.is (part_as (IsTimed Three c.args.page.now c.args.clocks.now) (IsTimed Three c.args.page.now c.args.clocks.now) (task_due OfJob c.in-Job.job) (due_for (Job c.in-Job.job)) (task_count OfJob c.in-Job.job) (λ h. most_task h (Job c.in-Job.job))
    c.hand_task.result c.args.out.now.items c.hand_task.new.out.items (λ h is. is) (λ h is. (λ u. refl, job_count h c.in-Job.job)) c.hand_task.ensures.part)

pub returns-in-Timer-clause-whole : goal.returns-in-Timer-clause-whole
returns-in-Timer-clause-whole c = rw c.in-Timer.is (whole_as (IsTimed Three c.args.page.now c.args.clocks.now) (IsTimed Three c.args.page.now c.args.clocks.now) (jobs_due c.maker_of_timeout.result) (due_for (Timer c.in-Timer.timeout)) (λ h. queued_count h c.maker_of_timeout.result) (λ h. most_task h (Timer c.in-Timer.timeout))
    c.hand_jobs_of.result c.args.out.now.items c.hand_jobs_of.new.out.items (λ h is. is) (λ h is. (λ u. ap (λ o. is_job_of o u) (c.maker_of_timeout.ensures h is.page), ap (queued_count h) (c.maker_of_timeout.ensures h is.page))) c.hand_jobs_of.ensures.whole)

pub returns-in-Timer-clause-part : goal.returns-in-Timer-clause-part
returns-in-Timer-clause-part c = rw c.in-Timer.is (part_as (IsTimed Three c.args.page.now c.args.clocks.now) (IsTimed Three c.args.page.now c.args.clocks.now) (jobs_due c.maker_of_timeout.result) (due_for (Timer c.in-Timer.timeout)) (λ h. queued_count h c.maker_of_timeout.result) (λ h. most_task h (Timer c.in-Timer.timeout))
    c.hand_jobs_of.result c.args.out.now.items c.hand_jobs_of.new.out.items (λ h is. is) (λ h is. (λ u. ap (λ o. is_job_of o u) (c.maker_of_timeout.ensures h is.page), ap (queued_count h) (c.maker_of_timeout.ensures h is.page))) c.hand_jobs_of.ensures.part)

pub returns-in-Tick-clause-whole : goal.returns-in-Tick-clause-whole
returns-in-Tick-clause-whole c = rw c.in-Tick.is (whole_as (IsTimed Three c.args.page.now c.args.clocks.now) (IsTimed Three c.args.page.now c.args.clocks.now) (jobs_due c.maker_of_interval.result) (due_for (Tick c.in-Tick.interval)) (λ h. queued_count h c.maker_of_interval.result) (λ h. most_task h (Tick c.in-Tick.interval))
    c.hand_jobs_of-in-Tick.result c.args.out.now.items c.hand_jobs_of-in-Tick.new.out.items (λ h is. is) (λ h is. (λ u. ap (λ o. is_job_of o u) (c.maker_of_interval.ensures h is.page), ap (queued_count h) (c.maker_of_interval.ensures h is.page))) c.hand_jobs_of-in-Tick.ensures.whole)

pub returns-in-Tick-clause-part : goal.returns-in-Tick-clause-part
returns-in-Tick-clause-part c = rw c.in-Tick.is (part_as (IsTimed Three c.args.page.now c.args.clocks.now) (IsTimed Three c.args.page.now c.args.clocks.now) (jobs_due c.maker_of_interval.result) (due_for (Tick c.in-Tick.interval)) (λ h. queued_count h c.maker_of_interval.result) (λ h. most_task h (Tick c.in-Tick.interval))
    c.hand_jobs_of-in-Tick.result c.args.out.now.items c.hand_jobs_of-in-Tick.new.out.items (λ h is. is) (λ h is. (λ u. ap (λ o. is_job_of o u) (c.maker_of_interval.ensures h is.page), ap (queued_count h) (c.maker_of_interval.ensures h is.page))) c.hand_jobs_of-in-Tick.ensures.part)

pub returns-in-Close-clause-whole : goal.returns-in-Close-clause-whole
returns-in-Close-clause-whole c = rw c.in-Close.is (whole_as (IsTimed Three c.args.page.now c.args.clocks.now) (IsPage c.args.page.now) (λ h. is_job_within c.in-Close.dispatch) (due_for (Close c.in-Close.dispatch)) (λ h. length (jobs_in h c.in-Close.dispatch)) (λ h. most_task h (Close c.in-Close.dispatch))
    c.hand_jobs_in.result c.args.out.now.items c.hand_jobs_in.new.out.items (λ h is. is.page) (λ h is. (λ u. refl, refl)) c.hand_jobs_in.ensures.whole)

pub returns-in-Close-clause-part : goal.returns-in-Close-clause-part
returns-in-Close-clause-part c = rw c.in-Close.is (part_as (IsTimed Three c.args.page.now c.args.clocks.now) (IsPage c.args.page.now) (λ h. is_job_within c.in-Close.dispatch) (due_for (Close c.in-Close.dispatch)) (λ h. length (jobs_in h c.in-Close.dispatch)) (λ h. most_task h (Close c.in-Close.dispatch))
    c.hand_jobs_in.result c.args.out.now.items c.hand_jobs_in.new.out.items (λ h is. is.page) (λ h is. (λ u. refl, refl)) c.hand_jobs_in.ensures.part)
