use Rattle.er_history.specs.Tasks.{OfJob}
use Rattle.er_path_rules.proofs.task.HandLemmas.{jobs_of, list_events, list_runs, list_joined, no_jobs, jobs_whole, jobs_part}
use Rattle.er_path_rules.proofs.task.TellLemmas.{of_queuer}
use Rattle.er_path_rules.proofs.task.predecessors.hand_jobs_of.Goals as goal

pub returns-in_default-clause-whole : goal.returns-in_default-clause-whole
returns-in_default-clause-whole c = rw c.in_default.is (no_jobs c.args.page.now c.args.clocks.now c.args.out.now.items)

pub hand_before-requires : goal.hand_before-requires
hand_before-requires c =
    let page = c.args.page.now in
    let jobs = c.begun_jobs_of in
    record {
      events = list_events OfJob page jobs.result.now c.requires.some jobs.ensures.begun;
      runs = list_runs OfJob page jobs.result.now c.requires.some jobs.ensures.begun;
      joined = list_joined OfJob page c.args.clocks.now (of_queuer c.in-Some.queuer) jobs.result.now (jobs_of c.in-Some.queuer page jobs.result.now jobs.ensures.numbers jobs.ensures.begun);
    }

pub returns-clause-whole : goal.returns-clause-whole
returns-clause-whole c = rw c.in-Some.is (jobs_whole c.in-Some.queuer c.args.page.now c.args.clocks.now c.begun_jobs_of.result.now c.hand_before.result c.args.out.now.items c.hand_before.new.out.items
    c.begun_jobs_of.ensures.numbers c.begun_jobs_of.ensures.begun c.hand_before.ensures.whole)

pub returns-clause-part : goal.returns-clause-part
returns-clause-part c = rw c.in-Some.is (jobs_part c.in-Some.queuer c.args.page.now c.args.clocks.now c.begun_jobs_of.result.now c.hand_before.result c.args.out.now.items c.hand_before.new.out.items
    c.begun_jobs_of.ensures.numbers c.begun_jobs_of.ensures.begun c.hand_before.ensures.part)
