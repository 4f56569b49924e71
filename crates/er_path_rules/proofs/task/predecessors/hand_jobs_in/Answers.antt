use Rattle.er_history.specs.Kinds.{is_job_within}
use Rattle.er_page.proofs.HandingLemmas.{slice_events}
use Rattle.er_path_rules.proofs.task.HandLemmas.{within_whole, within_part}
use Rattle.er_path_rules.proofs.task.predecessors.hand_jobs_in.Goals as goal

pub hand_each-requires : goal.hand_each-requires
hand_each-requires c = record { events = slice_events c.args.page.now (is_job_within c.args.dispatch) c.jobs_in.result.now c.requires.some c.jobs_in.ensures }

pub returns-clause-whole : goal.returns-clause-whole
returns-clause-whole c = within_whole c.args.page.now c.args.dispatch c.jobs_in.result.now c.hand_each.result c.args.out.now.items c.hand_each.new.out.items c.jobs_in.ensures c.hand_each.ensures.whole

pub returns-clause-part : goal.returns-clause-part
returns-clause-part c = within_part c.args.page.now c.args.dispatch c.jobs_in.result.now c.hand_each.result c.args.out.now.items c.hand_each.new.out.items c.jobs_in.ensures c.hand_each.ensures.part
