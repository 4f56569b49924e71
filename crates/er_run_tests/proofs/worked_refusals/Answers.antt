use Rattle.er_run_tests.proofs.Computed.{unknown_timeout, not_a_script, run_too_late}
use Rattle.er_run_tests.proofs.worked_refusals.Goals as goal

pub returns-clause-unknown_timeout : goal.returns-clause-unknown_timeout
returns-clause-unknown_timeout c = unknown_timeout

pub returns-clause-not_a_script : goal.returns-clause-not_a_script
returns-clause-not_a_script c = not_a_script

pub returns-clause-run_too_late : goal.returns-clause-run_too_late
returns-clause-run_too_late c = run_too_late
