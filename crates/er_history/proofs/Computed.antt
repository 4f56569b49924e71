-- Rows, by computing.
use Rattle.std.proofs.Common.{refl}
use Rattle.er_history.specs.Rows.{RulesAreNumbered, EachRule, NestedDispatches, TimersOnTimers, TimersOfPieces, JobsAndCallbacks, JobsInDispatches, TasksOfLaterPieces, TimersOfStepsInThree, FramesThatScriptsMade, LaterLoadEvent, MisplacedJobs, LateRecords}

pub rules_are_numbered : RulesAreNumbered
rules_are_numbered v = refl

pub each_rule : EachRule
each_rule = record { one = record { edges = refl; legal = refl }; two = record { edges = refl; legal = refl }; three = record { edges = refl; legal = refl } }

pub nested_dispatches : NestedDispatches
nested_dispatches = record { one = record { edges = refl; legal = refl }; two = record { edges = refl; legal = refl }; three = record { edges = refl; legal = refl } }

pub timers_on_timers : TimersOnTimers
timers_on_timers = record { edges = refl; legal = refl }

pub timers_of_pieces : TimersOfPieces
timers_of_pieces = record { edges = refl; legal = refl }

pub jobs_and_callbacks : JobsAndCallbacks
jobs_and_callbacks = record { edges = refl; legal = refl }

pub jobs_in_dispatches : JobsInDispatches
jobs_in_dispatches = record { edges = refl; legal = refl }

pub tasks_of_later_pieces : TasksOfLaterPieces
tasks_of_later_pieces = record { edges = refl; legal = refl }

pub timers_of_steps_in_three : TimersOfStepsInThree
timers_of_steps_in_three = record { edges = refl; legal = refl }

pub frames_that_scripts_made : FramesThatScriptsMade
frames_that_scripts_made = record { edges = refl; legal = refl }

pub later_load_event : LaterLoadEvent
later_load_event = record { edges = refl; legal = refl }

pub misplaced_jobs : MisplacedJobs
misplaced_jobs = refl

pub late_records : LateRecords
late_records = refl

pub ruleset worked_edges = (each_rule, nested_dispatches, timers_on_timers, timers_of_pieces, jobs_and_callbacks, jobs_in_dispatches, tasks_of_later_pieces, timers_of_steps_in_three, frames_that_scripts_made, later_load_event, misplaced_jobs, late_records)
