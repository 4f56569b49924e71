-- What naming asks of tasks and of all other numbers is all that it asks.
use Rattle.std.proofs.Common.{◌≡◌, Bool, true, false, List, refl}
use Rattle.std.specs.Prelude.{◌||◌, if◌then◌else◌}
use Rattle.er_trace.specs.declared.record.Record.{Record}
use Rattle.er_trace.specs.Versions.{is_of_task}
use Rattle.er_history.specs.Naming.{again, unknown}
use Rattle.er_claims.specs.Claimed.{number_again, unknown_number}
use Rattle.er_tasks.specs.Tasks.{task_again, unknown_task}

or_false : (b : Bool) → (b || false) ≡ b
or_false true = refl
or_false false = refl

-- what is said of records that are of tasks, and of all others, is said of all
either : (task told : Bool) → ((if task then false else told) || (if task then told else false)) ≡ told
either true told = refl
either false told = or_false told

pub either_unknown : (h : List Record) (x : Record) → (unknown_number h x || unknown_task h x) ≡ unknown h x
either_unknown h x = either (is_of_task x) (unknown h x)

pub either_again : (h : List Record) (x : Record) → (number_again h x || task_again h x) ≡ again h x
either_again h x = either (is_of_task x) (again h x)
