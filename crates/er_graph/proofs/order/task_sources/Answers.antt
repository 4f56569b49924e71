use Rattle.std.proofs.Common.{ap, subst}
use Rattle.std.proofs.lemmas.Result.{on_ok_weaker}
use Rattle.er_trace.specs.declared.version.Version.{Version}
use Rattle.er_trace.specs.Versions.{has_tasks}
use Rattle.er_history.specs.Rules.{rules}
use Rattle.er_path_rules.specs.timer.Timed.{IsSomeTimed}
use Rattle.er_graph.proofs.TaskLemmas.{nothing_by_tasks}
use Rattle.er_graph.proofs.order.task_sources.Goals as goal

pub returns-in-One : goal.returns-in-One
returns-in-One c = λ h timed are next. nothing_by_tasks c.args.version (rules c.args.version) h c.args.rec.now c.args.out.now.items (ap has_tasks c.in-One.is) are next

pub returns-in-Two : goal.returns-in-Two
returns-in-Two c = λ h timed are next. nothing_by_tasks c.args.version (rules c.args.version) h c.args.rec.now c.args.out.now.items (ap has_tasks c.in-Two.is) are next

pub predecessors-requires : goal.predecessors-requires
predecessors-requires c = record { timed = subst (λ (v : Version). ∥ IsSomeTimed v c.args.page.now c.args.clocks.now ∥₁) c.in-Three.is c.requires.timed }

pub returns-in-Three : goal.returns-in-Three
returns-in-Three c = rw c.in-Three.is (on_ok_weaker c.predecessors.result (λ hands h timed are next. hands h timed next) c.predecessors.ensures.enough)
