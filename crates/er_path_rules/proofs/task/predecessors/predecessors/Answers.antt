use Rattle.std.proofs.Math.Logic.{∥∥₁_elim, ∥∥₁_map}
use Rattle.std.proofs.Props.{props}
use Rattle.er_trace.specs.declared.version.Version.TheVariants.{Three}
use Rattle.er_path_rules.specs.timer.Timed.{IsTimed, IsSomeTimed}
use Rattle.er_path_rules.proofs.task.HandLemmas.{enough_tasks, source_tasks, few_tasks, kept_tasks}
use Rattle.er_path_rules.proofs.task.predecessors.predecessors.Goals as goal

pub returns-clause-enough : goal.returns-clause-enough
returns-clause-enough c = enough_tasks (IsTimed Three c.args.page.now c.args.clocks.now) c.args.rec.now c.args.out.now.items c.hand.new.out.items c.hand.result c.hand.ensures.whole

pub returns-clause-sources : goal.returns-clause-sources
returns-clause-sources c = source_tasks (IsTimed Three c.args.page.now c.args.clocks.now) c.args.rec.now c.args.out.now.items c.hand.new.out.items c.hand.result c.hand.ensures.part

pub returns-clause-few : goal.returns-clause-few
returns-clause-few c = few_tasks (IsTimed Three c.args.page.now c.args.clocks.now) c.args.rec.now c.args.out.now.items c.hand.new.out.items c.hand.result c.hand.ensures.whole c.hand.ensures.part

pub returns-clause-kept : goal.returns-clause-kept
returns-clause-kept c = ∥∥₁_elim c.requires.timed (hlevel props) (λ (is : IsSomeTimed Three c.args.page.now c.args.clocks.now).
    kept_tasks (IsTimed Three c.args.page.now c.args.clocks.now) c.args.rec.now c.args.out.now.items c.hand.new.out.items c.hand.result c.hand.ensures.whole c.hand.ensures.part is.list is.stands)

pub hand-requires : goal.hand-requires
hand-requires c = record { some = ∥∥₁_map c.requires.timed (λ (is : IsSomeTimed Three c.args.page.now c.args.clocks.now). record { list = is.list; stands = is.stands.page }) }
