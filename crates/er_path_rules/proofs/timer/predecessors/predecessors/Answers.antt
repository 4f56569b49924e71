use Rattle.std.proofs.Math.Logic.{∥∥₁_elim, ∥∥₁_map}
use Rattle.std.proofs.Props.{props}
use Rattle.er_path_rules.specs.timer.Timed.{IsSomeTimed}
use Rattle.er_path_rules.proofs.timer.TimersLemmas.{enough_timers, source_timers, few_timers, kept_timers}
use Rattle.er_path_rules.proofs.timer.predecessors.predecessors.Goals as goal

pub returns-clause-enough : goal.returns-clause-enough
returns-clause-enough c = enough_timers c.args.version c.args.page.now c.args.clocks.now c.args.rec.now c.args.out.now.items c.hand.new.out.items c.hand.result c.hand.ensures.whole

pub returns-clause-sources : goal.returns-clause-sources
returns-clause-sources c = source_timers c.args.version c.args.page.now c.args.clocks.now c.args.rec.now c.args.out.now.items c.hand.new.out.items c.hand.result c.hand.ensures.part

pub returns-clause-few : goal.returns-clause-few
returns-clause-few c = few_timers c.args.version c.args.page.now c.args.clocks.now c.args.rec.now c.args.out.now.items c.hand.new.out.items c.hand.result c.hand.ensures.whole c.hand.ensures.part

pub returns-clause-kept : goal.returns-clause-kept
returns-clause-kept c = ∥∥₁_elim c.requires.timed (hlevel props) (λ (is : IsSomeTimed c.args.version c.args.page.now c.args.clocks.now).
    kept_timers c.args.version c.args.page.now c.args.clocks.now c.args.rec.now c.args.out.now.items c.hand.new.out.items c.hand.result c.hand.ensures.whole c.hand.ensures.part is.list is.stands)

pub hand-requires : goal.hand-requires
hand-requires c = record { some = ∥∥₁_map c.requires.timed (λ (is : IsSomeTimed c.args.version c.args.page.now c.args.clocks.now). record { list = is.list; stands = is.stands.page }) }
